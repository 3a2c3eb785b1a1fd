-- Which bytes of ASCII what is expected names (RFC 8259, sections 2 to 7).
use Rattle.std.specs.Prelude.{ℕ, Bool, false, ◌&&◌, ◌||◌, eqb, leb}
use Rattle.json_text.specs.Scanning.{is_short, is_hex}
use Rattle.text_faults.specs.declared.marks.Expected.{Expected}
use Rattle.text_faults.specs.declared.marks.Expected.TheVariants.{Value, ValueOrBracket, Name, NameOrBrace, Colon, CommaOrBracket, CommaOrBrace, End, Character, Escape, Hexadecimal, Digit, Letter}

-- a quote, a minus, a digit, the first letters of the three words, an opening bracket or brace
abbrev pub begins_value : ℕ → Bool
begins_value c = eqb c 34 || eqb c 45 || (leb 48 c && leb c 57) || eqb c 116 || eqb c 102 || eqb c 110 || eqb c 91 || eqb c 123

abbrev pub names : Expected → ℕ → Bool
names Value c = begins_value c
names ValueOrBracket c = begins_value c || eqb c 93
names Name c = eqb c 34
names NameOrBrace c = eqb c 34 || eqb c 125
names Colon c = eqb c 58
names CommaOrBracket c = eqb c 44 || eqb c 93
names CommaOrBrace c = eqb c 44 || eqb c 125
names End c = false
names Character c = leb 32 c && leb c 127
names Escape c = is_short c || eqb c 117
names Hexadecimal c = is_hex c
names Digit c = leb 48 c && leb c 57
names (Letter letter) c = eqb c letter
