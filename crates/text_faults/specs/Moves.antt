-- What each byte of a text does (RFC 8259, sections 2 to 7): a machine over what may come next and the containers that are open, the innermost first.
use Rattle.std.specs.Prelude.{ℕ, Bool, true, false, cond, ◌&&◌, ◌||◌, eqb, leb, List, [], ◌∷◌, Option, Some, None}
use Rattle.json_text.specs.Scanning.{turn}
use Rattle.json_text.specs.Tokens.{is_blank}
use Rattle.json_text.specs.declared.modes.Mode.{Mode}
use Rattle.json_text.specs.declared.modes.Mode.TheVariants as modes
use Rattle.json_text.specs.declared.modes.Turn.{Turn}
use Rattle.json_text.specs.declared.modes.Turn.TheVariants.{Stop, Fail, Go}
use Rattle.json_text.specs.declared.tape.Shape.{Shape}
use Rattle.json_text.specs.declared.tape.Shape.TheVariants as shapes
use Rattle.text_faults.specs.declared.marks.Digits.{Digits}
use Rattle.text_faults.specs.declared.marks.Digits.TheVariants as digits
use Rattle.text_faults.specs.declared.marks.Expected.{Expected}
use Rattle.text_faults.specs.declared.marks.Expected.TheVariants as expected
use Rattle.text_faults.specs.declared.marks.Letters.{Letters}
use Rattle.text_faults.specs.declared.marks.Letters.TheVariants as letters
use Rattle.text_faults.specs.declared.marks.Move.{Move}
use Rattle.text_faults.specs.declared.marks.Move.TheVariants.{To, Into, Out, Refused}
use Rattle.text_faults.specs.declared.marks.Now.{Now}
use Rattle.text_faults.specs.declared.marks.Now.TheVariants.{Value, FirstValue, Name, FirstName, Colon, Next, Quoted, Number, Word}
use Rattle.text_faults.specs.declared.marks.Purpose.{Purpose}
use Rattle.text_faults.specs.declared.marks.Purpose.TheVariants as purposes

-- a value's first byte
abbrev pub begin : ℕ → Option Now
begin b =
    cond (eqb b 34) (Some (Quoted purposes.Value modes.Between))
    (cond (eqb b 45) (Some (Number digits.Minus))
    (cond (eqb b 48) (Some (Number digits.Zero))
    (cond (leb 49 b && leb b 57) (Some (Number digits.Int))
    (cond (eqb b 116) (Some (Word letters.Rue))
    (cond (eqb b 102) (Some (Word letters.Alse))
    (cond (eqb b 110) (Some (Word letters.Ull))
    (cond (eqb b 91) (Some FirstValue)
    (cond (eqb b 123) (Some FirstName) None))))))))

-- the byte that goes on with a word
abbrev pub letter : Letters → ℕ
letter letters.Rue = 114
letter letters.Ue = 117
letter letters.E = 101
letter letters.Alse = 97
letter letters.Lse = 108
letter letters.Se = 115
letter letters.Ull = 117
letter letters.Ll = 108
letter letters.L = 108

abbrev pub after_letter : Letters → Now
after_letter letters.Rue = Word letters.Ue
after_letter letters.Ue = Word letters.E
after_letter letters.E = Next
after_letter letters.Alse = Word letters.Lse
after_letter letters.Lse = Word letters.Se
after_letter letters.Se = Word letters.E
after_letter letters.Ull = Word letters.Ll
after_letter letters.Ll = Word letters.L
after_letter letters.L = Next

abbrev pub is_digit : ℕ → Bool
is_digit b = leb 48 b && leb b 57

abbrev pub is_e : ℕ → Bool
is_e b = eqb b 101 || eqb b 69

-- the byte behind an integer that goes on with it
abbrev pub point : ℕ → Option Digits
point b = cond (eqb b 46) (Some digits.Point) (cond (is_e b) (Some digits.E) None)

abbrev pub exp_digit : ℕ → Option Digits
exp_digit b = cond (is_digit b) (Some digits.Exp) None

-- a byte that goes on with a number
abbrev pub digit : Digits → ℕ → Option Digits
digit digits.Minus b = cond (eqb b 48) (Some digits.Zero) (cond (leb 49 b && leb b 57) (Some digits.Int) None)
digit digits.Zero b = point b
digit digits.Int b = cond (is_digit b) (Some digits.Int) (point b)
digit digits.Point b = cond (is_digit b) (Some digits.Frac) None
digit digits.Frac b = cond (is_digit b) (Some digits.Frac) (cond (is_e b) (Some digits.E) None)
digit digits.E b = cond (eqb b 45 || eqb b 43) (Some digits.Sign) (exp_digit b)
digit digits.Sign b = exp_digit b
digit digits.Exp b = exp_digit b

-- a number may end here
abbrev pub ends : Digits → Bool
ends digits.Minus = false
ends digits.Zero = true
ends digits.Int = true
ends digits.Point = false
ends digits.Frac = true
ends digits.E = false
ends digits.Sign = false
ends digits.Exp = true

abbrev pub in_container : Option Shape → ℕ → Move
in_container None b = Refused
in_container (Some shapes.Array) b = cond (eqb b 44) (To Value) (cond (eqb b 93) (Out Next) Refused)
in_container (Some shapes.Object) b = cond (eqb b 44) (Out Name) (cond (eqb b 125) (Out Next) Refused)

-- a byte behind a value
abbrev pub follow : Option Shape → ℕ → Move
follow innermost b = cond (is_blank b) (To Next) (in_container innermost b)

abbrev pub to : Option Now → Move
to (Some now) = To now
to None = Refused

abbrev pub into_array : Option Now → Move
into_array (Some now) = Into shapes.Array now
into_array None = Refused

-- the quote of a name
abbrev pub name : ℕ → Move
name b = cond (eqb b 34) (To (Quoted purposes.Name modes.Between)) Refused

abbrev pub after_string : Purpose → Now
after_string purposes.Value = Next
after_string purposes.Name = Colon

abbrev pub quoted : Purpose → Turn → Move
quoted purpose Stop = To (after_string purpose)
quoted purpose Fail = Refused
quoted purpose (Go mode) = To (Quoted purpose mode)

abbrev pub number_end : Bool → Option Shape → ℕ → Move
number_end true innermost b = follow innermost b
number_end false innermost b = Refused

abbrev pub number_next : Option Digits → Bool → Option Shape → ℕ → Move
number_next (Some next) end innermost b = To (Number next)
number_next None end innermost b = number_end end innermost b

abbrev pub number : Digits → Option Shape → ℕ → Move
number d innermost b = number_next (digit d b) (ends d) innermost b

-- what a byte does, by what may come next and the innermost open container
abbrev pub next : Now → Option Shape → ℕ → Move
next Value innermost b = cond (is_blank b) (To Value) (to (begin b))
next FirstValue innermost b = cond (is_blank b) (To FirstValue) (cond (eqb b 93) (To Next) (into_array (begin b)))
next Name innermost b = cond (is_blank b) (To Name) (name b)
next FirstName innermost b = cond (is_blank b) (To FirstName) (cond (eqb b 125) (To Next) (name b))
next Colon innermost b = cond (is_blank b) (To Colon) (cond (eqb b 58) (Into shapes.Object Value) Refused)
next Next innermost b = follow innermost b
next (Quoted purpose mode) innermost b = quoted purpose (turn mode b)
next (Number d) innermost b = number d innermost b
next (Word l) innermost b = cond (eqb b (letter l)) (To (after_letter l)) Refused

abbrev pub behind_value : Option Shape → Expected
behind_value None = expected.End
behind_value (Some shapes.Array) = expected.CommaOrBracket
behind_value (Some shapes.Object) = expected.CommaOrBrace

abbrev pub in_string : Mode → Expected
in_string modes.Between = expected.Character
in_string modes.Escape = expected.Escape
in_string (modes.Hex n) = expected.Hexadecimal

abbrev pub in_number : Bool → Option Shape → Expected
in_number true innermost = behind_value innermost
in_number false innermost = expected.Digit

-- what is said to be expected
abbrev pub expected_of : Now → Option Shape → Expected
expected_of Value innermost = expected.Value
expected_of FirstValue innermost = expected.ValueOrBracket
expected_of Name innermost = expected.Name
expected_of FirstName innermost = expected.NameOrBrace
expected_of Colon innermost = expected.Colon
expected_of Next innermost = behind_value innermost
expected_of (Quoted purpose mode) innermost = in_string mode
expected_of (Number d) innermost = in_number (ends d) innermost
expected_of (Word l) innermost = expected.Letter (letter l)

-- what may come next, and the open containers from the innermost out
pub record State : Type 0 where
  pub now : Now
  pub opens : List Shape

abbrev pub state : Now → List Shape → State
state n os = record { now = n; opens = os }

abbrev pub top : List Shape → Option Shape
top [] = None
top (o ∷ os) = Some o

abbrev pub outer : List Shape → List Shape
outer [] = []
outer (o ∷ os) = os

abbrev pub moved : Move → List Shape → Option State
moved (To n) os = Some (state n os)
moved (Into shape n) os = Some (state n (shape ∷ os))
moved (Out n) os = Some (state n (outer os))
moved Refused os = None

abbrev pub step : State → ℕ → Option State
step s b = moved (next s.now (top s.opens) b) s.opens

abbrev pub step_on : Option State → ℕ → Option State
step_on None b = None
step_on (Some s) b = step s b

-- the bytes one after another
abbrev pub run_on : Option State → List ℕ → Option State
run_on o [] = o
run_on o (b ∷ bs) = run_on (step_on o b) bs

-- before the first byte
abbrev pub start : Option State
start = Some (state Value [])
