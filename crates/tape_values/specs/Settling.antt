-- Characters of a string behind which no escape is open, wherever a reading of it stands before them.
use Rattle.std.specs.Prelude.{◌≡◌, ℕ, zero, suc, Bool, true, false, not, ◌&&◌, cond, eqb, leb, ltb, List, [], ◌∷◌}
use Rattle.json_strings.specs.Spelling.{hex_value}
use Rattle.json_text.specs.declared.modes.Mode.{Mode}
use Rattle.json_text.specs.declared.modes.Mode.TheVariants.{Between, Escape, Hex}
use Rattle.tape_values.specs.declared.settling.Reading.{Reading}

-- whether the unit may be a high surrogate behind a digit of this value, behind which n follow: the first is D, and the second 8 to B
abbrev pub high_by : ℕ → ℕ → Bool → Bool
high_by n v may = cond (eqb n 2) (eqb v 13) (cond (eqb n 1) (may && (leb 8 v && ltb v 12)) may)

-- Nothing is open behind these characters, of which a reading comes to the first in this mode. `high`: a high surrogate may have ended right
-- before. `may`: the unit that is read may be one.
abbrev pub settles : Mode → Bool → Bool → List ℕ → Bool
settles Between high may [] = not high
settles Escape high may [] = false
settles (Hex n) high may [] = false
settles Between high may (c ∷ cs) = cond (eqb c 92) (settles Escape high false cs) (settles Between false false cs)
settles Escape high may (c ∷ cs) = cond (eqb c 117) (settles (Hex 3) high false cs) (settles Between false false cs)
settles (Hex zero) high may (c ∷ cs) = settles Between may false cs
settles (Hex (suc n)) high may (c ∷ cs) = settles (Hex n) high (high_by n (hex_value c) may) cs

abbrev pub settles_from : Reading → List ℕ → Bool
settles_from r cs = settles r.mode r.is_high r.may_be_high cs

-- wherever a reading stands
pub record AreSettled (cs : List ℕ) : Type 0 where
  pub between : settles Between true true cs ≡ true
  pub escape : settles Escape true true cs ≡ true
  pub last : settles (Hex 0) true true cs ≡ true
  pub third : settles (Hex 1) true true cs ≡ true
  pub second : settles (Hex 2) true true cs ≡ true
  pub first : settles (Hex 3) true true cs ≡ true
