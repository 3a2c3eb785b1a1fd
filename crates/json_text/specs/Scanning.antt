-- The end of a string, byte by byte.
use Rattle.std.specs.Prelude.{ℕ, zero, suc, ◌+◌, Bool, true, false, cond, ◌&&◌, ◌||◌, eqb, leb, ltb, List, [], ◌∷◌, Option, Some, None}
use Rattle.json_text.specs.declared.modes.Mode.{Mode}
use Rattle.json_text.specs.declared.modes.Mode.TheVariants.{Between, Escape, Hex}
use Rattle.json_text.specs.declared.modes.Turn.{Turn}
use Rattle.json_text.specs.declared.modes.Turn.TheVariants.{Stop, Fail, Go}

abbrev pub is_short : ℕ → Bool
is_short l = eqb l 34 || eqb l 92 || eqb l 47 || eqb l 98 || eqb l 102 || eqb l 110 || eqb l 114 || eqb l 116

abbrev pub is_hex : ℕ → Bool
is_hex b = (leb 48 b && leb b 57) || (leb 65 b && leb b 70) || (leb 97 b && leb b 102)

abbrev pub turn : Mode → ℕ → Turn
turn Between b = cond (eqb b 34) Stop (cond (eqb b 92) (Go Escape) (cond (ltb b 32) Fail (Go Between)))
turn Escape b = cond (is_short b) (Go Between) (cond (eqb b 117) (Go (Hex 3)) Fail)
turn (Hex zero) b = cond (is_hex b) (Go Between) Fail
turn (Hex (suc n)) b = cond (is_hex b) (Go (Hex n)) Fail

abbrev pub next_of : Turn → ℕ → (Mode → Option ℕ) → Option ℕ
next_of Stop k go = Some k
next_of Fail k go = None
next_of (Go m) k go = go m

-- the place past the closing quote, from the place k inside a string
abbrev pub string_end : Mode → ℕ → List ℕ → Option ℕ
string_end m k [] = None
string_end m k (b ∷ bs) = next_of (turn m b) (k + 1) (λ n. string_end n (k + 1) bs)

-- each backslash of these bytes that is no part of an escape begins one, whatever stands between them
abbrev pub hold_escapes : Mode → List ℕ → Bool
hold_escapes Between [] = true
hold_escapes Escape [] = false
hold_escapes (Hex n) [] = false
hold_escapes Between (b ∷ bs) = cond (eqb b 92) (hold_escapes Escape bs) (hold_escapes Between bs)
hold_escapes Escape (b ∷ bs) = cond (is_short b) (hold_escapes Between bs) (eqb b 117 && hold_escapes (Hex 3) bs)
hold_escapes (Hex zero) (b ∷ bs) = is_hex b && hold_escapes Between bs
hold_escapes (Hex (suc n)) (b ∷ bs) = is_hex b && hold_escapes (Hex n) bs
