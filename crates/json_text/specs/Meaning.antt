-- What a string or a name means: a list of scalar values, or nothing where a surrogate is lone (RFC 8259, section 7).
use Rattle.std.specs.Prelude.{ℕ, ◌+◌, ◌-◌, ◌*◌, ◌<◌, ◌≤◌, ◌⊎◌, Bool, ◌&&◌, List, [], ◌∷◌, Option, Some, None, eqb, leb, cond}
use Rattle.json_text.specs.Tree.{Spelt, Plain, Short, Unit4}

-- the value of a backslash and a letter: \b, \f, \n, \r and \t have values of their own, the others stand for themselves
abbrev pub short_value : ℕ → ℕ
short_value l = cond (eqb l 98) 8 (cond (eqb l 102) 12 (cond (eqb l 110) 10 (cond (eqb l 114) 13 (cond (eqb l 116) 9 l))))

abbrev pub IsHigh : ℕ → Type 0
IsHigh u = (0xD800 ≤ u) × (u ≤ 0xDBFF)

abbrev pub IsLow : ℕ → Type 0
IsLow u = (0xDC00 ≤ u) × (u ≤ 0xDFFF)

-- the scalar value that a high and a low surrogate spell together
abbrev pub pair_value : ℕ → ℕ → ℕ
pair_value h l = 0x10000 + (h - 0xD800) * 0x400 + (l - 0xDC00)

-- the characters mean these scalar values
pub data Means : List Spelt → List ℕ → Type 0 where
  nothing : Means [] []
  plain : {c : ℕ} {cs : List Spelt} {vs : List ℕ} → Means cs vs → Means (Plain c ∷ cs) (c ∷ vs)
  short : {l : ℕ} {cs : List Spelt} {vs : List ℕ} → Means cs vs → Means (Short l ∷ cs) (short_value l ∷ vs)
  -- a unit that is no surrogate
  unit : {u : ℕ} {cs : List Spelt} {vs : List ℕ} → (u < 0xD800) ⊎ (0xDFFF < u) → Means cs vs → Means (Unit4 u ∷ cs) (u ∷ vs)
  -- a high surrogate directly followed by a low one
  pair : {h l : ℕ} {cs : List Spelt} {vs : List ℕ} → IsHigh h → IsLow l → Means cs vs
      → Means (Unit4 h ∷ Unit4 l ∷ cs) (pair_value h l ∷ vs)

-- a surrogate is lone where the characters mean nothing
abbrev pub HasLone : List Spelt → Type 0
HasLone cs = (vs : List ℕ) → Means cs vs → ⊥

-- ---- The meaning as a function. A lone surrogate adds nothing here; of an accepted text no surrogate is lone.

abbrev pub is_high : ℕ → Bool
is_high u = leb 0xD800 u && leb u 0xDBFF

abbrev pub is_low : ℕ → Bool
is_low u = leb 0xDC00 u && leb u 0xDFFF

-- a low surrogate adds a scalar value where a high one stands right before it
abbrev pub paired : Option ℕ → ℕ → List ℕ → List ℕ
paired None l vs = vs
paired (Some h) l vs = pair_value h l ∷ vs

-- what the characters mean behind this high surrogate, or behind none
abbrev pub meaning_after : Option ℕ → List Spelt → List ℕ
meaning_after high [] = []
meaning_after high (Plain c ∷ cs) = c ∷ meaning_after None cs
meaning_after high (Short l ∷ cs) = short_value l ∷ meaning_after None cs
meaning_after high (Unit4 u ∷ cs) =
    cond (is_high u) (meaning_after (Some u) cs) (cond (is_low u) (paired high u (meaning_after None cs)) (u ∷ meaning_after None cs))

unfoldable pub meaning : List Spelt → List ℕ
meaning cs = meaning_after None cs
