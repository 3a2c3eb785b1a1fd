-- Characters without a lone surrogate have a meaning.
use Rattle.json_text.proofs.Names.{◌≡◌, ℕ, ◌+◌, ◌-◌, ◌*◌, ◌<◌, ◌⊎◌, Bool, true, false, cond, List, [], ◌∷◌, Option, Some, None, refl, sym, subst}
use Rattle.json_text.proofs.Names.{arith, inl, inr, nat_tests, Spelt, Plain, Short, Unit4, IsHigh, Means, nothing, plain, short, unit, HasLone}
use Rattle.json_text.proofs.Names.{cases_Bool}
use Rattle.json_text.specs.Meaning.{IsLow, pair, meaning, short_value, is_high, is_low}
use Rattle.json_text.proofs.Meanings.{meaning_is}

-- the search over characters
abbrev pub after_one : Spelt → Bool → Option Bool
after_one (Unit4 u) true = cond (is_low u) (Some (is_high u)) None
after_one (Unit4 u) false = cond (is_low u) None (Some (is_high u))
after_one _ true = None
after_one _ false = Some false

abbrev pub over_chars : Option Bool → (Bool → Bool) → Bool
over_chars None f = true
over_chars (Some h) f = f h

abbrev pub lone_chars : Bool → List Spelt → Bool
lone_chars h [] = h
lone_chars h (c ∷ cs) = over_chars (after_one c h) (λ g. lone_chars g cs)

-- what has a meaning has no lone surrogate
pub means_none : {cs : List Spelt} {vs : List ℕ} → Means cs vs → lone_chars false cs ≡ false
means_none nothing = refl
means_none (plain h) = means_none h
means_none (short h) = means_none h
means_none (unit {u = u} {cs = cs} r h) = grind (arith, means_none h)
means_none (pair {h = u} {l = v} {cs = cs} p q h) = search (arith, means_none h)

-- and back
abbrev pub Meant : Bool → List Spelt → Type 0
Meant false cs = (vs : List ℕ) × Means cs vs
Meant true cs = (u : ℕ) × (others : List Spelt) × (vs : List ℕ) × (cs ≡ Unit4 u ∷ others) × IsLow u × Means others vs

low_is : (u : ℕ) → is_low u ≡ true → IsLow u
low_is u h = (grind (arith, nat_tests), grind (arith, nat_tests))

high_is : (u : ℕ) → is_high u ≡ true → IsHigh u
high_is u h = (grind (arith, nat_tests), grind (arith, nat_tests))

no_unit : (u : ℕ) → is_low u ≡ false → is_high u ≡ false → (u < 0xD800) ⊎ (0xDFFF < u)
no_unit u l h = grind (arith, nat_tests)

unit_meant : (u : ℕ) (cs : List Spelt) (high : Bool) → lone_chars high (Unit4 u ∷ cs) ≡ false → ((g : Bool) → lone_chars g cs ≡ false → Meant g cs) → Meant high (Unit4 u ∷ cs)
unit_meant u cs true e ih = grind (arith, low_is)
unit_meant u cs false e ih = by_low (is_low u) refl where
  by_high : (t : Bool) → is_high u ≡ t → is_low u ≡ false → Meant false (Unit4 u ∷ cs)
  by_high true g l = let r = ih true (rw (l, g) at e) in
      (_, subst (λ x. Means (Unit4 u ∷ x) ((0x10000 + (u - 0xD800) * 0x400 + (r.0 - 0xDC00)) ∷ r.2)) (sym r.3) (pair (high_is u g) r.4 r.5))
  by_high false g l = let r = ih false (rw (l, g) at e) in (u ∷ r.0, unit (no_unit u l g) r.1)

  by_low : (t : Bool) → is_low u ≡ t → Meant false (Unit4 u ∷ cs)
  by_low true l = absurd (let x = rw l at e in cc)
  by_low false l = by_high (is_high u) refl l

pub meant : (cs : List Spelt) (high : Bool) → lone_chars high cs ≡ false → Meant high cs
meant [] false e = ([], nothing)
meant (Plain c ∷ cs) false e = let r = meant cs false e in (c ∷ r.0, plain r.1)
meant (Short l ∷ cs) false e = let r = meant cs false e in (short_value l ∷ r.0, short r.1)
meant (Unit4 u ∷ cs) high e = unit_meant u cs high e (λ g. meant cs g)
meant _ true e = absurd (cc)

-- what has no lone surrogate means what the function gives
pub means_unless : (cs : List Spelt) → (HasLone cs → ⊥) → Means cs (meaning cs)
means_unless cs h = elim (cases_Bool (lone_chars false cs)) [
  | inl e ↦ absurd (h (λ vs m. let x = means_none m in cc))
  | inr e ↦ let r = meant cs false e in subst (Means cs) (sym (meaning_is r.1)) r.1
]
