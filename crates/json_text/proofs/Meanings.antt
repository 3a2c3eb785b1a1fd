-- The meaning as a function is the meaning as a relation.
use Rattle.json_text.proofs.Names.{◌≡◌, ℕ, ◌<◌, ◌⊎◌, false, List, ◌∷◌, Option, None, refl, ap, arith, nat_tests, Spelt, Means, nothing}
use Rattle.json_text.proofs.Names.{plain, short, unit, meaning_after}
use Rattle.json_text.specs.Meaning.{pair, short_value, is_high, is_low, meaning}

pub no_high : (u : ℕ) → (u < 0xD800) ⊎ (0xDBFF < u) → is_high u ≡ false
no_high u h = grind (arith, nat_tests)

pub no_low : (u : ℕ) → (u < 0xDC00) ⊎ (0xDFFF < u) → is_low u ≡ false
no_low u h = grind (arith, nat_tests)

-- whatever surrogate stands before them
pub meaning_after_is : {cs : List Spelt} {vs : List ℕ} → Means cs vs → (high : Option ℕ) → meaning_after high cs ≡ vs
meaning_after_is nothing high = refl
meaning_after_is (plain {c = c} h) high = ap (λ l. c ∷ l) (meaning_after_is h None)
meaning_after_is (short {l = l} h) high = ap (λ x. short_value l ∷ x) (meaning_after_is h None)
meaning_after_is (unit {u = u} r h) high = grind (arith, meaning_after_is h None)
meaning_after_is (pair {h = u} {l = v} p q h) high = grind (arith, meaning_after_is h None, no_high)

pub meaning_is : {cs : List Spelt} {vs : List ℕ} → Means cs vs → meaning cs ≡ vs
unfolding meaning
meaning_is h = meaning_after_is h None
