-- Tests that agree on each number below a bound, which computation shows.
use Rattle.std.proofs.Common.{◌≡◌, ℕ, zero, suc, ◌<◌, ◌≤◌, ◌⊎◌, inl, inr, Bool, true, false, not, ◌&&◌, sym, refl, ap, ◌∙◌, arith}
use Rattle.std.proofs.lemmas.Bool.{cases_lt, false≢true}

abbrev pub same : Bool → Bool → Bool
same true b = b
same false b = not b

same-is : (a b : Bool) → same a b ≡ true → a ≡ b
same-is true b h = sym h
same-is false true h = h
same-is false false h = refl

abbrev pub all_same : (ℕ → Bool) → (ℕ → Bool) → ℕ → Bool
all_same p q zero = true
all_same p q (suc n) = all_same p q n && same (p n) (q n)

both : (a b : Bool) → (a && b) ≡ true → (a ≡ true) × (b ≡ true)
both true true h = (refl, refl)
both true false h = absurd (false≢true h)
both false b h = absurd (false≢true h)

-- two tests that were found to agree on each number below n
pub each : (p q : ℕ → Bool) (n : ℕ) → all_same p q n ≡ true → (i : ℕ) → i < n → p i ≡ q i
each p q zero h i lt = let no : ⊥ = omega arith in absurd no
each p q (suc n) h i lt = go (cases_lt i n) (both _ _ h) (λ t l. each p q n t i l)
  where
    go : (i < n) ⊎ (n ≤ i) → (all_same p q n ≡ true) × (same (p n) (q n) ≡ true) → (all_same p q n ≡ true → i < n → p i ≡ q i) → p i ≡ q i
    go (inl l) t rest = rest t.0 l
    go (inr g) t rest = let e : i ≡ n = omega arith in ap p e ∙ same-is (p n) (q n) t.1 ∙ ap q (sym e)
