-- Numbers that are added to sums one by one.
use Rattle.std.proofs.Common.{◌≡◌, ℕ, ◌+◌, ◌<◌, List, [], ◌∷◌, refl, ap, ◌∙◌, arith, add-one, length, take}
use Rattle.std.specs.Prelude.{zero, suc, slice_index, slice_set}
use Rattle.admin_pages.specs.Counting.{added, added_each}

one_added : (sums more : List ℕ) (i : ℕ) → i < length more → i < length sums →
    slice_set (added_each sums (take i more)) i (added (slice_index (added_each sums (take i more)) i) (slice_index more i)) ≡ added_each sums (take (suc i) more)
one_added [] more i within room = absurd (omega arith)
one_added (n ∷ ns) [] i within room = absurd (omega arith)
one_added (n ∷ ns) (k ∷ ks) zero within room = refl
one_added (n ∷ ns) (k ∷ ks) (suc i) within room = ap (λ (xs : List ℕ). added n k ∷ xs) (one_added ns ks i (omega arith) (omega arith))

pub next_added : (old sums more : List ℕ) (i new : ℕ) → sums ≡ added_each old (take i more) → i < length more → length old ≡ length more → new ≡ added (slice_index sums i) (slice_index more i) →
    slice_set sums i new ≡ added_each old (take (i + 1) more)
next_added old sums more i new h within same is =
    let room : i < length old = omega arith in
    ap (slice_set sums i) is ∙ ap (λ (xs : List ℕ). slice_set xs i (added (slice_index xs i) (slice_index more i))) h ∙ rw add-one (one_added old more i within room)
