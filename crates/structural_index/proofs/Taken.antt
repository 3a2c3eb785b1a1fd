-- A text that is copied a block at a time.
use Rattle.std.proofs.Common.{◌≡◌, ℕ, ◌+◌, ◌≤◌, ◌++◌, List, take, drop, not, IsTrue, sym, ap, ◌∙◌, true≢false, arith}
use Rattle.std.proofs.Math.Dec.{eqb}
use Rattle.std.proofs.Math.Seq.{take-add}
use Rattle.structural_index.specs.Copies.{IsCopiedTo}

-- a const parameter that is 0 is not true
pub is_unset-told : (n : ℕ) → n ≡ 0 → IsTrue (not (eqb n 0)) → ⊥
is_unset-told n z h = true≢false (sym h ∙ ap (λ m. not (eqb m 0)) z)

-- what follows is copied too
pub copied_on : (text copy longer : List ℕ) (at m room more : ℕ) → longer ≡ copy ++ take m (drop at text) → room ≤ more → IsCopiedTo text at copy room → IsCopiedTo text (at + m) longer more
copied_on text copy longer at m room more e grown copied = record {
  front = e ∙ ap (λ l. l ++ take m (drop at text)) copied.front ∙ sym (take-add at m text);
  enough = omega (arith, grown, copied.enough);
}
