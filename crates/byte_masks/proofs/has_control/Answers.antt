use Rattle.std.proofs.Common.{◌≡◌, ℕ, ◌+◌, ◌≤◌, min, false, get_or, nat_lt, sym, ap, ap₂, ◌∙◌, arith, zero-add}
use Rattle.std.specs.List.{range_with_len}
use Rattle.std.proofs.lemmas.Bool.Decides.{nat_tests}
use lib.Dec.{T}
use lib.Lanes.{all_below}
use Rattle.byte_masks.specs.Classes.{control_byte}
use Rattle.byte_masks.proofs.Lanes.{taken_at, none_of}
use Rattle.byte_masks.proofs.has_control.Goals as goal

-- the least of four
none : (a b c d : ℕ) → nat_lt (min (min a b) (min c d)) 32 ≡ false → (nat_lt a 32 ≡ false) × (nat_lt b 32 ≡ false) × (nat_lt c 32 ≡ false) × (nat_lt d 32 ≡ false)
none a b c d e = (grind (arith, nat_tests), grind (arith, nat_tests), grind (arith, nat_tests), grind (arith, nat_tests))

pub returns : goal.returns
returns c unset = let lanes = c.args.lanes in grind (arith, none_of (λ i. control_byte (get_or lanes i 0)) (λ k h. let at = λ (from : ℕ) (below : T (all_below 64 (range_with_len from 16))) (inside : from + 16 ≤ 64). taken_at lanes from k c.fits-lanes.0 below inside h in let first = c.lesser-first.ensures k h ∙ ap₂ min (at 0 tt (omega arith) ∙ ap (λ i. get_or lanes i 0) (zero-add k)) (at 16 tt (omega arith)) in let second = c.lesser-second.ensures k h ∙ ap₂ min (at 32 tt (omega arith)) (at 48 tt (omega arith)) in none _ _ _ _ (ap control_byte (sym (c.lesser.ensures k h ∙ ap₂ min first second)) ∙ c.control_among.ensures unset k h)))
