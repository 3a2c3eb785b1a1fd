-- The lengths that are kept: one is read, one is written, and there is room for all.
use Rattle.std.proofs.Common.{◌≡◌, ℕ, zero, suc, ◌+◌, ◌<◌, Bool, true, false, List, [], ◌∷◌, ◌++◌, length, take, replicate, get_or, slice_set, Option, Some, None, subst, arith}
use Rattle.std.specs.Prelude.{if◌then◌else◌}
use Rattle.json_tape.specs.Document.{Doc, node_at, length_of}
use Rattle.compared_sides.specs.Counted.{IsCounted, AreCountedFrom, AreCounted}

from_at : (d : Doc) (k : ℕ) (xs : List (Option ℕ)) (i : ℕ) (z : Option ℕ) → i < length xs → AreCountedFrom d k xs → IsCounted d (k + i) (get_or xs i z)
from_at d k [] i z lt r = absurd (omega arith)
from_at d k (x ∷ xs) zero z lt r = let e : k + 0 ≡ k = omega arith in rw e r.0
from_at d k (x ∷ xs) (suc i) z lt r = let e : k + suc i ≡ suc k + i = omega arith in rw e (from_at d (suc k) xs i z (omega arith) r.1)

pub counted_at : (d : Doc) (xs : List (Option ℕ)) (i : ℕ) (z : Option ℕ) → i < length xs → AreCounted d xs → IsCounted d i (get_or xs i z)
counted_at d xs i z lt r = let e : 0 + i ≡ i = omega arith in subst (λ n. IsCounted d n (get_or xs i z)) e (from_at d 0 xs i z lt r)

from_set : (d : Doc) (k : ℕ) (xs : List (Option ℕ)) (i l : ℕ) → AreCountedFrom d k xs → length_of (node_at d (k + i)).tree ≡ Some l → AreCountedFrom d k (slice_set xs i (Some l))
from_set d k [] i l r h = tt
from_set d k (x ∷ xs) zero l r h = let e : k + 0 ≡ k = omega arith in (rw e at h, r.1)
from_set d k (x ∷ xs) (suc i) l r h = let e : k + suc i ≡ suc k + i = omega arith in (r.0, from_set d (suc k) xs i l r.1 (rw e at h))

pub counted_set : (d : Doc) (xs : List (Option ℕ)) (i l : ℕ) → AreCounted d xs → length_of (node_at d i).tree ≡ Some l → AreCounted d (slice_set xs i (Some l))
counted_set d xs i l r h = let e : 0 + i ≡ i = omega arith in from_set d 0 xs i l r (rw e h)

pub ruleset counted = (counted_at, counted_set)

none_from : (d : Doc) (k n : ℕ) → AreCountedFrom d k (replicate n None)
none_from d k zero = tt
none_from d k (suc n) = (tt, none_from d (suc k) n)

-- a list that was empty, made longer or not
pub roomy : (d : Doc) (old new : List (Option ℕ)) (n m : ℕ) (ok : Bool) → AreCounted d old → length old ≡ 0 → new ≡ (if ok then take n old ++ replicate m None else old) → AreCounted d new
roomy d [] new zero m true r empty e = rw e (none_from d 0 m)
roomy d [] new (suc n) m true r empty e = rw e (none_from d 0 m)
roomy d old new n m false r empty e = rw e r
roomy d (x ∷ old) new n m true r empty e = absurd (omega (arith, empty))
