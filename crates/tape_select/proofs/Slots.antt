-- Slots: one is read, one is filled.
use Rattle.std.proofs.Common.{◌≡◌, ℕ, zero, suc, ◌+◌, ◌<◌, List, [], ◌∷◌, ◌++◌, length, get_or, slice_set, Option, Some, None, subst, arith}
use Rattle.json_tape.specs.Document.{Doc, node_at}
use Rattle.query_plan.specs.Planned.{Claimed, Claims, look, numbered}
use Rattle.tape_select.specs.Memo.{IsKept, IsFoundAt, RightFrom, Right}
use Rattle.tape_select.specs.declared.state.Found.{Found}
use Rattle.tape_select.specs.declared.state.Kept.{Kept}
use Rattle.query_plan.specs.Laws.{FindsSlots}
use Rattle.query_plan.specs.Slots.{AreClaimed}

right_from_at : (d : Doc) (table : Claims) (k : ℕ) (ss : List (Option Kept)) (i : ℕ) (z : Option Kept) → i < length ss → RightFrom d table k ss
    → IsKept d (look table (k + i)) (get_or ss i z)
right_from_at d table k [] i z lt r = absurd (omega arith)
right_from_at d table k (s ∷ ss) zero z lt r = let e : k + 0 ≡ k = omega arith in rw e r.0
right_from_at d table k (s ∷ ss) (suc i) z lt r = let e : k + suc i ≡ suc k + i = omega arith in rw e (right_from_at d table (suc k) ss i z (omega arith) r.1)

pub right_at : (d : Doc) (table : Claims) (ss : List (Option Kept)) (i : ℕ) (z : Option Kept) → i < length ss → Right d table ss → IsKept d (look table i) (get_or ss i z)
right_at d table ss i z lt r = let e : 0 + i ≡ i = omega arith in rw e at right_from_at_zero
  where
    right_from_at_zero : IsKept d (look table (0 + i)) (get_or ss i z)
    right_from_at_zero = right_from_at d table 0 ss i z lt r

right_from_set : (d : Doc) (table : Claims) (k : ℕ) (ss : List (Option Kept)) (i : ℕ) (f : Kept) → RightFrom d table k ss → IsFoundAt d (look table (k + i)) (node_at d f.from.0) f.found
    → RightFrom d table k (slice_set ss i (Some f))
right_from_set d table k [] i f r h = tt
right_from_set d table k (s ∷ ss) zero f r h = let e : k + 0 ≡ k = omega arith in (rw e at h, r.1)
right_from_set d table k (s ∷ ss) (suc i) f r h = let e : k + suc i ≡ suc k + i = omega arith in (r.0, right_from_set d table (suc k) ss i f r.1 (rw e at h))

pub right_set : (d : Doc) (table : Claims) (ss : List (Option Kept)) (i : ℕ) (f : Kept) → Right d table ss → IsFoundAt d (look table i) (node_at d f.from.0) f.found → Right d table (slice_set ss i (Some f))
right_set d table ss i f r h = let e : 0 + i ≡ i = omega arith in right_from_set d table 0 ss i f r (rw e h)

pub ruleset slots = (right_at, right_set)

-- it was found from this node
pub found_from : (d : Doc) (c : Option Claimed) (m n : ℕ) (f : Found) → m ≡ n → IsFoundAt d c (node_at d m) f → IsFoundAt d c (node_at d n) f
found_from d c m n f e h = subst (λ k. IsFoundAt d c (node_at d k) f) e h

pub ruleset from_node = (found_from)

right_from_push : (d : Doc) (table : Claims) (k : ℕ) (ss : List (Option Kept)) → RightFrom d table k ss → RightFrom d table k (ss ++ None ∷ [])
right_from_push d table k [] r = (tt, tt)
right_from_push d table k (s ∷ ss) r = (r.0, right_from_push d table (suc k) ss r.1)

pub right_push : (d : Doc) (table : Claims) (ss : List (Option Kept)) → Right d table ss → Right d table (ss ++ None ∷ [])
right_push d table ss r = right_from_push d table 0 ss r

pub ruleset emptied = (right_push, right_at)

pub all_claimed : (law : FindsSlots) (c : Claims) (total : ℕ) → numbered c 0 ≡ Some total → AreClaimed c c
all_claimed law c total h = law c total h

pub ruleset claimed = (all_claimed)
