-- The table of comparisons: one is read, one is kept.
use Rattle.std.proofs.Common.{ℕ, zero, suc, ◌<◌, List, [], ◌∷◌, ◌++◌, length, get_or, slice_set, Option, None, arith}
use Rattle.json_tape.specs.Document.{Doc}
use Rattle.compared_sides.specs.Answered.{IsRight, AreRight}
use Rattle.compared_sides.specs.declared.answers.Compared.{Compared}

pub right_at : (d : Doc) (xs : List (Option Compared)) (i : ℕ) (z : Option Compared) → i < length xs → AreRight d xs → IsRight d (get_or xs i z)
right_at d [] i z lt r = absurd (omega arith)
right_at d (x ∷ xs) zero z lt r = r.0
right_at d (x ∷ xs) (suc i) z lt r = right_at d xs i z (omega arith) r.1

pub right_set : (d : Doc) (xs : List (Option Compared)) (i : ℕ) (x : Option Compared) → AreRight d xs → IsRight d x → AreRight d (slice_set xs i x)
right_set d [] i x r h = tt
right_set d (y ∷ xs) zero x r h = (h, r.1)
right_set d (y ∷ xs) (suc i) x r h = (r.0, right_set d xs i x r.1 h)

pub ruleset answers = (right_at, right_set)

pub right_push : (d : Doc) (xs : List (Option Compared)) → AreRight d xs → AreRight d (xs ++ None ∷ [])
right_push d [] r = (tt, tt)
right_push d (x ∷ xs) r = (r.0, right_push d xs r.1)

pub ruleset room = (right_push)
