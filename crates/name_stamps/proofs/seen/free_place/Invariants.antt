use Rattle.std.proofs.Common.{◌≡◌, ◌≢◌, ℕ, ◌+◌, ◌<◌, ◌/◌, get_or}
use Rattle.name_stamps.proofs.seen.free_place.Given as goal

abbrev pub invariant-loop-i : goal.invariant-loop-i
invariant-loop-i l = (j : ℕ) → j < l.i → (get_or l.marks (l.from + j) 0 / 256 ≡ l.mark / 256) × (get_or l.marks (l.from + j) 0 ≢ l.mark)
