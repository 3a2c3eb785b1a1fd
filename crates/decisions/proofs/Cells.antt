-- Cells of tables.
use Rattle.std.proofs.Common.{◌≡◌, ℕ, ◌∙◌, Bool}
use Rattle.std.specs.Prelude.{Result, IfOk}
use Rattle.std.specs.declared.alloc.AllocError.{AllocError}
use Rattle.std.specs.declared.alloc.Global.{Global}
use Rattle.std.specs.declared.result.Result.TheVariants.{Ok, Err}
use Rattle.std.specs.declared.vec.Vec.{Vec}
use Rattle.decisions.specs.Places.{AreCells}

pub same_cells : (r : Result (Vec Bool Global) AllocError) (n : ℕ) (f g : ℕ → Bool) → ((p : ℕ) → f p ≡ g p)
    → IfOk r (λ cells. AreCells n cells.items f) → IfOk r (λ cells. AreCells n cells.items g)
same_cells (Ok v) n f g e h = record { sized = h.sized; right = λ p l. h.right p l ∙ e p }
same_cells (Err x) n f g e h = tt
