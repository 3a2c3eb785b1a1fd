use Rattle.std.proofs.Common.{◌≡◌, ◌<◌, Some, reverse, take, length, get_or}
use Rattle.text_faults.specs.Moves.{state, run_on, start, top}
use Rattle.text_faults.specs.Steps.{row_of, AreSteps}
use Rattle.text_faults.specs.declared.marks.Now.TheVariants.{Value}
use Rattle.text_faults.proofs.finder.not_json.Given as goal

abbrev pub invariant-loop-at : goal.invariant-loop-at
invariant-loop-at l = (run_on start (take l.at l.text) ≡ Some (state (get_or l.nows.items l.number Value) (reverse l.opens.items)))
    × (l.number < length l.nows.items) × (l.place ≡ row_of (top (reverse l.opens.items))) × AreSteps l.nows.items l.steps.items
