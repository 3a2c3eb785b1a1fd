use Rattle.json_text.proofs.Names.{◌≡◌, ◌≤◌, ℕ, length, get_or}
use Rattle.text_places.specs.Marks.{AreMarked}
use Rattle.text_places.proofs.marks.mark_names.Given as goal

abbrev pub invariant-loop-n : goal.invariant-loop-n
invariant-loop-n l = (length l.marks.items ≡ length l.fn.marks.items) × AreMarked l.factor l.text l.tape l.fn.marks.items l.marks.items l.n
    × ((i : ℕ) → l.n ≤ i → get_or l.marks.items i 0 ≡ get_or l.fn.marks.items i 0)
