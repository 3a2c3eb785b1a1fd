use Rattle.text_places.proofs.marks.left.Goals as goal

pub returns-then-not-are_many-2-clause-left : goal.returns-then-not-are_many-2-clause-left
returns-then-not-are_many-2-clause-left c = c.in_ok-drop_alone.ensures.left c.in_ok-marks.ensures.left

pub returns-clause-left : goal.returns-clause-left
returns-clause-left c = c.in_ok-drop_alone-2.ensures.left (c.in_ok-drop_alone.ensures.left c.in_ok-marks.ensures.left)
