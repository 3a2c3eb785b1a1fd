use Rattle.json_text.proofs.Names.{length, subst}
use Rattle.text_places.specs.Marks.{AreChosen, AreFlagged}
use Rattle.text_places.proofs.Repeated.{chosen_left}
use Rattle.text_places.proofs.marks.suspected.Goals as goal

pub returns-clause-left : goal.returns-clause-left
returns-clause-left c = chosen_left c.args.text.now c.args.tape.now c.args.suspects.now c.in_ok-flags.flags.items c.in_ok-marks.marks.items c.requires
    (subst (λ v. AreFlagged v c.args.suspects.now c.in_ok-flags.flags.items (length c.args.suspects.now)) c.len.ensures.value c.in_ok-flags.ensures.flagged)
    (subst (λ xs. AreChosen c.args.tape.now xs c.in_ok-marks.marks.items (length c.args.tape.now)) c.as_slice.ensures.value c.in_ok-marks.ensures.chosen)
