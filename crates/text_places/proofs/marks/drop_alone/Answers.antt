use Rattle.text_places.proofs.Counted.{kept_again}
use Rattle.text_places.proofs.Repeated.{still_left}
use Rattle.text_places.proofs.marks.drop_alone.Goals as goal

pub returns-clause-left : goal.returns-clause-left
returns-clause-left c = still_left c.args.factor c.args.text.now c.args.tape.now c.args.marks.now.items c.mark_names.new.marks.items c.keep_shared-2.new.marks.items c.mark_names.ensures.marked
    (kept_again c.mark_names.new.marks.items c.keep_shared.new.marks.items c.keep_shared-2.new.marks.items c.in_ok-keep_shared.ensures.kept c.in_ok-keep_shared-2.ensures.kept)
