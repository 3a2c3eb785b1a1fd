use Rattle.wire_frames.specs.NextFrame.{next_of}
use Rattle.path_hub.proofs.UnderWay.{none_held}
use Rattle.path_hub.proofs.step.answer_next.Goals as goal

pub answer_some-requires-clause-on_way : goal.answer_some-requires-clause-on_way
answer_some-requires-clause-on_way c = c.new-tasks.ensures.on_way c.args.tenants.now

pub answer_some-requires-clause-free : goal.answer_some-requires-clause-free
answer_some-requires-clause-free c = none_held 0 (next_of c.args.framer.now) c.args.tenants.now c.new-tasks.result c.new-tasks.ensures.none c.new-tasks.ensures.none_read
