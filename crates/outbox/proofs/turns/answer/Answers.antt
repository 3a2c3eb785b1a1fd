use Rattle.std.proofs.Common.{arith, rules, ◌∙◌}
use Rattle.outbox.specs.Turns.{here, can_answer, most_requests}
use Rattle.std.specs.Prelude.{None}
use Rattle.outbox.proofs.Advancing.{next_one, unheld}
use Rattle.outbox.proofs.Joining.{again, loosened}
use Rattle.outbox.proofs.turns.answer.Goals as goal

pub requests-preserved : goal.requests-preserved
requests-preserved g c = (
  λ wire. again c.requests.counter _ _ _ _ can_answer (here c.args.outbox.now wire (g.C.Core.seen c.args.core.now) (g.C.Core.left c.args.conn c.args.core.now) c.args.ready.now) (here c.requests.outbox wire (g.C.Core.seen c.requests.core) (g.C.Core.left c.args.conn c.requests.core) c.requests.ready)
      (here c.answer_one-in-requests.new.outbox wire (g.C.Core.seen c.answer_one-in-requests.new.core) (g.C.Core.left c.args.conn c.answer_one-in-requests.new.core) c.answer_one-in-requests.new.ready)
      (c.requests.invariant.0 wire) (c.answer_one-in-requests.ensures.turned wire),
  λ q apart. c.answer_one-in-requests.ensures.others q apart ∙ c.requests.invariant.1 q apart,
  λ can held. next_one (g.C.Core.holds c.args.is_brief c.args.conn c.requests.core) c.requests.counter 1 _ _ _ _
      (here c.args.outbox.now None (g.C.Core.seen c.args.core.now) (g.C.Core.left c.args.conn c.args.core.now) c.args.ready.now)
      (here c.requests.outbox None (g.C.Core.seen c.requests.core) (g.C.Core.left c.args.conn c.requests.core) c.requests.ready)
      (here c.answer_one-in-requests.new.outbox None (g.C.Core.seen c.answer_one-in-requests.new.core) (g.C.Core.left c.args.conn c.answer_one-in-requests.new.core) c.answer_one-in-requests.new.ready)
      (c.requests.invariant.0 None) (c.answer_one-in-requests.ensures.turned None) (search rules) (c.answer_one-in-requests.ensures.gone (search rules)) (c.requests.invariant.2 can held),
)

pub requests-init : goal.requests-init
requests-init g c = (
  λ wire. c.answer_one.ensures.turned wire,
  c.answer_one.ensures.others,
  λ can held. unheld (g.C.Core.holds c.args.is_brief c.args.conn c.args.core.now) _ _
      (here c.args.outbox.now None (g.C.Core.seen c.args.core.now) (g.C.Core.left c.args.conn c.args.core.now) c.args.ready.now)
      (here c.answer_one.new.outbox None (g.C.Core.seen c.answer_one.new.core) (g.C.Core.left c.args.conn c.answer_one.new.core) c.answer_one.new.ready)
      held (c.answer_one.ensures.gone can),
)

pub returns-then-rests-clause-turned : goal.returns-then-rests-clause-turned
returns-then-rests-clause-turned g c wire =
    loosened 0 c.requests.counter 0 most_requests _ _ _ _ can_answer (here c.args.outbox.now wire (g.C.Core.seen c.args.core.now) (g.C.Core.left c.args.conn c.args.core.now) c.args.ready.now) (here c.requests.outbox wire (g.C.Core.seen c.requests.core) (g.C.Core.left c.args.conn c.requests.core) c.requests.ready)
    (omega arith) (search rules) (c.requests.invariant.0 wire)

pub returns-then-not-can_answer-clause-turned : goal.returns-then-not-can_answer-clause-turned
returns-then-not-can_answer-clause-turned g c wire =
    loosened 0 c.requests.counter 0 most_requests _ _ _ _ can_answer (here c.args.outbox.now wire (g.C.Core.seen c.args.core.now) (g.C.Core.left c.args.conn c.args.core.now) c.args.ready.now) (here c.requests.outbox wire (g.C.Core.seen c.requests.core) (g.C.Core.left c.args.conn c.requests.core) c.requests.ready)
    (omega arith) (search rules) (c.requests.invariant.0 wire)
