use Rattle.std.proofs.Common.{ap, rules, ◌∙◌, ◌^◌}
use Rattle.std.specs.Prelude.{nat_lt}
use Rattle.std.proofs.lemmas.Bool.{lt-ltb}
use Rattle.connection_turns.specs.Turning.{is_answering}
use Rattle.open_connections.proofs.Holding.{stood_by}
use Rattle.open_connections.proofs.open.Open.stands_by.Goals as goal

pub returns-then-matches : goal.returns-then-matches
returns-then-matches g c =
    let waits = g.C.LoopCore.waits in
    c.front.ensures.waits ∙ ap (λ n. waits n c.inner.result.now) c.in-Some.ensures.same ∙ ap (λ core. waits c.args.key core) c.inner.ensures
    ∙ stood_by (nat_lt c.args.key (2 ^ 32)) (is_answering c.args.plan) (waits c.args.key c.args.self.now.core) (lt-ltb c.args.key (2 ^ 32) c.in-Some.ensures.small) (search rules)
