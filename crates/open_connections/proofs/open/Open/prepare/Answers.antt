use Rattle.std.proofs.Common.{refl, subst, sym, ap, inr, true, Ok, ◌∙◌, ◌≡◌, ◌<◌, ◌^◌}
use Rattle.std.specs.Prelude.{◌&&◌, nat_lt}
use Rattle.std.proofs.lemmas.Bool.{and_parts, lt-ltb}
use Rattle.slab.specs.Slab.{get}
use Rattle.connection_turns.specs.declared.connection.TurnPlan.TheVariants.{Write}
use Rattle.connection_turns.specs.Turning.{is_answering}
use Rattle.open_connections.specs.Turns.{Prepares}
use Rattle.open_connections.proofs.Holding.{not_held, one_so, waits_not}
use Rattle.open_connections.proofs.Keeping.{covered_from, err_map, ok_map, short_from, some_map, there_still}
use Rattle.open_connections.proofs.Turns.{at_any, prepared, prepares_from}
use Rattle.open_connections.proofs.open.Open.prepare.Goals as goal

pub returns-then-stands_by-clause-plan : goal.returns-then-stands_by-clause-plan
returns-then-stands_by-clause-plan g c =
    let old = c.args.self.now in
    let new = c.yield_reply.new.self in
    let slot = get old.connections c.args.key in
    let written : c.args.key < 2 ^ 32 → Prepares g.C.LoopCore.waits c.args.key c.in-Some.plan (Ok Write) old new =
    λ k. inr (refl, subst (λ core. (is_answering c.in-Some.plan && g.C.LoopCore.waits c.args.key core) ≡ true) c.plan.ensures.core (and_parts (nat_lt c.args.key (2 ^ 32)) _ (sym c.if-stands_by.ensures)).1) in
    prepared g.C.LoopCore.waits c.args.key c.in-Some.plan (Ok Write) old new slot c.in-Some.ensures.plan (at_any _ slot written)

pub returns-then-stands_by-clause-woken : goal.returns-then-stands_by-clause-woken
returns-then-stands_by-clause-woken g c = λ fact h. c.yield_reply.ensures.woken fact (c.plan.ensures.woken fact h)

pub returns-in-Answer-clause-plan : goal.returns-in-Answer-clause-plan
returns-in-Answer-clause-plan g c =
    let old = c.args.self.now in
    let new = c.prepare_answer.new.self in
    let slot = get old.connections c.args.key in
    prepared g.C.LoopCore.waits c.args.key c.in-Some.plan _ old new slot c.in-Some.ensures.plan
    (rw c.in-Answer.is (some_map _ _ slot (λ p k. prepares_from g.C.LoopCore.waits c.args.key _ _ old c.plan.new.self new c.plan.ensures.core (p k))
    (there_still _ _ slot (get c.plan.new.self.connections c.args.key) (c.plan.ensures.ready.at c.args.key) c.prepare_answer.ensures.plan)))

pub returns-in-Answer-clause-covered : goal.returns-in-Answer-clause-covered
returns-in-Answer-clause-covered g c =
    ok_map _ _ c.prepare_answer.result (λ plan v e. covered_from g.C.LoopCore.steps g.S.Wire.told c.args.key c.args.self.now c.plan.new.self c.prepare_answer.new.self c.plan.ensures.lanes v) c.prepare_answer.ensures.covered

pub returns-in-Answer-clause-woken : goal.returns-in-Answer-clause-woken
returns-in-Answer-clause-woken g c = λ fact h. c.prepare_answer.ensures.woken fact (c.plan.ensures.woken fact h)

pub returns-in-Answer-clause-held : goal.returns-in-Answer-clause-held
returns-in-Answer-clause-held g c =
    let old = c.args.self.now in
    let new = c.prepare_answer.new.self in
    let mid = c.plan.new.self in
    let waits = g.C.LoopCore.waits in
    ok_map _ _ c.prepare_answer.result (λ plan v is k.
    one_so _ _ (get old.connections c.args.key) (λ one b. not_held waits g.C.LoopCore.longs c.args.key _ old new.core new.due.longs k
    (ap (λ core. waits c.args.key core) (sym c.plan.ensures.core) ∙ waits_not (nat_lt c.args.key (2 ^ 32)) (is_answering c.in-Some.plan) _ (lt-ltb c.args.key (2 ^ 32) k) (ap is_answering c.in-Answer.is) c.if-stands_by.ensures)
    (c.prepare_answer.ensures.core ∙ c.plan.ensures.core) (c.prepare_answer.ensures.longs ∙ b)) c.plan.ensures.begun) c.prepare_answer.ensures.covered

pub returns-in-Answer-clause-short : goal.returns-in-Answer-clause-short
returns-in-Answer-clause-short g c =
    let slot = get c.args.self.now.connections c.args.key in
    err_map _ _ c.prepare_answer.result (λ h k. some_map _ _ slot (short_from g.C.LoopCore.steps c.args.key c.args.self.now c.plan.new.self c.plan.ensures.core c.plan.ensures.claim)
    (there_still _ _ slot (get c.plan.new.self.connections c.args.key) (c.plan.ensures.ready.at c.args.key) (h k))) c.prepare_answer.ensures.short

pub returns-in-Write-clause-held : goal.returns-in-Write-clause-held
returns-in-Write-clause-held g c =
    let old = c.args.self.now in
    let mid = c.plan.new.self in
    let waits = g.C.LoopCore.waits in
    λ is k. one_so _ _ (get old.connections c.args.key) (λ one b. not_held waits g.C.LoopCore.longs c.args.key _ old mid.core mid.due.longs k
    (ap (λ core. waits c.args.key core) (sym c.plan.ensures.core) ∙ waits_not (nat_lt c.args.key (2 ^ 32)) (is_answering c.in-Some.plan) _ (lt-ltb c.args.key (2 ^ 32) k) is c.if-stands_by.ensures)
    c.plan.ensures.core b) c.plan.ensures.begun
