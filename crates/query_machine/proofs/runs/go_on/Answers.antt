use Rattle.std.proofs.Common.{arith, rules, true, false, refl, ◌≡◌, ◌+◌, ◌∷◌, [], length, None, Some}
use Rattle.std.proofs.lemmas.Bool.Decides.{nat_tests}
use Rattle.std.proofs.lemmas.Result.{err_from_is_err_and}
use Rattle.json_tape.specs.Document.{node_at, single}
use Rattle.query_plan.specs.Planned.{claims_of, stage_view}
use Rattle.query_machine.specs.Cursors.{drawn, Runs}
use Rattle.query_machine.specs.Stacks.{segments_in}
use Rattle.query_machine.proofs.Stacks.{claimed_stage, gives_none, in_turn, little_put, segment_total, spends_less, step_in, then_drains, then_draws, then_put_refused, then_puts, then_refuses, then_same}
use Rattle.query_machine.proofs.runs.go_on.Goals as goal

pub loop-init : goal.loop-init
loop-init c =
    let d = c.args.doc.now in
    let ss = segments_in c.args.stages.now in
    let left = c.args.state.now.meter.left in
    let least = c.requires.least in
    record { gives = gives_none d ss c.args.c.now c.args.out.now.items left c.requires.cursor c.requires.sound; little = spends_less d ss c.args.least left (omega (arith, least)); kept = c.requires.kept }

pub go_out-requires-clause-claimed : goal.go_out-requires-clause-claimed
go_out-requires-clause-claimed c =
    let total = segment_total c.args.stages.now in
    let at = c.requires.cursor.stage in
    claimed_stage (claims_of c.args.plan.now.stages.items) c.args.stages.now c.args.c.now.stage c.index-stages-number.result (omega (arith, at, total)) c.index-stages-number.is c.requires.claimed

pub draw_once-requires-clause-claimed : goal.draw_once-requires-clause-claimed
draw_once-requires-clause-claimed c =
    let total = segment_total c.args.stages.now in
    let at = c.requires.cursor.stage in
    claimed_stage (claims_of c.args.plan.now.stages.items) c.args.stages.now c.args.c.now.stage c.index-stages-number.result (omega (arith, at, total)) c.index-stages-number.is c.requires.claimed

pub returns-in_err-go_out-clause-gives : goal.returns-in_err-go_out-clause-gives
returns-in_err-go_out-clause-gives c =
    let d = c.args.doc.now in
    let ss = c.args.stages.now in
    let total = segment_total ss in
    let at = c.requires.cursor.stage in
    let is = in_turn ss c.args.c.now.stage c.index-stages-number.result (omega (arith, at, total)) c.index-stages-number.is in
    let p = err_from_is_err_and c.from_residual.result c.from_residual.ensures.1 in
    rw (p.1, p.2)
    (then_refuses d ss c.index-stages-number.result c.args.c.now c.loop.c c.args.out.now.items c.loop.out.items c.args.state.now.meter.left c.loop.state.meter.left is c.loop.invariant.gives c.in_err-go_out.field-0.0 c.in_err-go_out.ensures.drains)

pub loop-preserved-then-branch : goal.loop-preserved-then-branch
loop-preserved-then-branch c =
    let d = c.args.doc.now in
    let ss = c.args.stages.now in
    let total = segment_total ss in
    let at = c.requires.cursor.stage in
    let is = in_turn ss c.args.c.now.stage c.index-stages-number.result (omega (arith, at, total)) c.index-stages-number.is in
    let yes : c.in_ok-go_out.field-0 ≡ true = search rules in
    let last = c.in_ok-go_out.ensures.last yes in
    let end : c.args.c.now.stage + 1 ≡ length ss = grind (arith, nat_tests, rules, last) in
    record {
      gives = then_drains d ss c.index-stages-number.result c.args.c.now c.loop.c c.args.out.now.items c.loop.out.items c.args.state.now.meter.left c.loop.state.meter.left is c.loop.invariant.gives c.go_out.new.c c.go_out.new.out.items c.go_out.new.state.meter.left end
          (rw yes at c.in_ok-go_out.ensures.drains);
      little = spends_less d (segments_in ss) c.args.least c.go_out.new.state.meter.left c.in_ok-go_out.ensures.little;
      kept = c.in_ok-go_out.ensures.kept;
    }

pub returns-in_err-draw_once-clause-gives : goal.returns-in_err-draw_once-clause-gives
returns-in_err-draw_once-clause-gives c =
    let d = c.args.doc.now in
    let ss = c.args.stages.now in
    let total = segment_total ss in
    let at = c.requires.cursor.stage in
    let is = in_turn ss c.args.c.now.stage c.index-stages-number.result (omega (arith, at, total)) c.index-stages-number.is in
    let no : c.in_ok-go_out.field-0 ≡ false = search rules in
    let g = then_same d ss c.index-stages-number.result c.args.c.now c.loop.c c.args.out.now.items c.loop.out.items c.args.state.now.meter.left c.loop.state.meter.left is c.loop.invariant.gives c.go_out.new.c c.go_out.new.out.items c.go_out.new.state.meter.left
    (rw no at c.in_ok-go_out.ensures.drains) in
    let p = err_from_is_err_and c.from_residual-in_err-draw_once.result c.from_residual-in_err-draw_once.ensures.1 in
    rw (p.1, p.2)
    (then_refuses d ss c.index-stages-number.result c.args.c.now c.go_out.new.c c.args.out.now.items c.go_out.new.out.items c.args.state.now.meter.left c.go_out.new.state.meter.left is g c.in_err-draw_once.field-0.0 c.in_err-draw_once.ensures.runs)

pub returns-in-None-clause-gives : goal.returns-in-None-clause-gives
returns-in-None-clause-gives c =
    let d = c.args.doc.now in
    let ss = c.args.stages.now in
    let total = segment_total ss in
    let at = c.requires.cursor.stage in
    let is = in_turn ss c.args.c.now.stage c.index-stages-number.result (omega (arith, at, total)) c.index-stages-number.is in
    let no : c.in_ok-go_out.field-0 ≡ false = search rules in
    let g = then_same d ss c.index-stages-number.result c.args.c.now c.loop.c c.args.out.now.items c.loop.out.items c.args.state.now.meter.left c.loop.state.meter.left is c.loop.invariant.gives c.go_out.new.c c.go_out.new.out.items c.go_out.new.state.meter.left
    (rw no at c.in_ok-go_out.ensures.drains) in
    then_draws d ss c.index-stages-number.result c.args.c.now c.go_out.new.c c.args.out.now.items c.go_out.new.out.items c.args.state.now.meter.left c.go_out.new.state.meter.left is g c.draw_once.new.c (single d (drawn c.in_ok-draw_once.field-0)) c.draw_once.new.state.meter.left (rw c.in-None.is refl) c.in_ok-draw_once.ensures.runs.0

pub returns-in-None-clause-little : goal.returns-in-None-clause-little
returns-in-None-clause-little c =
    let ss = c.args.stages.now in
    let total = segment_total ss in
    let at = c.requires.cursor.stage in
    let is = in_turn ss c.args.c.now.stage c.index-stages-number.result (omega (arith, at, total)) c.index-stages-number.is in
    step_in c.args.doc.now (segments_in ss) c.args.c.now.stage (stage_view c.index-stages-number.result).tree c.args.least c.draw_once.new.state.meter.left is c.in_ok-draw_once.ensures.little

pub returns-in_err-put-in-Some-Some-clause-gives : goal.returns-in_err-put-in-Some-Some-clause-gives
returns-in_err-put-in-Some-Some-clause-gives c =
    let d = c.args.doc.now in
    let ss = c.args.stages.now in
    let total = segment_total ss in
    let at = c.requires.cursor.stage in
    let is = in_turn ss c.args.c.now.stage c.index-stages-number.result (omega (arith, at, total)) c.index-stages-number.is in
    let no : c.in_ok-go_out.field-0 ≡ false = search rules in
    let g = then_same d ss c.index-stages-number.result c.args.c.now c.loop.c c.args.out.now.items c.loop.out.items c.args.state.now.meter.left c.loop.state.meter.left is c.loop.invariant.gives c.go_out.new.c c.go_out.new.out.items c.go_out.new.state.meter.left
    (rw no at c.in_ok-go_out.ensures.drains) in
    let h : Runs d (stage_view c.index-stages-number.result).tree (node_at d c.in-Some-Some.n.0 ∷ []) c.go_out.new.c c.draw_once.new.c c.go_out.new.state.meter.left c.draw_once.new.state.meter.left = (rw (c.in-Some-Some.is, c.in-Some-Some.field-0-is) at c.in_ok-draw_once.ensures.runs).0 in
    let p = err_from_is_err_and c.from_residual-in_err-put-in-Some-Some.result c.from_residual-in_err-put-in-Some-Some.ensures.1 in
    rw (p.1, p.2)
    (then_put_refused d ss c.index-stages-number.result c.args.c.now c.go_out.new.c c.args.out.now.items c.go_out.new.out.items c.args.state.now.meter.left c.go_out.new.state.meter.left is g c.draw_once.new.c (node_at d c.in-Some-Some.n.0 ∷ []) c.draw_once.new.state.meter.left c.in_err-put-in-Some-Some.field-0.0 h c.in_err-put-in-Some-Some.ensures.puts)

pub loop-preserved-in-Some-None : goal.loop-preserved-in-Some-None
loop-preserved-in-Some-None c =
    let d = c.args.doc.now in
    let ss = c.args.stages.now in
    let total = segment_total ss in
    let at = c.requires.cursor.stage in
    let is = in_turn ss c.args.c.now.stage c.index-stages-number.result (omega (arith, at, total)) c.index-stages-number.is in
    let no : c.in_ok-go_out.field-0 ≡ false = search rules in
    let g = then_same d ss c.index-stages-number.result c.args.c.now c.loop.c c.args.out.now.items c.loop.out.items c.args.state.now.meter.left c.loop.state.meter.left is c.loop.invariant.gives c.go_out.new.c c.go_out.new.out.items c.go_out.new.state.meter.left
    (rw no at c.in_ok-go_out.ensures.drains) in
    record {
      gives = then_draws d ss c.index-stages-number.result c.args.c.now c.go_out.new.c c.args.out.now.items c.go_out.new.out.items c.args.state.now.meter.left c.go_out.new.state.meter.left is g c.draw_once.new.c (single d (drawn c.in_ok-draw_once.field-0)) c.draw_once.new.state.meter.left
          (rw (c.in-Some-None.is, c.in-Some-None.field-0-is) refl) c.in_ok-draw_once.ensures.runs.0;
      little = step_in d (segments_in ss) c.args.c.now.stage (stage_view c.index-stages-number.result).tree c.args.least c.draw_once.new.state.meter.left is c.in_ok-draw_once.ensures.little;
      kept = c.in_ok-draw_once.ensures.kept;
    }

pub loop-preserved : goal.loop-preserved
loop-preserved c =
    let d = c.args.doc.now in
    let ss = c.args.stages.now in
    let total = segment_total ss in
    let at = c.requires.cursor.stage in
    let is = in_turn ss c.args.c.now.stage c.index-stages-number.result (omega (arith, at, total)) c.index-stages-number.is in
    let no : c.in_ok-go_out.field-0 ≡ false = search rules in
    let g = then_same d ss c.index-stages-number.result c.args.c.now c.loop.c c.args.out.now.items c.loop.out.items c.args.state.now.meter.left c.loop.state.meter.left is c.loop.invariant.gives c.go_out.new.c c.go_out.new.out.items c.go_out.new.state.meter.left
    (rw no at c.in_ok-go_out.ensures.drains) in
    let h : Runs d (stage_view c.index-stages-number.result).tree (node_at d c.in-Some-Some.n.0 ∷ []) c.go_out.new.c c.draw_once.new.c c.go_out.new.state.meter.left c.draw_once.new.state.meter.left = (rw (c.in-Some-Some.is, c.in-Some-Some.field-0-is) at c.in_ok-draw_once.ensures.runs).0 in
    record {
      gives = then_puts d ss c.index-stages-number.result c.args.c.now c.go_out.new.c c.args.out.now.items c.go_out.new.out.items c.args.state.now.meter.left c.go_out.new.state.meter.left is g c.draw_once.new.c (node_at d c.in-Some-Some.n.0 ∷ []) None c.put.new.out.items c.draw_once.new.state.meter.left
          c.put.new.state.meter.left h (rw c.in-None-2.is at c.in_ok-put-in-Some-Some.ensures.puts);
      little = little_put d (segments_in ss) c.args.c.now.stage (stage_view c.index-stages-number.result).tree c.args.least c.draw_once.new.state.meter.left c.put.new.state.meter.left is c.in_ok-draw_once.ensures.little c.in_ok-put-in-Some-Some.ensures.little c.in_ok-put-in-Some-Some.ensures.still;
      kept = c.in_ok-put-in-Some-Some.ensures.kept;
    }

pub returns-in-Some-clause-gives : goal.returns-in-Some-clause-gives
returns-in-Some-clause-gives c =
    let d = c.args.doc.now in
    let ss = c.args.stages.now in
    let total = segment_total ss in
    let at = c.requires.cursor.stage in
    let is = in_turn ss c.args.c.now.stage c.index-stages-number.result (omega (arith, at, total)) c.index-stages-number.is in
    let no : c.in_ok-go_out.field-0 ≡ false = search rules in
    let g = then_same d ss c.index-stages-number.result c.args.c.now c.loop.c c.args.out.now.items c.loop.out.items c.args.state.now.meter.left c.loop.state.meter.left is c.loop.invariant.gives c.go_out.new.c c.go_out.new.out.items c.go_out.new.state.meter.left
    (rw no at c.in_ok-go_out.ensures.drains) in
    let h : Runs d (stage_view c.index-stages-number.result).tree (node_at d c.in-Some-Some.n.0 ∷ []) c.go_out.new.c c.draw_once.new.c c.go_out.new.state.meter.left c.draw_once.new.state.meter.left = (rw (c.in-Some-Some.is, c.in-Some-Some.field-0-is) at c.in_ok-draw_once.ensures.runs).0 in
    then_puts d ss c.index-stages-number.result c.args.c.now c.go_out.new.c c.args.out.now.items c.go_out.new.out.items c.args.state.now.meter.left c.go_out.new.state.meter.left is g c.draw_once.new.c (node_at d c.in-Some-Some.n.0 ∷ []) (Some c.in-Some.rest) c.put.new.out.items
    c.draw_once.new.state.meter.left c.put.new.state.meter.left h (rw c.in-Some.is at c.in_ok-put-in-Some-Some.ensures.puts)

pub returns-in-Some-clause-little : goal.returns-in-Some-clause-little
returns-in-Some-clause-little c =
    let d = c.args.doc.now in
    let ss = c.args.stages.now in
    let total = segment_total ss in
    let at = c.requires.cursor.stage in
    let is = in_turn ss c.args.c.now.stage c.index-stages-number.result (omega (arith, at, total)) c.index-stages-number.is in
    little_put d (segments_in ss) c.args.c.now.stage (stage_view c.index-stages-number.result).tree c.args.least c.draw_once.new.state.meter.left c.put.new.state.meter.left is c.in_ok-draw_once.ensures.little c.in_ok-put-in-Some-Some.ensures.little c.in_ok-put-in-Some-Some.ensures.still
