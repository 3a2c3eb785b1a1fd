use Rattle.std.proofs.Common.{arith, subst, ℕ, Option, ◌≡◌, ◌++◌, ◌∷◌, [], None, Some}
use Rattle.std.proofs.lemmas.Result.{err_from_is_err_and}
use Rattle.json_text.specs.declared.tape.NodeId.{NodeId}
use Rattle.query_machine.specs.Stacks.{segments_in, Gives}
use Rattle.query_machine.specs.declared.stepping.Track.{Track}
use Rattle.query_machine.proofs.Stacks.{gone_none, gone_refused, gone_some, last_is, spends_less}
use Rattle.query_machine.proofs.runs.step.Goals as goal

pub returns-in_default-clause-little : goal.returns-in_default-clause-little
returns-in_default-clause-little c = let least = c.requires.least in spends_less c.args.doc.now (segments_in c.args.stages.now) c.args.least c.args.state.now.meter.left (omega (arith, least))

pub go_on-requires-clause-cursor : goal.go_on-requires-clause-cursor
go_on-requires-clause-cursor c =
    let t = c.args.track.now in
    let b : Track = record { cursors = c.pop.new.self; out = t.out } in
    let popped : t.cursors.items ≡ c.pop.new.self.items ++ c.in-Some.last ∷ [] = rw c.in-Some.is at c.pop.ensures.items in
    last_is c.args.doc.now (segments_in c.args.stages.now) t b c.in-Some.last popped c.requires.under_way

pub returns-in_err-went-clause-goes : goal.returns-in_err-went-clause-goes
returns-in_err-went-clause-goes c =
    let t = c.args.track.now in
    let b : Track = record { cursors = c.pop.new.self; out = t.out } in
    let popped : t.cursors.items ≡ c.pop.new.self.items ++ c.in-Some.last ∷ [] = rw c.in-Some.is at c.pop.ensures.items in
    let p = err_from_is_err_and c.from_residual.result c.from_residual.ensures.1 in
    rw (p.1, p.2) (gone_refused c.args.doc.now (segments_in c.args.stages.now) t b c.in-Some.last popped c.requires.under_way c.args.state.now.meter.left c.in_err-went.field-0.0 c.in_err-went.ensures.gives)

pub returns-in-None-clause-goes : goal.returns-in-None-clause-goes
returns-in-None-clause-goes c =
    let t = c.args.track.now in
    let b : Track = record { cursors = c.pop.new.self; out = c.go_on.new.out } in
    let popped : t.cursors.items ≡ c.pop.new.self.items ++ c.in-Some.last ∷ [] = rw c.in-Some.is at c.pop.ensures.items in
    let g : Gives c.args.doc.now (segments_in c.args.stages.now) c.in-Some.last c.go_on.new.c None t.out.items c.go_on.new.out.items c.args.state.now.meter.left c.go_on.new.state.meter.left = rw c.in-None.is at c.in_ok-went.ensures.gives in
    gone_none c.args.doc.now (segments_in c.args.stages.now) t b c.in-Some.last popped c.requires.under_way c.go_on.new.c c.put_back.new.track c.args.state.now.meter.left c.go_on.new.state.meter.left g c.in_ok-put_back.ensures

pub returns-in-Some-None-clause-goes : goal.returns-in-Some-None-clause-goes
returns-in-Some-None-clause-goes c =
    let t = c.args.track.now in
    let b : Track = record { cursors = c.pop.new.self; out = c.go_on.new.out } in
    let popped : t.cursors.items ≡ c.pop.new.self.items ++ c.in-Some.last ∷ [] = rw c.in-Some.is at c.pop.ensures.items in
    let e : c.in-Some-None.field-0 ≡ None = rw c.in-Some-None.is at c.in-Some-None.field-0-is in
    let h : Gives c.args.doc.now (segments_in c.args.stages.now) c.in-Some.last c.go_on.new.c c.in-Some-None.field-0 t.out.items c.go_on.new.out.items c.args.state.now.meter.left c.go_on.new.state.meter.left = rw c.in-Some-None.is at c.in_ok-went.ensures.gives in
    let g : Gives c.args.doc.now (segments_in c.args.stages.now) c.in-Some.last c.go_on.new.c None t.out.items c.go_on.new.out.items c.args.state.now.meter.left c.go_on.new.state.meter.left = subst (λ (x : Option (ℕ × NodeId)). Gives c.args.doc.now (segments_in c.args.stages.now) c.in-Some.last c.go_on.new.c x t.out.items c.go_on.new.out.items c.args.state.now.meter.left c.go_on.new.state.meter.left) e h in
    gone_none c.args.doc.now (segments_in c.args.stages.now) t b c.in-Some.last popped c.requires.under_way c.go_on.new.c c.put_back.new.track c.args.state.now.meter.left c.go_on.new.state.meter.left g c.in_ok-put_back.ensures

pub returns-in_ok-place-in-Some-Some-clause-goes : goal.returns-in_ok-place-in-Some-Some-clause-goes
returns-in_ok-place-in-Some-Some-clause-goes c =
    let t = c.args.track.now in
    let b : Track = record { cursors = c.pop.new.self; out = c.go_on.new.out } in
    let popped : t.cursors.items ≡ c.pop.new.self.items ++ c.in-Some.last ∷ [] = rw c.in-Some.is at c.pop.ensures.items in
    let e : c.in-Some-Some.field-0 ≡ Some (c.in-Some-Some.at, c.in-Some-Some.n) = rw c.in-Some-Some.is at c.in-Some-Some.field-0-is in
    let h : Gives c.args.doc.now (segments_in c.args.stages.now) c.in-Some.last c.go_on.new.c c.in-Some-Some.field-0 t.out.items c.go_on.new.out.items c.args.state.now.meter.left c.go_on.new.state.meter.left = rw c.in-Some-Some.is at c.in_ok-went.ensures.gives in
    let g : Gives c.args.doc.now (segments_in c.args.stages.now) c.in-Some.last c.go_on.new.c (Some (c.in-Some-Some.at, c.in-Some-Some.n)) t.out.items c.go_on.new.out.items c.args.state.now.meter.left c.go_on.new.state.meter.left = subst (λ (x : Option (ℕ × NodeId)). Gives c.args.doc.now (segments_in c.args.stages.now) c.in-Some.last c.go_on.new.c x t.out.items c.go_on.new.out.items c.args.state.now.meter.left c.go_on.new.state.meter.left) e h in
    gone_some c.args.doc.now (segments_in c.args.stages.now) t b c.in-Some.last popped c.requires.under_way c.go_on.new.c c.in-Some-Some.at c.in-Some-Some.n c.put_back.new.track c.place.new.track c.args.state.now.meter.left c.go_on.new.state.meter.left g c.in_ok-put_back.ensures c.in_ok-place-in-Some-Some.ensures
