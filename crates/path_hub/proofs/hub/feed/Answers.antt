use Rattle.std.proofs.Common.{◌≡◌, false, Some, Err, sym, ap, subst}
use Rattle.std.specs.Option.{is_some}
use Rattle.std.proofs.lemmas.Result.{on_err_weaker, on_ok_weaker}
use Rattle.wire_frames.specs.Framing.{Framing}
use Rattle.path_hub.specs.Sessions.{session, Sets}
use Rattle.path_hub.proofs.Calls.{not_closed}
use Rattle.path_hub.proofs.Feeding.{feeds_closed, feeds_none, feeds_open, feeds_some}
use Rattle.path_hub.proofs.hub.feed.Goals as goal

pub returns-in-Err-Closed-clause-ok : goal.returns-in-Err-Closed-clause-ok
returns-in-Err-Closed-clause-ok c =
    let h : session c.args.conn c.args.sessions.now.entries ≡ Some c.in-Some.framer.now = sym c.in-Some.ensures.value in
    let sets : Sets c.args.conn (Some c.accept.new.self) c.args.sessions.now.entries (c.get_mut.follows.lender c.accept.new.self).entries = ((c.get_mut.follows.holds c.accept.new.self).3 (ap is_some h)).0 in
    feeds_closed c.splits_from_the_front.ensures c.args.conn c.args.piece.now c.args.sessions.now.entries (c.get_mut.follows.lender c.accept.new.self).entries c.args.tenants.now c.args.out.now.items c.in-Some.framer.now h (c.in-Err-Closed.ensures.closed.0 (ap (λ e. Err e) c.in-Err-Closed.field-0-is))
    (subst (λ (g : Framing). Sets c.args.conn (Some g) c.args.sessions.now.entries (c.get_mut.follows.lender c.accept.new.self).entries) c.in-Err-Closed.ensures.unchanged sets)

pub returns-in-Ok-clause-ok : goal.returns-in-Ok-clause-ok
returns-in-Ok-clause-ok c =
    let h : session c.args.conn c.args.sessions.now.entries ≡ Some c.in-Some.framer.now = sym c.in-Some.ensures.value in
    let open' : c.in-Some.framer.now.closed ≡ false = not_closed c.in-Some.framer.now.closed (λ e. let bad = c.in-Ok.ensures.closed.1 e in absurd (cc)) in
    let sets : Sets c.args.conn (Some c.answer_all.new.framer) c.args.sessions.now.entries (c.get_mut.follows.lender c.answer_all.new.framer).entries = ((c.get_mut.follows.holds c.answer_all.new.framer).3 (ap is_some h)).0 in
    on_ok_weaker c.answer_all.result (feeds_open c.splits_from_the_front.ensures c.args.conn c.args.piece.now c.args.sessions.now.entries (c.get_mut.follows.lender c.answer_all.new.framer).entries c.args.tenants.now c.answer_all.new.tenants c.args.out.now.items c.answer_all.new.out.items
    c.in-Some.framer.now c.accept.new.self c.answer_all.new.framer h open' c.in-Ok.ensures.accepted sets c.answer_all.ensures.some) c.answer_all.ensures.all

pub returns-in-Ok-clause-some : goal.returns-in-Ok-clause-some
returns-in-Ok-clause-some c =
    let h : session c.args.conn c.args.sessions.now.entries ≡ Some c.in-Some.framer.now = sym c.in-Some.ensures.value in
    let open' : c.in-Some.framer.now.closed ≡ false = not_closed c.in-Some.framer.now.closed (λ e. let bad = c.in-Ok.ensures.closed.1 e in absurd (cc)) in
    on_err_weaker c.answer_all.result (feeds_some c.splits_from_the_front.ensures c.args.conn c.args.piece.now c.args.sessions.now.entries c.args.tenants.now c.answer_all.new.tenants c.args.out.now.items c.answer_all.new.out.items
    c.in-Some.framer.now c.accept.new.self c.answer_all.new.framer h open' c.in-Ok.ensures.accepted c.answer_all.ensures.some) c.answer_all.ensures.due

pub returns-in-Err-Memory-clause-some : goal.returns-in-Err-Memory-clause-some
returns-in-Err-Memory-clause-some c = feeds_none c.args.conn c.args.piece.now c.args.sessions.now.entries c.args.tenants.now c.args.out.now.items (c.in-Err-Memory.ensures.grown (ap (λ e. Err e) c.in-Err-Memory.field-0-is))
