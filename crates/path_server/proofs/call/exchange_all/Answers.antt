use Rattle.std.proofs.Common.{map, take, drop, suc, refl}
use Rattle.std.proofs.lemmas.List.{take_all}
use Rattle.std.proofs.lemmas.Result.{err_from_is_err_and}
use Rattle.path_server.specs.Calls.{frame_of}
use Rattle.path_server.proofs.Calling.{called_all, called_more, called_none, called_nothing, called_stops, called_without_line, requests_next, requests_split}
use Rattle.path_server.proofs.call.exchange_all.Goals as goal

pub returns-in_err-buffer : goal.returns-in_err-buffer
returns-in_err-buffer g c =
    let p = err_from_is_err_and c.from_residual.result c.from_residual.ensures.1 in
    rw (p.1, p.2) (called_nothing (g.W.Wire.meaning c.args.wire.now) (map frame_of c.args.requests.now) c.args.out.now.items)

pub loop-request-init : goal.loop-request-init
loop-request-init g c = called_none (g.W.Wire.meaning c.args.wire.now) c.args.out.now.items

pub returns-in_err-exchange : goal.returns-in_err-exchange
returns-in_err-exchange g c =
    let p = err_from_is_err_and c.from_residual-in_err-exchange.result c.from_residual-in_err-exchange.ensures.1 in
    let split = requests_split c.args.requests.now c.loop-request.request-index c.request-item.result c.loop-request-test.true c.request-item.is in
    let broken = rw c.as_slice.ensures.value at c.in_err-exchange.ensures.exchanged in
    rw (p.1, p.2, split) (called_stops (g.W.Wire.meaning c.args.wire.now) (g.W.Wire.meaning c.loop-request.wire) (g.W.Wire.meaning c.exchange.new.wire) (map frame_of (take c.loop-request.request-index c.args.requests.now)) (map frame_of (drop (suc c.loop-request.request-index) c.args.requests.now))
    (frame_of c.request-item.result) c.args.out.now.items c.loop-request.out.items c.loop-request.out.items c.exchange.new.reply.items c.in_err-exchange.field-0.0 c.loop-request.invariant broken refl)

pub returns-in_err-append_frame : goal.returns-in_err-append_frame
returns-in_err-append_frame g c =
    let p = err_from_is_err_and c.from_residual-in_err-append_frame.result c.from_residual-in_err-append_frame.ensures.1 in
    let split = requests_split c.args.requests.now c.loop-request.request-index c.request-item.result c.loop-request-test.true c.request-item.is in
    let exchanged = rw c.as_slice.ensures.value at c.in_ok-exchange.ensures.exchanged in
    rw (p.1, p.2, split) (called_without_line (g.W.Wire.meaning c.args.wire.now) (g.W.Wire.meaning c.loop-request.wire) (g.W.Wire.meaning c.exchange.new.wire) (map frame_of (take c.loop-request.request-index c.args.requests.now)) (map frame_of (drop (suc c.loop-request.request-index) c.args.requests.now))
    (frame_of c.request-item.result) c.args.out.now.items c.loop-request.out.items c.append_frame.new.out.items c.exchange.new.reply.items c.loop-request.invariant exchanged c.in_err-append_frame.ensures.unchanged)

pub loop-request-preserved : goal.loop-request-preserved
loop-request-preserved g c =
    let next = requests_next c.args.requests.now c.loop-request.request-index c.request-item.result c.loop-request-test.true c.request-item.is in
    let exchanged = rw c.as_slice.ensures.value at c.in_ok-exchange.ensures.exchanged in
    let written = rw c.as_slice-in-loop-request.ensures.value at c.in_ok-append_frame.ensures.written in
    rw next (called_more (g.W.Wire.meaning c.args.wire.now) (g.W.Wire.meaning c.loop-request.wire) (g.W.Wire.meaning c.exchange.new.wire) (map frame_of (take c.loop-request.request-index c.args.requests.now)) (frame_of c.request-item.result)
    c.args.out.now.items c.loop-request.out.items c.exchange.new.reply.items c.append_frame.new.out.items c.loop-request.invariant exchanged written)

pub returns : goal.returns
returns g c =
    let all = take_all c.loop-request.request-index c.args.requests.now c.loop-request-test.false in
    called_all (g.W.Wire.meaning c.args.wire.now) (g.W.Wire.meaning c.loop-request.wire) (map frame_of c.args.requests.now) c.args.out.now.items c.loop-request.out.items (rw all at c.loop-request.invariant)
