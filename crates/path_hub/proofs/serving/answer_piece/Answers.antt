use Rattle.std.proofs.Common.{[], refl}
use Rattle.path_hub.proofs.Pieces.{ok_of}
use Rattle.path_hub.proofs.Serve.{piece_memory, piece_fails, piece_breaks, piece_served}
use Rattle.path_hub.proofs.serving.answer_piece.Goals as goal

pub returns-then-is_err-clause-turn : goal.returns-then-is_err-clause-turn
returns-then-is_err-clause-turn g c =
    let s = c.send_replies-answered.ensures in
    λ k r h m turns n served. piece_memory c.splits_from_the_front.ensures c.args.conn h c.args.hub.now c.send_replies-answered.new.hub m k (g.W.Wire.meaning c.args.wire.now) (g.W.Wire.meaning c.send_replies-answered.new.wire) turns c.args.piece.now [] s.bytes c.send_replies-answered.result.0 c.send_replies-answered.result.1
    n served r c.requires.piece refl s.answers s.writes

pub returns-then-not-written-clause-turn : goal.returns-then-not-written-clause-turn
returns-then-not-written-clause-turn g c =
    let s = c.send_replies-answered.ensures in
    λ k r h m turns n served. piece_fails c.splits_from_the_front.ensures c.args.conn h c.args.hub.now c.send_replies-answered.new.hub m k (g.W.Wire.meaning c.args.wire.now) (g.W.Wire.meaning c.send_replies-answered.new.wire) turns c.args.piece.now [] s.bytes c.send_replies-answered.result.0 c.send_replies-answered.result.1
    n served r c.requires.piece refl s.answers (ok_of c.send_replies-answered.result.0 c.is_err.result c.is_err.ensures.value c.if-is_err.false) s.writes c.if-not-written.true

pub returns-then-is_closed-clause-turn : goal.returns-then-is_closed-clause-turn
returns-then-is_closed-clause-turn g c =
    let s = c.send_replies-answered.ensures in
    λ k r h m turns n served. piece_breaks c.splits_from_the_front.ensures c.args.conn h c.args.hub.now c.send_replies-answered.new.hub m k (g.W.Wire.meaning c.args.wire.now) (g.W.Wire.meaning c.send_replies-answered.new.wire) turns c.args.piece.now [] s.bytes c.send_replies-answered.result.0 c.send_replies-answered.result.1 c.is_closed.result
    n served r c.requires.piece refl s.answers (ok_of c.send_replies-answered.result.0 c.is_err.result c.is_err.ensures.value c.if-is_err.false) s.writes c.if-not-written.false c.is_closed.ensures c.if-is_closed.true

pub returns-clause-turn : goal.returns-clause-turn
returns-clause-turn g c =
    let s = c.send_replies-answered.ensures in
    λ k r h m turns n served. piece_served c.splits_from_the_front.ensures c.args.conn h c.args.hub.now c.send_replies-answered.new.hub m k (g.W.Wire.meaning c.args.wire.now) (g.W.Wire.meaning c.send_replies-answered.new.wire) turns c.args.piece.now [] s.bytes c.send_replies-answered.result.0 c.send_replies-answered.result.1 c.is_closed.result
    n served r c.requires.piece refl s.answers (ok_of c.send_replies-answered.result.0 c.is_err.result c.is_err.ensures.value c.if-is_err.false) s.writes c.if-not-written.false c.is_closed.ensures c.if-is_closed.false
