use Rattle.std.proofs.Common.{◌≡◌, ◌++◌, drop, flat_map}
use Rattle.client_lines.proofs.pieces.append_all.Given as goal

abbrev pub invariant-loop-piece : goal.invariant-loop-piece
invariant-loop-piece l = l.out.items ++ flat_map (λ p. p.now) (drop l.piece-index l.pieces) ≡ l.fn.out.items ++ flat_map (λ p. p.now) l.pieces
