use Rattle.std.proofs.Common.{length}
use Rattle.path_server.proofs.Splits.{GoesOn}
use Rattle.path_server.proofs.text_lines.read_lines.Given as goal

abbrev pub invariant-loop-rest : goal.invariant-loop-rest
invariant-loop-rest g l = GoesOn g.T.Line.spells l.text l.things.items l.rest

abbrev pub decreases-loop-rest : goal.decreases-loop-rest
decreases-loop-rest g l = length l.rest
