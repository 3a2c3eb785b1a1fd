use Rattle.escape_runs.proofs.Escapes as escapes
use Rattle.escape_runs.proofs.escaped.Goals as goal

pub returns-clause-bits : goal.returns-clause-bits
returns-clause-bits c = escapes.bits c.args.carry c.args.backslash c.ranges.backslash.fits

pub returns-clause-carry : goal.returns-clause-carry
returns-clause-carry c = escapes.on c.args.carry c.args.backslash c.ranges.backslash.fits
