use Rattle.std.proofs.Common.{◌∙◌, sym}
use Rattle.text_faults.specs.declared.steps.Step.TheVariants.{To}
use Rattle.text_faults.proofs.Known.{known}
use Rattle.text_faults.proofs.steps.next_of.Goals as goal

pub returns-in-To : goal.returns-in-To
returns-in-To c = λ nows o a l q. known nows c.args.steps.now.items a c.args.number c.args.byte c.args.row o (To c.in-To.next) l c.ranges.byte.fits q (sym c.in-To.is ∙ c.look.ensures) (λ u. cc)
