use Rattle.std.proofs.Common.{◌≡◌, ◌≤◌, drop}
use Rattle.admin_pages.specs.Routes.{seconds_from}
use Rattle.admin_pages.proofs.routes.seconds_of.Given as goal

abbrev pub invariant-loop-digit : goal.invariant-loop-digit
invariant-loop-digit l = (l.seconds ≤ 86400) × (seconds_from l.seconds (drop l.digit-index l.digits) ≡ seconds_from 0 l.digits)
