use Rattle.std.proofs.Common.{◌≡◌, ◌++◌}
use Rattle.admin_pages.specs.Pages.{left}
use Rattle.admin_connections.proofs.visit.write_lines.Given as goal

-- what is written and what is left are together the same
abbrev pub invariant-lines : goal.invariant-lines
invariant-lines l = l.lines.items ++ left l.about l.page ≡ l.fn.lines.items ++ left l.about l.fn.page
