use Rattle.std.proofs.Common.{◌≡◌, ◌∙◌, List, ap}
use Rattle.std.specs.Prelude.{String}
use Rattle.httparse.specs.Grammar.{RequestHead}
use Rattle.admin_pages.specs.Heads.{judged}
use Rattle.admin_pages.specs.Hosts.{texts}
use Rattle.admin_connections.proofs.visit.read_by.Goals as goal

-- what a head comes to is told of the same names
same_names : {A : Type 0} (own names : List (String A)) (h : RequestHead) → own ≡ names → judged (texts own) h ≡ judged (texts names) h
same_names {A} own names h e = ap (λ (xs : List (String A)). judged (texts xs) h) e

pub returns-clause-read : goal.returns-clause-read
returns-clause-read c = λ h rest r few. c.read_request.ensures.whole h rest r few ∙ same_names _ _ h c.deref.ensures.value
