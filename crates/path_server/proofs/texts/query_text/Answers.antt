use Rattle.std.proofs.Common.{rules}
use Rattle.path_server.proofs.texts.query_text.Goals as goal

pub find-requires : goal.find-requires
find-requires c =
    let read = c.in_ok-document.ensures in
    record { accepted = rw (← read.0) at read.1 }

pub returns-in_err-found-clause-refused : goal.returns-in_err-found-clause-refused
returns-in_err-found-clause-refused c =
    let refused = rw c.in_ok-document.ensures.0 at c.in_err-found.ensures.refused in
    search (rules, refused)

pub returns-clause-answered : goal.returns-clause-answered
returns-clause-answered c =
    let answered = rw c.in_ok-document.ensures.0 at c.in_ok-found.ensures.answered in
    search (rules, answered)

pub returns-clause-paths : goal.returns-clause-paths
returns-clause-paths c = c.hits_lead_back.ensures c.args.query.now c.args.document.now
