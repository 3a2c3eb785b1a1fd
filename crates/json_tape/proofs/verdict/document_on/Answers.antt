use Rattle.json_text.proofs.Names.{◌∙◌, sym, subst, IsAccepted}
use Rattle.std.specs.Cmp.Lexicographic.{bytes_decides}
use Rattle.json_tape.specs.Document.{tree_of, IsDocument}
use Rattle.json_tape.proofs.verdict.document_on.Goals as goal

pub returns-then-eq-clause-its : goal.returns-then-eq-clause-its
returns-then-eq-clause-its c =
    let same = sym (c.source.ensures.value) ∙ (bytes_decides c.source.result.now c.args.text.now).0 (sym c.eq.ensures ∙ c.if-eq.true) in
    let document = subst IsDocument c.document.view_is c.document.invariant.0 in
    (same, subst (λ t. IsAccepted t (tree_of c.args.document)) same document.accepted)
