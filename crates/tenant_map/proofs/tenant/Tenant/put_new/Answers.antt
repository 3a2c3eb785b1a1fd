use Rattle.std.proofs.Common.{sym, subst, ◌∙◌}
use Rattle.json_tape.specs.Document.{tree_of}
use Rattle.json_tape.specs.Verdict.{IsAccepted}
use Rattle.tenant_map.proofs.Refusing.{put_new_refused, put_new_keeps, put_new_accepts, is_free, not_free}
use Rattle.tenant_map.proofs.tenant.Tenant.put_new.Goals as goal

pub keep-requires : goal.keep-requires
keep-requires c = subst (λ text. IsAccepted text (tree_of c.in-Ok.read)) (sym c.in-Ok.ensures.text) c.in-Ok.ensures.accepted

pub returns-then-has-clause-refused : goal.returns-then-has-clause-refused
returns-then-has-clause-refused c = ((tree_of c.in-Ok.read, c.in-Ok.ensures.accepted), not_free _ (sym c.has.ensures ∙ c.if-has.true))

pub returns-else-has-clause-accepted : goal.returns-else-has-clause-accepted
returns-else-has-clause-accepted c =
    put_new_accepts c.args.collection.bytes.now c.args.document.bytes.now c.in-Ok.read.text c.args.text.now c.args.self.now c.keep.new.self c.keep.result c.in-Ok.ensures.text
    (is_free _ (sym c.has.ensures ∙ c.if-has.false)) c.keep.ensures.accepted

pub returns-else-has-clause-refused : goal.returns-else-has-clause-refused
returns-else-has-clause-refused c =
    put_new_keeps c.args.collection.bytes.now c.args.document.bytes.now c.in-Ok.read.text c.args.text.now c.args.self.now c.keep.result c.in-Ok.ensures.text
    (is_free _ (sym c.has.ensures ∙ c.if-has.false)) (tree_of c.in-Ok.read, c.in-Ok.ensures.accepted) c.keep.ensures.refused

pub returns-in-Err-clause-refused : goal.returns-in-Err-clause-refused
returns-in-Err-clause-refused c = put_new_refused c.in-Err.fault c.args.collection.bytes.now c.args.document.bytes.now c.args.text.now c.args.self.now c.in-Err.ensures.refused
