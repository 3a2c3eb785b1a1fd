use Rattle.std.proofs.Common.{◌≡◌, ℕ, List, ◌≤◌, Some, arith, ap, ◌∙◌, rules, string_bytes}
use Rattle.std.proofs.lemmas.Result.{IfOk-weaker}
use Rattle.serde_json.specs.Data.{Data, depth}
use Rattle.serde_json.specs.Read.{max_depth, read}
use Rattle.serde_json.specs.View.{view}
use Rattle.serde_json.proofs.OnLiterals.{serde_json_on_literals}
use Rattle.client_lines.specs.Documents.{document}
use Rattle.client_lines.proofs.documents.document_text.Goals as goal

reads : (v : Data) (name text bytes : List ℕ) → v ≡ document name text → (depth v ≤ max_depth → read bytes ≡ Some v) → read bytes ≡ Some (document name text)
reads v name text bytes e h =
    let d : depth v ≡ 1 = ap depth e in
    h (omega (arith, d)) ∙ ap Some e

pub returns-clause-line : goal.returns-clause-line
unfolding serde_json_on_literals
returns-clause-line c = search rules

pub returns-clause-reads : goal.returns-clause-reads
returns-clause-reads c =
    IfOk-weaker c.to_string.result _ _ (λ s h. reads (view c.in_ok-value.value) c.args.name.now c.args.text.now (string_bytes s) c.in_ok-value.ensures h) c.to_string.ensures.reads_back
