use Rattle.std.proofs.Common.{◌≡◌, ℕ, List, sym}
use Rattle.std.specs.Str.{chars}
use Rattle.json_strings.specs.Spelling.{scalars_in, unquoted}
use Rattle.json_strings.proofs.Spelled.{scalars_are}
use Rattle.json_text.specs.Tree.{Str, Tree, Leaf, source_of}
use Rattle.json_text.specs.declared.tape.Kind.TheVariants as kinds
use Rattle.json_text.proofs.Fits.{Fits}
use Rattle.json_tape.specs.Document.{IsDocument, count, node_at, kind_of, string_meaning}
use Rattle.json_tape.proofs.Readers.{fits_is}
use Rattle.json_tape.proofs.laws.strings_mean_their_bytes.Goals as goal

meant_of : (text : List ℕ) (t : Tree) → kind_of t ≡ kinds.Text → Fits text t → string_meaning t ≡ scalars_in (chars (unquoted (source_of t).bytes))
meant_of text (Leaf x (Str cs)) k f = sym (scalars_are x.bytes cs f.1)
meant_of text _ k f = absurd (cc)

pub returns : goal.returns
unfolding count
returns c = λ n inside text.
    let r = c.root.ensures in
    let d = c.args.doc.now in
    let s : IsDocument d = record { accepted = r.accepted; tape = r.tape; small = r.small } in
    meant_of d.text (node_at d n).tree text (fits_is d s n inside)
