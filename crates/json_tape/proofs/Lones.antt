-- The refusal of lone surrogates, by the index.
use Rattle.json_text.proofs.Names.{◌≡◌, ℕ, List, ◌++◌, length, drop, sym, ap, ◌∙◌, take-append-drop, IsTrue, Bool, false, false≢true, Str, Tree, Leaf, Obj, Source, Spelt}
use Rattle.json_text.proofs.Names.{IsJson, IsString, HasLone}
use Rattle.std.proofs.Common.{◌↔◌}
use Rattle.json_text.specs.Verdict.{SpellsLone, Applies}
use Rattle.json_text.specs.declared.tape.TextFault.TheVariants.{LoneSurrogate}
use Rattle.structural_index.specs.Places.{HasLoneSurrogate}
use Rattle.json_text.proofs.Parts.{placed}
use Rattle.json_text.proofs.Fits.{Lies, Fits, text_fits, part_fits}
use Rattle.json_tape.proofs.Holders.{name_fits}
use Rattle.json_walk.proofs.LoneStrings.{string_lone}
use Rattle.json_walk.proofs.Walking.{lone_part}

source_lone : (text : List ℕ) (s : Source) (cs : List Spelt) → Lies text s → IsString s.bytes cs → HasLone cs → HasLoneSurrogate text
source_lone text s cs l h q = string_lone text s.place s.bytes (drop (length s.bytes) (drop s.place text)) cs (sym (take-append-drop (length s.bytes) (drop s.place text)) ∙ ap (λ bs. bs ++ drop (length s.bytes) (drop s.place text)) (sym l)) h q

part_shows : (text : List ℕ) (part : Tree) → Fits text part → SpellsLone part → HasLoneSurrogate text
part_shows text (Leaf s (Str cs)) f q = source_lone text s cs f.0 f.1 q
part_shows text (Obj s ms) f (n, has, q) = let x = name_fits has text f.1 in source_lone text n.source n.characters x.0 x.1 q
part_shows text _ f q = absurd q

pub lone_applies : (text : List ℕ) (lone : Bool) → IsJson text → IsTrue lone ↔ HasLoneSurrogate text → IsTrue lone ↔ Applies text LoneSurrogate
lone_applies text lone (t, x) is = (
  λ l. (let p = lone_part text t x (is.0 l) in (t, p.0, x, p.1, p.2)),
  λ (u, part, y, h, q). is.1 (let p = placed h in part_shows text part (part_fits p.is_at text (text_fits text u y)) q),
)

pub not_lone : (text : List ℕ) (lone : Bool) → IsJson text → IsTrue lone ↔ HasLoneSurrogate text → lone ≡ false → Applies text LoneSurrogate → ⊥
not_lone text lone j is e a = false≢true (sym e ∙ (lone_applies text lone j is).1 a)
