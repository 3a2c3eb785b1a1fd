-- Whether the paths of hits are UTF-8, from one to the next.
use Rattle.std.proofs.Common.{◌≡◌, ◌↔◌, ◌+◌, ◌<◌, ℕ, List, ◌∷◌, IsUtf8, length, get_or, drop, map, sym, subst}
use Rattle.std.proofs.lemmas.List.{drop_more}
use Rattle.json_tape.specs.Document.{Doc, node_at}
use Rattle.json_text.specs.declared.tape.NodeId.{NodeId}
use Rattle.normal_paths.specs.NormalPath.{normal_path}
use Rattle.tape_select.specs.Nodelists.{nodes_of}
use Rattle.client_frames.specs.Payloads.{Found}
use Rattle.client_frames.specs.Readings.{found_of}
use Rattle.client_frames.specs.declared.payloads.Hit.{Hit}
use Rattle.client_lines.specs.Answers.{found_in}
use Rattle.client_lines.specs.Lines.{AreUtf8, RefusesHits, RefusesPath}
use Rattle.client_lines.specs.declared.documents.LineFault.{LineFault}
use Rattle.client_lines.specs.declared.documents.LineFault.TheVariants.{NotUtf8, NotJson, NoName, NoText, NoDocument, Costly, Memory}

first_hit : (hits : List Hit) (i : ℕ) (hit : Hit) → i < length hits → hit ≡ get_or hits i hit → drop i hits ≡ hit ∷ drop (i + 1) hits
first_hit hits i hit lt e = subst (λ (h : Hit). drop i hits ≡ h ∷ drop (i + 1) hits) (sym e) (drop_more hits i hit lt)

pub passed_hit : (hits : List Hit) (i : ℕ) (hit : Hit) → i < length hits → hit ≡ get_or hits i hit → IsUtf8 hit.path.now → AreUtf8 (map found_of (drop i hits)) ↔ AreUtf8 (map found_of hits) → AreUtf8 (map found_of (drop (i + 1) hits)) ↔ AreUtf8 (map found_of hits)
passed_hit hits i hit lt e good before =
    let more = first_hit hits i hit lt e in (
      λ rest. before.0 (subst (λ (xs : List Hit). AreUtf8 (map found_of xs)) (sym more) (good, rest)),
      λ all. (subst (λ (xs : List Hit). AreUtf8 (map found_of xs)) more (before.1 all)).1,
    )

-- the first one that is not UTF-8
refused_path : (path : List ℕ) (hits : List Found) (fault : LineFault) → (AreUtf8 hits → IsUtf8 path) → RefusesPath path fault → RefusesHits hits fault
refused_path path hits NotUtf8 good refused = λ all. refused (good all)
refused_path path hits NotJson good refused = absurd refused
refused_path path hits NoName good refused = absurd refused
refused_path path hits NoText good refused = absurd refused
refused_path path hits (NoDocument fault) good refused = absurd refused
refused_path path hits Costly good refused = absurd refused
refused_path path hits Memory good refused = tt

pub refused_hit : (hits : List Hit) (i : ℕ) (hit : Hit) (fault : LineFault) → i < length hits → hit ≡ get_or hits i hit → AreUtf8 (map found_of (drop i hits)) ↔ AreUtf8 (map found_of hits) → RefusesPath hit.path.now fault → RefusesHits (map found_of hits) fault
refused_hit hits i hit fault lt e before refused =
    refused_path hit.path.now (map found_of hits) fault (λ all. (subst (λ (xs : List Hit). AreUtf8 (map found_of xs)) (first_hit hits i hit lt e) (before.1 all)).0) refused

node_behind : (name : List ℕ) (d : Doc) (nodes : List NodeId) (i : ℕ) (other : NodeId) → i < length nodes → AreUtf8 (map (found_in name) (nodes_of d (drop i nodes))) → IsUtf8 (normal_path (node_at d (get_or nodes i other).0)) × AreUtf8 (map (found_in name) (nodes_of d (drop (i + 1) nodes)))
node_behind name d nodes i other lt all = subst (λ (xs : List NodeId). AreUtf8 (map (found_in name) (nodes_of d xs))) (drop_more nodes i other lt) all

pub passed_node : (name : List ℕ) (d : Doc) (nodes : List NodeId) (i : ℕ) (node : NodeId) → i < length nodes → node ≡ get_or nodes i node → (AreUtf8 (map (found_in name) (nodes_of d nodes)) → AreUtf8 (map (found_in name) (nodes_of d (drop i nodes)))) → AreUtf8 (map (found_in name) (nodes_of d nodes)) → AreUtf8 (map (found_in name) (nodes_of d (drop (i + 1) nodes)))
passed_node name d nodes i node lt e before all = (node_behind name d nodes i node lt (before all)).1

pub refused_node : (name : List ℕ) (d : Doc) (nodes : List NodeId) (i : ℕ) (other : NodeId) (fault : LineFault) → i < length nodes → (AreUtf8 (map (found_in name) (nodes_of d nodes)) → AreUtf8 (map (found_in name) (nodes_of d (drop i nodes)))) → RefusesPath (normal_path (node_at d (get_or nodes i other).0)) fault → RefusesHits (map (found_in name) (nodes_of d nodes)) fault
refused_node name d nodes i other fault lt before refused = refused_path (normal_path (node_at d (get_or nodes i other).0)) (map (found_in name) (nodes_of d nodes)) fault (λ all. (node_behind name d nodes i other lt (before all)).0) refused
