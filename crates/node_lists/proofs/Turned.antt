-- The end of a nodelist turned round: what a slice with a step below 0 adds.
use Rattle.std.proofs.Common.{◌≡◌, ℕ, ◌≤◌, ◌<◌, List, [], ◌∷◌, ◌++◌, length, take, drop, reverse, length-append, refl, ap, ◌∙◌, sym, arith}
use Rattle.std.specs.List.{All}
use Rattle.std.proofs.lemmas.List.{length-reverse}
use Rattle.std.proofs.lemmas.List.Elements.{All-nil, All-append, All-take, All-drop, All-cons, All-head, All-tail}
use mathlib.Core.List.{reverse_aux}
use Rattle.json_tape.specs.Nodes.{Node}
use Rattle.json_tape.specs.Document.{Doc, node_at, count}
use Rattle.json_text.specs.declared.tape.NodeId.{NodeId}
use Rattle.node_lists.specs.Nodelists.{nodes_of}
use Rattle.node_lists.specs.Paying.{Inside, Holds}
use Rattle.node_lists.proofs.Totals.{length_nodes}

nodes_take : (d : Doc) (ks : List NodeId) (a b : List Node) → nodes_of d ks ≡ a ++ b → (nodes_of d (take (length a) ks) ≡ a) × (nodes_of d (drop (length a) ks) ≡ b)
nodes_take d ks [] b e = (refl, e)
nodes_take d [] (x ∷ a) b e = cc
nodes_take d (k ∷ ks) (x ∷ a) b e =
    let r = nodes_take d ks a b (cc) in (let h : node_at d k.0 ≡ x = cc in let q = r.0 in cc, r.1)

nodes_onto : (d : Doc) (ks js : List NodeId) → nodes_of d (reverse_aux ks js) ≡ reverse_aux (nodes_of d ks) (nodes_of d js)
nodes_onto d [] js = refl
nodes_onto d (k ∷ ks) js = nodes_onto d ks (k ∷ js)

nodes_append : (d : Doc) (ks js : List NodeId) → nodes_of d (ks ++ js) ≡ nodes_of d ks ++ nodes_of d js
nodes_append d [] js = refl
nodes_append d (k ∷ ks) js = ap (λ ns. node_at d k.0 ∷ ns) (nodes_append d ks js)

all_onto : (P : NodeId → Type 0) (ks js : List NodeId) → All P ks → All P js → All P (reverse_aux ks js)
all_onto P [] js a b = b
all_onto P (k ∷ ks) js a b = all_onto P ks (k ∷ js) (All-tail P k ks a) (All-cons P k js (All-head P k ks a) b)

inside_turned : (d : Doc) (n : ℕ) (ks : List NodeId) → Inside d ks → Inside d (take n ks ++ reverse (drop n ks))
inside_turned d n ks s =
    All-append (λ k. k.0 < count d) (take n ks) (reverse (drop n ks)) (All-take (λ k. k.0 < count d) n ks s) (all_onto (λ k. k.0 < count d) (drop n ks) [] (All-drop (λ k. k.0 < count d) n ks s) (All-nil (λ k. k.0 < count d)))

pub turn_added : (d : Doc) (old new : List NodeId) (ps : List Node) (n : ℕ) → n ≡ length old → Holds d new (nodes_of d old ++ ps)
    → Holds d (take n new ++ reverse (drop n new)) (nodes_of d old ++ reverse ps)
turn_added d old new ps n e h =
    let q = nodes_take d new (nodes_of d old) ps h.same in
    let l : length (nodes_of d old) ≡ n = length_nodes d old ∙ sym e in
    let q0 : nodes_of d (take n new) ≡ nodes_of d old = rw l at q.0 in
    let q1 : nodes_of d (drop n new) ≡ ps = rw l at q.1 in
    record {
      same = nodes_append d (take n new) (reverse (drop n new)) ∙ ap (λ ns. nodes_of d (take n new) ++ ns) (nodes_onto d (drop n new) []) ∙ rw (q0, q1) refl;
      inside = inside_turned d n new h.inside;
    }

pub long_enough : (d : Doc) (old new : List NodeId) (ps : List Node) → Holds d new (nodes_of d old ++ ps) → length old ≤ length new
long_enough d old new ps h =
    let l : length (nodes_of d new) ≡ length (nodes_of d old ++ ps) = ap (λ (ns : List Node). length ns) h.same in
    omega (arith, length_nodes d old, length_nodes d new, length-append (nodes_of d old) ps, l)

pub ruleset turned = (turn_added, long_enough, length-reverse)
