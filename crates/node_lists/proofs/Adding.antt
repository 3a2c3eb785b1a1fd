-- Adding nodes one by one.
use Rattle.std.proofs.Common.{◌≡◌, ℕ, ◌+◌, ◌<◌, ◌≤◌, List, [], ◌∷◌, ◌++◌, length, drop, get_or, refl, sym, ap, ◌∙◌, subst, arith, append_assoc}
use Rattle.std.specs.Prelude.{flat_map}
use Rattle.node_lists.specs.Charge.{total_of}
use Rattle.std.proofs.lemmas.Grind.{common_steps}
use Rattle.std.proofs.lemmas.List.{drop_more}
use Rattle.std.proofs.lemmas.List.Elements.{All-head, All-rest}
use Rattle.json_tape.specs.Nodes.{Node}
use Rattle.json_tape.specs.Document.{Doc, node_at, count}
use Rattle.json_text.specs.declared.tape.NodeId.{NodeId}
use Rattle.node_lists.specs.Paying.{Inside, Holds}
use Rattle.node_lists.specs.Nodelists.{nodes_of}

pub append_nil : (xs : List Node) → xs ++ [] ≡ xs
append_nil [] = refl
append_nil (x ∷ xs) = ap (λ ys. x ∷ ys) (append_nil xs)

pub nodes_push : (d : Doc) (ks : List NodeId) (k : NodeId) → nodes_of d (ks ++ k ∷ []) ≡ nodes_of d ks ++ node_at d k.0 ∷ []
nodes_push d [] k = refl
nodes_push d (j ∷ ks) k = ap (λ ns. node_at d j.0 ∷ ns) (nodes_push d ks k)

pub inside_push : (d : Doc) (ks : List NodeId) (k : NodeId) → Inside d ks → k.0 < count d → Inside d (ks ++ k ∷ [])
inside_push d ks k a i = grind (arith, common_steps, a, i)

pub has_push : (d : Doc) (ks : List NodeId) (k : NodeId) → Inside d ks → k.0 < count d → Holds d (ks ++ k ∷ []) (nodes_of d ks ++ node_at d k.0 ∷ [])
has_push d ks k a i = record { same = nodes_push d ks k; inside = inside_push d ks k a i }

-- the first of several, and then the others
pub add_more : (out : List Node) (n : Node) (ns : List Node) → (out ++ n ∷ []) ++ ns ≡ out ++ n ∷ ns
add_more out n ns = append_assoc out (n ∷ []) ns

pub has_none : (d : Doc) (ks : List NodeId) → Inside d ks → Holds d ks (nodes_of d ks ++ [])
has_none d ks a = record { same = sym (append_nil (nodes_of d ks)); inside = a }

-- the first of an iterator's nodes, and those that it has left
pub drawn : (d : Doc) (ids : List NodeId) (k : NodeId) (rest : List NodeId) → ids ≡ k ∷ rest → nodes_of d ids ≡ node_at d k.0 ∷ nodes_of d rest
drawn d ids k rest e = ap (nodes_of d) e

pub drawn_inside : (d : Doc) (ids : List NodeId) (k : NodeId) (rest : List NodeId) → ids ≡ k ∷ rest → Inside d ids → (k.0 < count d) × Inside d rest
drawn_inside d ids k rest e a = (All-head (λ id. id.0 < count d) k rest (subst (Inside d) e a), All-rest (λ id. id.0 < count d) k rest ids e a)

-- Nodes are added from those that are left. Together they stay the same, and there is room for all.
pub record Draws (d : Doc) (all : List Node) (out left : List NodeId) (len capacity : ℕ) : Type 0 where
  pub same : nodes_of d out ++ nodes_of d left ≡ all
  pub ahead : Inside d left
  pub sound : Inside d out
  pub room : len + length left ≤ capacity

pub draws_one : (d : Doc) (all : List Node) (out left rest new : List NodeId) (k : NodeId) (len capacity : ℕ)
    → Draws d all out left len capacity → left ≡ k ∷ rest → new ≡ out ++ k ∷ [] → Draws d all new rest (len + 1) capacity
draws_one d all out left rest new k len capacity s e n =
    let pushed = has_push d out k s.sound (drawn_inside d left k rest e s.ahead).0 in
    let l = ap length e in
    let room = s.room in
    record {
      same = rw n (rw pushed.same (add_more (nodes_of d out) (node_at d k.0) (nodes_of d rest)) ∙ ap (λ ns. nodes_of d out ++ ns) (sym (drawn d left k rest e)) ∙ s.same);
      ahead = (drawn_inside d left k rest e s.ahead).1;
      sound = rw n pushed.inside;
      room = omega (arith, room, l);
    }

pub ruleset adding = (add_more, has_none, has_push, append_nil)

pub flat_more : (f : Node → List Node) (d : Doc) (ids : List NodeId) (i : ℕ) (id : NodeId) → i < length ids
    → flat_map f (nodes_of d (drop i ids)) ≡ f (node_at d (get_or ids i id).0) ++ flat_map f (nodes_of d (drop (i + 1) ids))
flat_more f d ids i id lt = ap (λ (xs : List NodeId). flat_map f (nodes_of d xs)) (drop_more ids i id lt)

pub sum_more : (f : Node → ℕ) (d : Doc) (ids : List NodeId) (i : ℕ) (id : NodeId) → i < length ids
    → total_of f (nodes_of d (drop i ids)) ≡ f (node_at d (get_or ids i id).0) + total_of f (nodes_of d (drop (i + 1) ids))
sum_more f d ids i id lt = ap (λ (xs : List NodeId). total_of f (nodes_of d xs)) (drop_more ids i id lt)

pub ruleset each_input = (append_nil, flat_more, sum_more, append_assoc, has_none)
