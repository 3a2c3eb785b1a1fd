-- Nodes that are passed at once, since their selectors select nothing from them.
use Rattle.std.proofs.Common.{map, ◌≡◌, ℕ, zero, suc, ◌+◌, ◌-◌, ◌*◌, ◌<◌, ◌≤◌, Bool, true, false, List, [], ◌∷◌, ◌++◌, length, reverse, refl, sym, ap, ◌∙◌, arith, Option, Some, None, append_assoc, length-append, ℤ, pos, Bor, if◌then◌else◌}
use Rattle.std.specs.Prelude.{flat_map, ◌^◌, IfSome, SomeIff}
use Rattle.std.specs.Option.{is_none}
use Rattle.std.proofs.lemmas.Grind.{flat_map-append}
use Rattle.std.proofs.lemmas.List.{append-nil, length-reverse}
use Rattle.std.proofs.Math.Nat.{suc-mul, mul-add}
use Rattle.path_grammar.specs.Tree.{Selectors, no_selectors, selector, selectors_of, Selector, name, wild, index, filter, slice}
use Rattle.json_tape.specs.Tree.{Tree, Leaf, Arr, Obj}
use Rattle.path_grammar.specs.declared.ast.IntLit.{IntLit}
use Rattle.std.specs.Prelude.{int_lt}
use Rattle.tape_values.specs.Selection.{bound_or, in_order, is_selected, lower, picked, sliced, sliced_by, start_default, step_of, stop_default, upper}
use Rattle.json_tape.specs.Nodes.{Node, Step, children, children_of, elements, elements_of, visit}
use Rattle.json_tape.specs.Document.{Doc, count, following, node_at, single}
use Rattle.json_text.specs.declared.tape.NodeId.{NodeId}
use Rattle.node_lists.specs.Evaluation.{selected, selected_by, starts}
use Rattle.node_lists.specs.Charge.{total_of, charge_in, charge_by}
use Rattle.node_lists.specs.Extra.{charge_at, count_of, nodes_from}
use Rattle.node_lists.specs.Nodelists.{nodes_between, nodes_of}
use Rattle.node_lists.specs.Laws.{PaysInParts, SplitsNodes}
use Rattle.node_lists.specs.Paying.{Refuses}
use Rattle.node_lists.specs.declared.fault.SelectFault.{SelectFault}
use Rattle.node_lists.specs.Links.{link_selector}
use Rattle.path_meaning.specs.declared.links.Link.{Link}
use Rattle.query_plan.specs.Planned.{selection_view, stage_view, trees}
use Rattle.query_plan.specs.declared.plan.Selection.{Selection}
use Rattle.query_plan.specs.declared.plan.Stage.{Stage}
use Rattle.query_machine.specs.Cursors.{ahead, condition_in, due, AreUnasked, Drains, GivesNode, IsPassed, IsStride, Runs, Takes}
use Rattle.query_machine.specs.declared.cursor.Cursor.{Cursor}
use Rattle.query_machine.proofs.Charges.{one_unit, refuses_from, stage_is}
use Rattle.query_machine.proofs.Steps.{between_more, all_visited, all_visits_due, only_visits, only_visits_due}

-- so many nodes from which nothing is selected
module _ (d : Doc) (ss : Selectors) (w : ℕ) where
  pub passed_nodes : (m k e : ℕ) → k + m ≤ e → ((j : ℕ) → k ≤ j → j < k + m → selected (node_at d 0) ss (node_at d j) ≡ [])
      → flat_map (selected (node_at d 0) ss) (nodes_between d k e) ≡ flat_map (selected (node_at d 0) ss) (nodes_between d (k + m) e)
  passed_nodes zero k e h none = let z : k + 0 ≡ k = omega arith in rw z refl
  passed_nodes (suc m) k e h none =
      let z : k + suc m ≡ k + 1 + m = omega arith in
      let here = none k (omega arith) (omega arith) in
      let rest = passed_nodes m (k + 1) e (omega (arith, h)) (λ j a b. none j (omega (arith, a)) (omega (arith, b))) in
      rw z (ap (flat_map (selected (node_at d 0) ss)) (between_more d k e (omega (arith, h))) ∙ ap (λ ns. ns ++ flat_map (selected (node_at d 0) ss) (nodes_between d (k + 1) e)) here ∙ rest)

  pub passed_charge : (m k e : ℕ) → k + m ≤ e → ((j : ℕ) → k ≤ j → j < k + m → charge_in (node_at d 0) ss (node_at d j) ≡ w)
      → total_of (charge_in (node_at d 0) ss) (nodes_between d k e) ≡ m * w + total_of (charge_in (node_at d 0) ss) (nodes_between d (k + m) e)
  passed_charge zero k e h each = let z : k + 0 ≡ k = omega arith in rw z (omega arith)
  passed_charge (suc m) k e h each =
      let z : k + suc m ≡ k + 1 + m = omega arith in
      let here = each k (omega arith) (omega arith) in
      let rest = passed_charge m (k + 1) e (omega (arith, h)) (λ j a b. each j (omega (arith, a)) (omega (arith, b))) in
      let more = ap (total_of (charge_in (node_at d 0) ss)) (between_more d k e (omega (arith, h))) in
      let times = suc-mul m w in
      rw z (omega (arith, here, rest, more, times))

count_is : (xs : List Selection) → count_of (selectors_of (trees (map selection_view xs))) ≡ length xs
count_is [] = refl
count_is (x ∷ xs) = ap suc (count_is xs)

count_all : (s : Stage) → count_of (stage_view s).tree.selectors ≡ length s.selections.items
count_all s = rw (stage_is s) (count_is s.selections.items)

total_append : (f : Node → ℕ) (xs ys : List Node) → total_of f (xs ++ ys) ≡ total_of f xs + total_of f ys
total_append f [] ys = omega arith
total_append f (x ∷ xs) ys = let h = total_append f xs ys in omega (arith, h)

abbrev pub visit_then : Cursor → ℕ → Cursor
visit_then c k = record { stage = c.stage; visit = k; end = c.end; passed = c.passed; asked = c.asked; child = c.child; stride = c.stride }

module _ (d : Doc) (s : Stage) (c : Cursor) (no : c.child ≡ None) (passed : c.stride.end ≤ c.stride.first) (fresh : c.passed ≡ 0) (end : c.end ≤ count d) (fits : IsStride c.stride) where
  from_here : (k : ℕ) → ahead d (stage_view s).tree (visit_then c k) ≡ flat_map (selected (node_at d 0) (stage_view s).tree.selectors) (nodes_between d k c.end)
  from_here k = only_visits d (stage_view s).tree (visit_then c k) no passed ∙ rw fresh (all_visited (node_at d 0) (stage_view s).tree.selectors (nodes_between d k c.end))

  due_here : (k : ℕ) → due d (stage_view s).tree (visit_then c k) ≡ total_of (charge_in (node_at d 0) (stage_view s).tree.selectors) (nodes_between d k c.end)
  due_here k = only_visits_due d (stage_view s).tree (visit_then c k) no passed ∙ rw fresh (all_visits_due (node_at d 0) (stage_view s).tree.selectors (nodes_between d k c.end))

  -- so many nodes are passed, from which nothing is selected
  passes : (w k left rest_left : ℕ) → c.visit ≤ k → k ≤ c.end → ((j : ℕ) → c.visit ≤ j → j < k → selected (node_at d 0) (stage_view s).tree.selectors (node_at d j) ≡ [])
      → ((j : ℕ) → c.visit ≤ j → j < k → charge_in (node_at d 0) (stage_view s).tree.selectors (node_at d j) ≡ w) → rest_left + (k - c.visit) * w ≡ left
      → Runs d (stage_view s).tree [] c (visit_then c k) left rest_left
  passes w k left rest_left least most none each paid =
      let t = (stage_view s).tree in
      let m : c.visit + (k - c.visit) ≡ k = omega (arith, least) in
      let a = passed_nodes d t.selectors w (k - c.visit) c.visit c.end (omega (arith, m, most)) (λ j x y. none j x (omega (arith, m, y))) in
      let b = passed_charge d t.selectors w (k - c.visit) c.visit c.end (omega (arith, m, most)) (λ j x y. each j x (omega (arith, m, y))) in
      let e = rw m at a in
      let f = rw m at b in
      let p = due_here c.visit in
      let q = due_here k in
      record {
        same = from_here k ∙ sym e ∙ sym (from_here c.visit);
        paid = omega (arith, paid, f, p, q);
        stage = refl;
        visit = λ lt. absurd (omega (arith, lt, passed));
        end = end;
        child = rw no tt;
        stride = fits;
      }

  -- so many nodes are passed, for a unit of each selector
  pub passes_all : (k left rest_left : ℕ) → c.visit ≤ k → k ≤ c.end → ((j : ℕ) → c.visit ≤ j → j < k → IsPassed d s j) → rest_left + (k - c.visit) * length s.selections.items ≡ left
      → Runs d (stage_view s).tree [] c (visit_then c k) left rest_left
  passes_all k left rest_left least most each paid = passes (length s.selections.items) k left rest_left least most (λ j x y. (each j x y).nothing) (λ j x y. (each j x y).charge) paid

  -- and one from which it selects a node
  pub passes_found : (k : ℕ) (found : NodeId) (left rest_left : ℕ) → c.visit ≤ k → k < c.end → ((j : ℕ) → c.visit ≤ j → j < k → IsPassed d s j) → GivesNode d s k found
      → rest_left + (k + 1 - c.visit) * length s.selections.items ≡ left → Runs d (stage_view s).tree (single d (Some found)) c (visit_then c (k + 1)) left rest_left
  passes_found k found left rest_left least most each some paid =
      let t = (stage_view s).tree in
      let w = length s.selections.items in
      let m : k + 1 - c.visit ≡ suc (k - c.visit) = omega (arith, least) in
      let times = ap (λ x. x * w) m ∙ suc-mul (k - c.visit) w in
      let h = passes_all k left (rest_left + w) least (omega (arith, most)) each (omega (arith, paid, times)) in
      let hp = h.paid in
      let more = ap (flat_map (selected (node_at d 0) t.selectors)) (between_more d k c.end most) in
      let costs = ap (total_of (charge_in (node_at d 0) t.selectors)) (between_more d k c.end most) in
      let one = some.charge in
      let p = due_here k in
      let q = due_here (k + 1) in
      record {
        same = ap (λ ns. single d (Some found) ++ ns) (from_here (k + 1)) ∙ ap (λ ns. ns ++ flat_map (selected (node_at d 0) t.selectors) (nodes_between d (k + 1) c.end)) (sym some.node) ∙ sym more ∙ sym (from_here k) ∙ h.same;
        paid = omega (arith, hp, costs, one, p, q);
        stage = refl;
        visit = λ lt. absurd (omega (arith, lt, passed));
        end = end;
        child = rw no tt;
        stride = fits;
      }

  -- all that it selects from the first node and its descendants is out
  pub drains_visit : (split : SplitsNodes) (k : ℕ) (out new : List NodeId) (left rest_left : ℕ) → s.descend ≡ true → c.visit ≤ k → k ≤ c.end → nodes_between d c.visit k ≡ visit (node_at d c.visit)
      → Takes d (stage_view s).tree (node_at d c.visit) true out new left rest_left → Drains d (stage_view s).tree c (visit_then c k) out new left rest_left
  drains_visit split k out new left rest_left down least most all h =
      let t = (stage_view s).tree in
      let root = node_at d 0 in
      let n = node_at d c.visit in
      let front : starts t.descend n ≡ nodes_between d c.visit k = rw (stage_is s, down) (sym all) in
      let gives : nodes_from root t n ≡ flat_map (selected root t.selectors) (nodes_between d c.visit k) = ap (flat_map (selected root t.selectors)) front in
      let costs : charge_at root t n ≡ total_of (charge_in root t.selectors) (nodes_between d c.visit k) = ap (total_of (charge_in root t.selectors)) front in
      let parts = split d c.visit k c.end least most in
      let whole = ap (flat_map (selected root t.selectors)) parts ∙ flat_map-append (selected root t.selectors) (nodes_between d c.visit k) (nodes_between d k c.end) in
      let sums = ap (total_of (charge_in root t.selectors)) parts ∙ total_append (charge_in root t.selectors) (nodes_between d c.visit k) (nodes_between d k c.end) in
      let p = due_here c.visit in
      let q = due_here k in
      let paid = h.1 in
      let here = nodes_from root t n in
      let rest = flat_map (selected root t.selectors) (nodes_between d k c.end) in
      record {
        same = rw h.0.same (append_assoc (nodes_of d out) here (ahead d t (visit_then c k))) ∙ ap (λ ns. nodes_of d out ++ (here ++ ns)) (from_here k) ∙ ap (λ ns. nodes_of d out ++ (ns ++ rest)) gives ∙ ap (λ ns. nodes_of d out ++ ns) (sym (from_here c.visit ∙ whole));
        paid = omega (arith, p, q, sums, costs, paid);
        sound = h.0.inside;
        stage = refl;
        visit = λ lt. absurd (omega (arith, lt, passed));
        end = end;
        child = rw no tt;
        stride = fits;
      }

  pub refuses_visit : (split : SplitsNodes) (k left : ℕ) (e : SelectFault) → s.descend ≡ true → c.visit ≤ k → k ≤ c.end → nodes_between d c.visit k ≡ visit (node_at d c.visit)
      → Refuses (charge_at (node_at d 0) (stage_view s).tree (node_at d c.visit)) left e → Refuses (due d (stage_view s).tree c) left e
  refuses_visit split k left e down least most all h =
      let t = (stage_view s).tree in
      let root = node_at d 0 in
      let n = node_at d c.visit in
      let front : starts t.descend n ≡ nodes_between d c.visit k = rw (stage_is s, down) (sym all) in
      let costs : charge_at root t n ≡ total_of (charge_in root t.selectors) (nodes_between d c.visit k) = ap (total_of (charge_in root t.selectors)) front in
      let sums = ap (total_of (charge_in root t.selectors)) (split d c.visit k c.end least most) ∙ total_append (charge_in root t.selectors) (nodes_between d c.visit k) (nodes_between d k c.end) in
      let p = due_here c.visit in
      refuses_from (charge_at root t n) left (due d t c) left e (λ lt. omega (arith, lt, p, sums, costs)) h

-- ---- What a segment selects from one node at once

pub childless : (d : Doc) (r : Option NodeId) (ns : List Node) (b : Bool) → b ≡ is_none r → b ≡ true → following d r ≡ ns → ns ≡ []
childless d None ns b is h e = sym e
childless d (Some n) ns b is h e = absurd cc

module _ (d : Doc) (s : Stage) (k : ℕ) where
  pub passed_leaf : PaysInParts → children (node_at d k) ≡ [] → IsPassed d s k
  passed_leaf law e =
      let ss = (stage_view s).tree.selectors in
      let parts = law.parts (node_at d 0) ss (node_at d k) in
      let free = law.free (node_at d 0) ss (node_at d k) e in
      let all = count_all s in
      record { nothing = law.nothing (node_at d 0) ss (node_at d k) e; charge = omega (arith, parts, free, all) }

  module _ (l : Link) (only : (stage_view s).tree.selectors ≡ selector (link_selector l) no_selectors) where
    link_charge : charge_in (node_at d 0) (stage_view s).tree.selectors (node_at d k) ≡ length s.selections.items
    link_charge =
        let u = one_unit (node_at d 0) (node_at d k) l in
        let c = ap count_of (sym only) ∙ count_all s in
        rw only (omega (arith, u, c))

    link_selects : selected (node_at d 0) (stage_view s).tree.selectors (node_at d k) ≡ selected_by (node_at d 0) (link_selector l) (node_at d k)
    link_selects = rw only (append-nil (selected_by (node_at d 0) (link_selector l) (node_at d k)))

    pub passed_link : [] ≡ selected_by (node_at d 0) (link_selector l) (node_at d k) → IsPassed d s k
    passed_link e = record { nothing = link_selects ∙ sym e; charge = link_charge }

    pub gives_node : (found : NodeId) → single d (Some found) ≡ selected_by (node_at d 0) (link_selector l) (node_at d k) → GivesNode d s k found
    gives_node found e = record { node = link_selects ∙ sym e; charge = link_charge }

pub only_if : (s : Stage) (r : Option (Bor Link)) → IfSome r (λ l. trees (map selection_view s.selections.items) ≡ link_selector l.now ∷ []) → IfSome r (λ l. (stage_view s).tree.selectors ≡ selector (link_selector l.now) no_selectors)
only_if s None e = tt
only_if s (Some l) e = rw (stage_is s, e) refl

-- ---- The most that selectors are charged that ask no children

module _ (root : Node) where
  few_picked : (p : ℕ → Bool) (i : ℕ) (ns : List Node) → length (picked p i ns) ≤ length ns
  few_picked p i [] = omega arith
  few_picked p i (n ∷ ns) = by (p i) (few_picked p (suc i) ns)
    where
      by : (b : Bool) → length (picked p (suc i) ns) ≤ length ns → length (if b then n ∷ picked p (suc i) ns else picked p (suc i) ns) ≤ suc (length ns)
      by true h = omega (arith, h)
      by false h = omega (arith, h)

  few_in_order : (step : ℤ) (ns : List Node) → length (in_order step ns) ≤ length ns
  few_in_order step ns = by (int_lt (pos 0) step) (int_lt step (pos 0))
    where
      by : (b c : Bool) → length (if b then ns else (if c then reverse ns else [])) ≤ length ns
      by true c = omega arith
      by false true = let h = length-reverse ns in omega (arith, h)
      by false false = omega arith

  few_by : (start stop step : ℤ) (ns : List Node) → length (sliced_by start stop step ns) ≤ length ns
  few_by start stop step ns =
      let p = is_selected (lower start stop step (length ns)) (upper start stop step (length ns)) step in
      let a = few_in_order step (picked p 0 ns) in
      let b = few_picked p 0 ns in
      omega (arith, a, b)

  few_sliced : (start stop step : Option IntLit) (ns : List Node) → length (sliced start stop step ns) ≤ length ns
  unfolding sliced
  few_sliced start stop step ns =
      few_by (bound_or (start_default (step_of step) (length ns)) start) (bound_or (stop_default (step_of step) (length ns)) stop) (step_of step) ns

  few_elements : (n : Node) → length (elements n) ≤ length (children n)
  few_elements n = by n.way_up n.number n.tree
    where
      by : (up : List Step) (k : ℕ) (t : Tree) → length (elements_of up k t) ≤ length (children_of up k t)
      by up k (Leaf s c) = omega arith
      by up k (Arr s es) = omega arith
      by up k (Obj s ms) = omega arith

  most_by : (s : Selector) (n : Node) → condition_in s ≡ None → charge_by root s n ≤ 1 + length (children n)
  most_by (name scalars) n e = omega arith
  most_by wild n e = omega arith
  most_by (index i) n e = omega arith
  most_by (filter x) n e = absurd cc
  most_by (slice start stop step) n e = let a = few_sliced start stop step (elements n) in let b = few_elements n in omega (arith, a, b)

  most_in : (ss : Selectors) (n : Node) → AreUnasked ss → charge_in root ss n ≤ count_of ss * (1 + length (children n))
  most_in no_selectors n h = omega arith
  most_in (selector s others) n h =
      let a = most_by s n h.0 in
      let b = most_in others n h.1 in
      let m = suc-mul (count_of others) (1 + length (children n)) in
      omega (arith, a, b, m)

  most_of : (ss : Selectors) (ns : List Node) → AreUnasked ss → total_of (charge_in root ss) ns ≤ count_of ss * (length ns + length (flat_map children ns))
  most_of ss [] h = omega arith
  most_of ss (n ∷ ns) h =
      let c = count_of ss in
      let a = most_in ss n h in
      let b = most_of ss ns h in
      let l = length-append (children n) (flat_map children ns) in
      let sum : suc (length ns) + length (children n ++ flat_map children ns) ≡ (1 + length (children n)) + (length ns + length (flat_map children ns)) = omega (arith, l) in
      let m = ap (λ x. c * x) sum ∙ mul-add c (1 + length (children n)) (length ns + length (flat_map children ns)) in
      omega (arith, a, b, m)

pub most_at : (d : Doc) (s : Stage) (n : Node) (most : ℕ) → AreUnasked (selectors_of (trees (map selection_view s.selections.items)))
    → length (starts s.descend n) + length (flat_map children (starts s.descend n)) ≡ most → charge_at (node_at d 0) (stage_view s).tree n ≤ length s.selections.items * most
most_at d s n most h e =
    let root = node_at d 0 in
    let ss = selectors_of (trees (map selection_view s.selections.items)) in
    let c = ap (λ x. x * most) (count_is s.selections.items) in
    let a = rw e at (most_of root ss (starts s.descend n) h) in
    rw (stage_is s) (omega (arith, a, c))

pub most_if : (d : Doc) (s : Stage) (n : Node) (r : Option ℕ) (nodes : ℕ) → SomeIff r (length s.selections.items * nodes < 2 ^ 64) (length s.selections.items * nodes) → AreUnasked (selectors_of (trees (map selection_view s.selections.items)))
    → length (starts s.descend n) + length (flat_map children (starts s.descend n)) ≡ nodes → IfSome r (λ most. charge_at (node_at d 0) (stage_view s).tree n ≤ most)
most_if d s n None nodes c h e = tt
most_if d s n (Some most) nodes c h e = let m = c.1 in let a = most_at d s n nodes h e in omega (arith, m, a)

pub counted_one : (n : Node) (total : ℕ) → total ≡ length (children n) → length (n ∷ []) + length (flat_map children (n ∷ [])) ≡ 1 + total
counted_one n total e = let l = ap (λ (ns : List Node). length ns) (append-nil (children n)) in omega (arith, l, e)
