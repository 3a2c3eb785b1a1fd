-- Walks of the evaluation: the part at the index first, and then the rest.
use Rattle.std.proofs.Common.{◌≡◌, ℕ, zero, suc, ◌+◌, ◌≤◌, ◌-◌, ◌*◌, ◌<◌, Bool, true, false, ◌&&◌, ◌||◌, List, [], ◌∷◌, ◌++◌, map, length, drop, get_or, Result, Ok, Err, nat_eq, refl, sym, ap, ◌∙◌, subst, arith, append_assoc, length-append}
use Rattle.std.specs.Prelude.{MatchResult, flat_map}
use Rattle.std.specs.Prelude.{filter as keep, not as opposite}
use Rattle.std.proofs.lemmas.Bool.Decides.{nat_tests}
use Rattle.std.proofs.lemmas.List.{append-nil, drop_more, length-map}
use Rattle.std.proofs.lemmas.List.Elements.{All-head, All-rest}
use Rattle.std.proofs.Math.Nat.{suc-mul}
use Rattle.path_grammar.specs.Tree as tree
use Rattle.path_grammar.specs.Tree.{OneSegment, Selectors, Selector, exprs_of, selectors_of}
use Rattle.json_tape.specs.Nodes.{Node, children, visit}
use Rattle.json_tape.specs.Document.{Doc, count, counting, node_at, seen}
use Rattle.json_text.specs.declared.tape.NodeId.{NodeId}
use Rattle.node_lists.specs.Evaluation.{evaluated, selected, selected_by, holds, some_hold, all_hold, is_empty}
use Rattle.node_lists.specs.Nodelists.{nodes_of}
use Rattle.node_lists.specs.Charge.{total_of, charge_from, charge_in, charge_by}
use Rattle.node_lists.specs.Extra.{count_of, extra_by, extra_in, nodes_from, charge_at, nodes_after, charge_after}
use Rattle.query_plan.specs.Planned.{Claims, trees, query_of, claims_of, condition_view, selection_view, stage_view}
use Rattle.node_lists.specs.Links.{link_selector, link_view}
use Rattle.query_plan.specs.Slots.{AreClaimed}
use Rattle.query_plan.specs.declared.plan.Condition.{Condition}
use Rattle.query_plan.specs.declared.plan.Selection.{Selection}
use Rattle.query_plan.specs.declared.plan.Stage.{Stage}
use Rattle.path_meaning.specs.declared.links.Link.{Link}
use Rattle.path_meaning.specs.declared.links.Link.TheVariants.{Key, Place}
use Rattle.node_lists.specs.Laws.{PaysInParts}
use Rattle.node_lists.specs.Paying.{Adds, Holds, Inside, FindsList}
use Rattle.std.specs.declared.vec.Vec.{Vec}
use Rattle.std.specs.declared.alloc.Global.{Global}
use Rattle.node_lists.specs.declared.fault.SelectFault.{SelectFault}
use Rattle.node_lists.specs.declared.fault.SelectFault.TheVariants.{Memory}
use Rattle.tape_select.proofs.Paid.{refuses_from, finds_some, finds_all}
use Rattle.tape_select.proofs.Parts.{stage_is, operand_claims, operand_charges, selection_claims, stages_claims, argued_charge, length_called}

-- ---- Nodes of a list

pub has_none : (d : Doc) (ids : List NodeId) → Inside d ids → Holds d ids (nodes_of d ids ++ [])
has_none d ids a = record { same = sym (append-nil (nodes_of d ids)); inside = a }

pub flat_more : (f : Node → List Node) (d : Doc) (ids : List NodeId) (i : ℕ) (id : NodeId) → i < length ids
    → flat_map f (nodes_of d (drop i ids)) ≡ f (node_at d (get_or ids i id).0) ++ flat_map f (nodes_of d (drop (i + 1) ids))
flat_more f d ids i id lt = ap (λ (xs : List NodeId). flat_map f (nodes_of d xs)) (drop_more ids i id lt)

pub sum_more : (f : Node → ℕ) (d : Doc) (ids : List NodeId) (i : ℕ) (id : NodeId) → i < length ids
    → total_of f (nodes_of d (drop i ids)) ≡ f (node_at d (get_or ids i id).0) + total_of f (nodes_of d (drop (i + 1) ids))
sum_more f d ids i id lt = ap (λ (xs : List NodeId). total_of f (nodes_of d xs)) (drop_more ids i id lt)

-- the first of an iterator's nodes, and those that it has left
pub drawn : (d : Doc) (ids : List NodeId) (k : NodeId) (rest : List NodeId) → ids ≡ k ∷ rest → nodes_of d ids ≡ node_at d k.0 ∷ nodes_of d rest
drawn d ids k rest e = ap (nodes_of d) e

pub drawn_inside : (d : Doc) (ids : List NodeId) (k : NodeId) (rest : List NodeId) → ids ≡ k ∷ rest → Inside d ids → (k.0 < count d) × Inside d rest
drawn_inside d ids k rest e a = (All-head (λ id. id.0 < count d) k rest (subst (Inside d) e a), All-rest (λ id. id.0 < count d) k rest ids e a)

-- ---- Filters

pub keep_more : (p : Node → Bool) (out : List Node) (n : Node) (ns : List Node) → p n ≡ true → (out ++ n ∷ []) ++ keep p ns ≡ out ++ keep p (n ∷ ns)
keep_more p out n ns e = rw e (append_assoc out (n ∷ []) (keep p ns))

pub keep_not : (p : Node → Bool) (n : Node) (ns : List Node) → p n ≡ false → keep p (n ∷ ns) ≡ keep p ns
keep_not p n ns e = rw e refl

pub ruleset filtering = (has_none, keep_more, keep_not)

pub filter_charge : (f : Node → ℕ) (ns : List Node) → length ns + total_of (λ n. 1 + f n) ns ≡ 2 * length ns + total_of f ns
filter_charge f [] = refl
filter_charge f (n ∷ ns) = let h = filter_charge f ns in omega (arith, h)

pub any_are : (ns : List Node) → opposite (is_empty ns) ≡ opposite (nat_eq (length ns) 0)
any_are [] = refl
any_are (n ∷ ns) = let t : nat_eq (suc (length ns)) 0 ≡ false = grind (arith, nat_tests) in rw t refl

pub ruleset holding = (any_are)

pub ruleset siding = (argued_charge, length_called)

pub ruleset joining = (finds_some, finds_all)

pub or_assoc : (a b c : Bool) → ((a || b) || c) ≡ (a || (b || c))
or_assoc true b c = refl
or_assoc false b c = refl

pub and_assoc : (a b c : Bool) → ((a && b) && c) ≡ (a && (b && c))
and_assoc true b c = refl
and_assoc false b c = refl

pub or_false : (a : Bool) → (a || false) ≡ a
or_false true = refl
or_false false = refl

pub and_true : (a : Bool) → (a && true) ≡ a
and_true true = refl
and_true false = refl

pub some_more : (root n : Node) (es : List Condition) (i : ℕ) (d : Condition) → i < length es
    → some_hold root (exprs_of (trees (map condition_view (drop i es)))) n ≡ (holds root (condition_view (get_or es i d)).tree n || some_hold root (exprs_of (trees (map condition_view (drop (i + 1) es)))) n)
some_more root n es i d lt = ap (λ (xs : List Condition). some_hold root (exprs_of (trees (map condition_view xs))) n) (drop_more es i d lt)

pub all_more : (root n : Node) (es : List Condition) (i : ℕ) (d : Condition) → i < length es
    → all_hold root (exprs_of (trees (map condition_view (drop i es)))) n ≡ (holds root (condition_view (get_or es i d)).tree n && all_hold root (exprs_of (trees (map condition_view (drop (i + 1) es)))) n)
all_more root n es i d lt = ap (λ (xs : List Condition). all_hold root (exprs_of (trees (map condition_view xs))) n) (drop_more es i d lt)

pub ruleset somes = (some_more, operand_claims, operand_charges, or_assoc, or_false)

pub ruleset alls = (all_more, operand_claims, operand_charges, and_assoc, and_true)

-- ---- Selectors

pub selections_more : (root n : Node) (ss : List Selection) (i : ℕ) (d : Selection) → i < length ss
    → selected root (selectors_of (trees (map selection_view (drop i ss)))) n ≡ selected_by root (selection_view (get_or ss i d)).tree n ++ selected root (selectors_of (trees (map selection_view (drop (i + 1) ss)))) n
selections_more root n ss i d lt = ap (λ (xs : List Selection). selected root (selectors_of (trees (map selection_view xs))) n) (drop_more ss i d lt)

pub extras_more : (root n : Node) (ss : List Selection) (i : ℕ) (d : Selection) → i < length ss
    → extra_in root (selectors_of (trees (map selection_view (drop i ss)))) n ≡ extra_by root (selection_view (get_or ss i d)).tree n + extra_in root (selectors_of (trees (map selection_view (drop (i + 1) ss)))) n
extras_more root n ss i d lt = ap (λ (xs : List Selection). extra_in root (selectors_of (trees (map selection_view xs))) n) (drop_more ss i d lt)

pub ruleset selections = (selections_more, extras_more, selection_claims, append_assoc, has_none)

-- ---- The units of selectors, and what they are charged beyond them

module _ (law : PaysInParts) (root : Node) where
  all_in_parts : (ss : Selectors) (ns : List Node) → total_of (charge_in root ss) ns ≡ length ns * count_of ss + total_of (extra_in root ss) ns
  all_in_parts ss [] = omega arith
  all_in_parts ss (n ∷ ns) =
      let a = law.parts root ss n in
      let b = all_in_parts ss ns in
      let m : suc (length ns) * count_of ss ≡ length ns * count_of ss + count_of ss = suc-mul (length ns) (count_of ss) in
      omega (arith, a, b, m)

count_is : (ss : List Selection) → count_of (selectors_of (trees (map selection_view ss))) ≡ length ss
count_is [] = refl
count_is (s ∷ ss) = ap suc (count_is ss)

-- from a node and all its descendants
pub descending : (root n : Node) (s : Stage) → s.descend ≡ true → nodes_from root (stage_view s).tree n ≡ flat_map (selected root (selectors_of (trees (map selection_view s.selections.items)))) (visit n)
descending root n s e = rw (stage_is s, e) refl

pub descending_charge : (law : PaysInParts) (root n : Node) (s : Stage) → s.descend ≡ true
    → charge_at root (stage_view s).tree n ≡ length (visit n) * length s.selections.items + total_of (extra_in root (selectors_of (trees (map selection_view s.selections.items)))) (visit n)
descending_charge law root n s e = rw (stage_is s, e) (all_in_parts law root (selectors_of (trees (map selection_view s.selections.items))) (visit n) ∙ rw (count_is s.selections.items) refl)

-- from the node alone
pub staying : (root n : Node) (s : Stage) → s.descend ≡ false → nodes_from root (stage_view s).tree n ≡ selected root (selectors_of (trees (map selection_view s.selections.items))) n
staying root n s e = rw (stage_is s, e) (append-nil (selected root (selectors_of (trees (map selection_view s.selections.items))) n))

pub staying_charge : (law : PaysInParts) (root n : Node) (s : Stage) → s.descend ≡ false
    → charge_at root (stage_view s).tree n ≡ length s.selections.items + extra_in root (selectors_of (trees (map selection_view s.selections.items))) n
staying_charge law root n s e =
    let p = law.parts root (selectors_of (trees (map selection_view s.selections.items))) n in
    let q = count_is s.selections.items in
    rw (stage_is s, e) (omega (arith, p, q))

-- ---- A segment that is a lone name or index

module _ (root : Node) (l : Link) where
  nodes_linked : (ns : List Node) → nodes_after root (link_view l) ns ≡ flat_map (selected_by root (link_selector l)) ns
  nodes_linked [] = refl
  nodes_linked (n ∷ ns) =
      let found = selected_by root (link_selector l) n in
      ap (λ xs. xs ++ nodes_after root (link_view l) ns) (append-nil (found ++ []) ∙ append-nil found) ∙ ap (λ ys. found ++ ys) (nodes_linked ns)

  one_unit : (x : Link) (n : Node) → charge_by root (link_selector x) n ≡ 1
  one_unit (Key name) n = refl
  one_unit (Place i) n = refl

  charge_linked : (ns : List Node) → charge_after root (link_view l) ns ≡ length ns
  charge_linked [] = refl
  charge_linked (n ∷ ns) = let h = charge_linked ns in let unit = one_unit l n in omega (arith, h, unit)

  pub extra_linked : (n : Node) → extra_by root (link_selector l) n ≡ 0
  extra_linked n = go l
    where
      go : (x : Link) → extra_by root (link_selector x) n ≡ 0
      go (Key name) = refl
      go (Place i) = refl

pub finds_linked : (d : Doc) (r : Result (Vec NodeId Global) SelectFault) (root : Node) (s : OneSegment) (l : Link) (ids : List NodeId) (old new : ℕ) → s ≡ link_view l
    → FindsList d r (flat_map (selected_by root (link_selector l)) (nodes_of d ids)) (length ids) old new
    → FindsList d r (nodes_after root s (nodes_of d ids)) (charge_after root s (nodes_of d ids)) old new
finds_linked d (Ok v) root s l ids old new e h =
    let same : nodes_after root s (nodes_of d ids) ≡ flat_map (selected_by root (link_selector l)) (nodes_of d ids) = rw e (nodes_linked root l (nodes_of d ids)) in
    let units : charge_after root s (nodes_of d ids) ≡ length ids = rw e (charge_linked root l (nodes_of d ids) ∙ length-map ids (λ id. node_at d id.0)) in
    let paid = h.1 in
    (rw same h.0, omega (arith, units, paid))
finds_linked d (Err f) root s l ids old new e h =
    let units : charge_after root s (nodes_of d ids) ≡ length ids = rw e (charge_linked root l (nodes_of d ids) ∙ length-map ids (λ id. node_at d id.0)) in
    refuses_from (length ids) old (charge_after root s (nodes_of d ids)) old f (λ lt. omega (arith, units, lt)) h

pub ruleset selecting = (filter_charge, extra_linked)

-- what is paid in front, and then the rest
pub adds_paid : {A : Type 0} (d : Doc) (r : Result A SelectFault) (ids : List NodeId) (xs ys : List Node) (rest charge between old new units : ℕ)
    → between + units ≡ old → charge ≡ units + rest → ys ≡ xs → Adds d r ids xs rest between new → Adds d r ids ys charge old new
adds_paid d (Ok a) ids xs ys rest charge between old new units p q e h = let paid = h.1 in (rw e h.0, omega (arith, p, q, paid))
adds_paid d (Err f) ids xs ys rest charge between old new units p q e h = refuses_from rest between charge old f (λ l. omega (arith, p, q, l)) h

pub more_of : (out xs ys : List Node) → ys ≡ xs → out ++ ys ≡ out ++ xs
more_of out xs ys e = ap (λ zs. out ++ zs) e

pub ruleset each_input = (append-nil, flat_more, sum_more, append_assoc, has_none)

-- ---- Segments

pub stage_claimed : (t : Claims) (ss : List Stage) (i : ℕ) (item : Stage) → i < length ss → item ≡ get_or ss i item → AreClaimed t (claims_of (drop i ss))
    → AreClaimed t (stage_view item).claims × AreClaimed t (claims_of (drop (i + 1) ss))
stage_claimed t ss i item lt e h = rw (← e) at (rw (stages_claims ss i item lt) at h)

pub evaluated_step : (root : Node) (ns : List Node) (ss : List Stage) (i : ℕ) (item : Stage) → i < length ss → item ≡ get_or ss i item
    → evaluated root (query_of (drop i ss)) ns ≡ evaluated root (query_of (drop (i + 1) ss)) (nodes_after root (stage_view item).tree ns)
evaluated_step root ns ss i item lt e =
    ap (λ (xs : List Stage). evaluated root (query_of xs) ns) (drop_more ss i item lt)
    ∙ ap (λ (x : Stage). evaluated root (query_of (drop (i + 1) ss)) (nodes_after root (stage_view x).tree ns)) (sym e)

pub charge_step : (root : Node) (ns : List Node) (ss : List Stage) (i : ℕ) (item : Stage) → i < length ss → item ≡ get_or ss i item
    → charge_from root (query_of (drop i ss)) ns ≡ charge_after root (stage_view item).tree ns + charge_from root (query_of (drop (i + 1) ss)) (nodes_after root (stage_view item).tree ns)
charge_step root ns ss i item lt e =
    ap (λ (xs : List Stage). charge_from root (query_of xs) ns) (drop_more ss i item lt)
    ∙ ap (λ (x : Stage). charge_after root (stage_view x).tree ns + charge_from root (query_of (drop (i + 1) ss)) (nodes_after root (stage_view x).tree ns)) (sym e)

-- one stage alone
pub one_stage : (ss : List Stage) (s : Stage) → 1 ≤ length ss → length ss < 2 → s ≡ get_or ss 0 s → ss ≡ s ∷ []
one_stage [] s l m e = absurd (omega arith)
one_stage (x ∷ []) s l m e = ap (λ (y : Stage). y ∷ []) (sym e)
one_stage (x ∷ y ∷ ss) s l m e = absurd (omega arith)

pub finds_one : (d : Doc) (r : Result (Vec NodeId Global) SelectFault) (root n : Node) (ss : List Stage) (s : Stage) (old new : ℕ) → ss ≡ s ∷ []
    → FindsList d r (nodes_after root (stage_view s).tree (n ∷ [])) (charge_after root (stage_view s).tree (n ∷ [])) old new
    → FindsList d r (evaluated root (query_of ss) (n ∷ [])) (charge_from root (query_of ss) (n ∷ [])) old new
finds_one d (Ok v) root n ss s old new e h = let paid = h.1 in rw e (h.0, omega (arith, paid))
finds_one d (Err f) root n ss s old new e h =
    rw e (refuses_from (charge_after root (stage_view s).tree (n ∷ [])) old (charge_from root (query_of (s ∷ [])) (n ∷ [])) old f (λ l. omega (arith, l)) h)

-- ---- Descendants

pub leaf_holds : (law : PaysInParts) (root : Node) (ss : Selectors) (d : Doc) (ids : List NodeId) (n : Node) → Inside d ids → [] ≡ children n → Holds d ids (nodes_of d ids ++ selected root ss n)
leaf_holds law root ss d ids n a c = rw (law.nothing root ss n (sym c)) (has_none d ids a)

between_more : (d : Doc) (k e : ℕ) → k < e → seen d (counting k (e - k)) ≡ node_at d k ∷ seen d (counting (k + 1) (e - (k + 1)))
between_more d k e h = let p : e - k ≡ suc (e - (k + 1)) = omega arith in let q : suc k ≡ k + 1 = omega arith in rw (p, q) refl

pub visit_more : (f : Node → List Node) (d : Doc) (k e : ℕ) → k < e → flat_map f (seen d (counting k (e - k))) ≡ f (node_at d k) ++ flat_map f (seen d (counting (k + 1) (e - (k + 1))))
visit_more f d k e lt = ap (flat_map f) (between_more d k e lt)

pub visit_charged : (f : Node → ℕ) (d : Doc) (k e : ℕ) → k < e → total_of f (seen d (counting k (e - k))) ≡ f (node_at d k) + total_of f (seen d (counting (k + 1) (e - (k + 1))))
visit_charged f d k e lt = ap (total_of f) (between_more d k e lt)

pub ruleset visiting = (visit_more, visit_charged, append_assoc, has_none)

-- ---- A lone name, and a lone wildcard

names_free : (root : Node) (scalars : List ℕ) (ns : List Node) → total_of (extra_in root (tree.selector (tree.name scalars) tree.no_selectors)) ns ≡ 0
names_free root scalars [] = refl
names_free root scalars (n ∷ ns) = let h = names_free root scalars ns in omega (arith, h)

adds_free : {A : Type 0} (d : Doc) (r : Result A SelectFault) (ids : List NodeId) (xs : List Node) (charge left : ℕ)
    → MatchResult r (λ _. Holds d ids xs) (λ e. e ≡ Memory) → charge ≡ 0 → Adds d r ids xs charge left left
adds_free d (Ok a) ids xs charge left h e = (h, omega (arith, e))
adds_free d (Err f) ids xs charge left h e = rw h tt

pub adds_named : {A : Type 0} (d : Doc) (r : Result A SelectFault) (ids : List NodeId) (root n : Node) (out : List Node) (ss : List Selector) (scalars : List ℕ) (left : ℕ)
    → ss ≡ tree.name scalars ∷ []
    → MatchResult r (λ _. Holds d ids (out ++ flat_map (selected root (tree.selector (tree.name scalars) tree.no_selectors)) (visit n))) (λ e. e ≡ Memory)
    → Adds d r ids (out ++ flat_map (selected root (selectors_of ss)) (visit n)) (total_of (extra_in root (selectors_of ss)) (visit n)) left left
adds_named d r ids root n out ss scalars left e h =
    let free = names_free root scalars (visit n) in
    rw e (adds_free d r ids (out ++ flat_map (selected root (tree.selector (tree.name scalars) tree.no_selectors)) (visit n)) (total_of (extra_in root (tree.selector (tree.name scalars) tree.no_selectors)) (visit n)) left h free)

wild_selected : (root : Node) (ns : List Node) → flat_map (selected root (tree.selector tree.wild tree.no_selectors)) ns ≡ flat_map children ns
wild_selected root [] = refl
wild_selected root (n ∷ ns) = rw (append-nil (children n), wild_selected root ns) refl

wild_charged : (root : Node) (ns : List Node) → total_of (extra_in root (tree.selector tree.wild tree.no_selectors)) ns ≡ length (flat_map children ns)
wild_charged root [] = refl
wild_charged root (n ∷ ns) = let h = wild_charged root ns in let l = length-append (children n) (flat_map children ns) in omega (arith, h, l)

pub adds_wild : {A : Type 0} (d : Doc) (r : Result A SelectFault) (ids : List NodeId) (root n : Node) (out : List Node) (ss : List Selector) (old new : ℕ)
    → ss ≡ tree.wild ∷ []
    → Adds d r ids (out ++ flat_map children (visit n)) (length (flat_map children (visit n))) old new
    → Adds d r ids (out ++ flat_map (selected root (selectors_of ss)) (visit n)) (total_of (extra_in root (selectors_of ss)) (visit n)) old new
adds_wild d r ids root n out ss old new e h = rw (e, wild_selected root (visit n), wild_charged root (visit n)) h

-- ---- A list that grows as the rest becomes shorter

pub joined_more : (new out part rest all target : List Node) → new ≡ out ++ part → all ≡ part ++ rest → out ++ all ≡ target → new ++ rest ≡ target
joined_more new out part rest all target made split before = rw made (append_assoc out part rest ∙ ap (λ ns. out ++ ns) (sym split) ∙ before)

pub paid_more : (new old initial all whole part rest : ℕ) → old + all ≡ initial + whole → new + part ≡ old → whole ≡ part + rest → new + all ≡ initial + rest
paid_more new old initial all whole part rest before paid split = omega (arith, before, paid, split)

pub only_one : (d : Doc) (n : NodeId) → n.0 < count d → Inside d (n ∷ [])
only_one d n h zero x lt = h
only_one d n h (suc k) x lt = absurd (omega (arith, lt))
