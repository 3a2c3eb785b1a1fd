-- Steps of a cursor.
use Rattle.std.proofs.Common.{◌≡◌, ℕ, zero, suc, ◌+◌, ◌-◌, ◌<◌, ◌≤◌, Bool, true, false, List, [], ◌∷◌, ◌++◌, map, length, drop, get_or, Option, Some, None, refl, sym, ap, ◌∙◌, arith, append_assoc, Bor, if◌then◌else◌}
use Rattle.std.specs.Prelude.{flat_map, IfSome, MatchOption}
use Rattle.std.specs.Prelude.{filter as keep}
use Rattle.std.proofs.lemmas.List.{append-nil, drop_more, drop_all, length-append}
use Rattle.path_grammar.specs.Tree.{OneSegment, Selectors, Selector, name, wild, index, filter, slice, Expr, no_selectors, selector, selectors_of}
use Rattle.json_tape.specs.Nodes.{Node, children, elements}
use Rattle.json_tape.specs.Document.{Doc, node_at, seen, counting, following, single, later, count, IsIn}
use Rattle.json_text.specs.declared.tape.NodeId.{NodeId}
use Rattle.node_lists.specs.Evaluation.{selected, selected_by, holds, starts}
use Rattle.node_lists.specs.Charge.{total_of, charge_in, charge_by, charge_expr}
use Rattle.node_lists.specs.Extra.{nodes_from, charge_at}
use Rattle.node_lists.specs.Nodelists.{nodes_between, nodes_of}
use Rattle.node_lists.specs.Paying.{Refuses}
use Rattle.node_lists.specs.declared.fault.SelectFault.{SelectFault}
use Rattle.query_plan.specs.Slots.{AreClaimed}
use Rattle.query_plan.specs.Planned.{Claims, trees, all_claims, condition_view, selection_view, stage_view}
use Rattle.query_plan.specs.declared.plan.Condition.{Condition}
use Rattle.query_plan.specs.declared.plan.Selection.{Selection}
use Rattle.query_plan.specs.declared.plan.Stage.{Stage}
use Rattle.query_machine.specs.Cursors.{ahead, behind, condition_at, condition_in, due, first_condition, price_of, rest_of, strided, taken, taking, visited, visits_due, Drains, Draws, IsAsked, IsStride}
use Rattle.query_machine.specs.Stacks.{Emits}
use Rattle.query_machine.specs.declared.cursor.Cursor.{Cursor}
use Rattle.query_machine.specs.declared.cursor.Stride.{Stride}
use Rattle.query_machine.proofs.Charges.{refuses_from, stage_is}
use Rattle.query_machine.proofs.Strides.{passed_stride, rest_fits}

pub between_none : (d : Doc) (k e : ℕ) → e ≤ k → nodes_between d k e ≡ []
between_none d k e h = let z : e - k ≡ 0 = omega arith in rw z refl

counting_more : (k e : ℕ) → k < e → counting k (e - k) ≡ k ∷ counting (k + 1) (e - (k + 1))
counting_more k e h = let p : e - k ≡ suc (e - (k + 1)) = omega arith in let q : suc k ≡ k + 1 = omega arith in rw (p, q) refl

pub between_more : (d : Doc) (k e : ℕ) → k < e → nodes_between d k e ≡ node_at d k ∷ nodes_between d (k + 1) e
between_more d k e lt = ap (seen d) (counting_more k e lt)

-- ---- Selectors

behind_is : (k : ℕ) (ss : List Selection) → behind k (selectors_of (trees (map selection_view ss))) ≡ selectors_of (trees (map selection_view (drop k ss)))
behind_is zero ss = refl
behind_is (suc k) [] = refl
behind_is (suc k) (s ∷ ss) = behind_is k ss

-- behind so many selectors of a segment comes this one, and then the others
pub behind_more : (s : Stage) (k : ℕ) (item : Selection) → k < length s.selections.items → item ≡ get_or s.selections.items k item
    → behind k (stage_view s).tree.selectors ≡ selector (selection_view item).tree (behind (k + 1) (stage_view s).tree.selectors)
behind_more s k item lt e =
    let ss = s.selections.items in
    rw (stage_is s)
    (behind_is k ss ∙ ap (λ (xs : List Selection). selectors_of (trees (map selection_view xs))) (drop_more ss k item lt ∙ ap (λ (x : Selection). x ∷ drop (k + 1) ss) (sym e))
    ∙ ap (selector (selection_view item).tree) (sym (behind_is (k + 1) ss)))

pub behind_all : (s : Stage) (k : ℕ) → length s.selections.items ≤ k → behind k (stage_view s).tree.selectors ≡ no_selectors
behind_all s k h = rw (stage_is s) (behind_is k s.selections.items ∙ ap (λ (xs : List Selection). selectors_of (trees (map selection_view xs))) (drop_all k s.selections.items h))

claimed_in : (t : Claims) (ss : List Selection) (k : ℕ) (item : Selection) → k < length ss → item ≡ get_or ss k item → AreClaimed t (all_claims (map selection_view ss)) → AreClaimed t (selection_view item).claims
claimed_in t [] k item lt e h = absurd (omega arith)
claimed_in t (s ∷ ss) zero item lt e h = rw e h.0
claimed_in t (s ∷ ss) (suc k) item lt e h = claimed_in t ss k item (omega arith) e h.1

claimed_at : (t : Claims) (s : Stage) (k : ℕ) (item : Selection) → k < length s.selections.items → item ≡ get_or s.selections.items k item → AreClaimed t (stage_view s).claims → AreClaimed t (selection_view item).claims
claimed_at t s k item lt e h = claimed_in t s.selections.items k item lt e (rw (stage_is s) at h)

pub asked_at : (t : Claims) (s : Stage) (k : ℕ) (item : Selection) (r : Option (Bor Condition)) → k < length s.selections.items → item ≡ get_or s.selections.items k item → AreClaimed t (stage_view s).claims
    → IfSome r (λ c. (selection_view item).claims ≡ (condition_view c.now).claims)
    → MatchOption r (condition_in (selection_view item).tree ≡ None) (λ c. condition_in (selection_view item).tree ≡ Some (condition_view c.now).tree)
    → MatchOption r (condition_at k (stage_view s).tree.selectors ≡ None) (λ c. IsAsked t k (stage_view s).tree (condition_view c.now))
asked_at t s k item None lt e h a b = ap first_condition (behind_more s k item lt e) ∙ b
asked_at t s k item (Some c) lt e h a b = record { condition = ap first_condition (behind_more s k item lt e) ∙ b; claimed = rw a at (claimed_at t s k item lt e h) }

-- ---- Parts of what is ahead

module _ (root : Node) where
  pub taken_none : (c : Option Expr) → taken root c [] ≡ []
  taken_none None = refl
  taken_none (Some e) = refl

  pub taking_none : (c : Option Expr) → taking root c [] ≡ 0
  taking_none None = refl
  taking_none (Some e) = refl

  pub all_visited : (ss : Selectors) (ns : List Node) → visited root ss 0 ns ≡ flat_map (selected root ss) ns
  all_visited ss [] = refl
  all_visited ss (n ∷ ns) = refl

  pub all_visits_due : (ss : Selectors) (ns : List Node) → visits_due root ss 0 ns ≡ total_of (charge_in root ss) ns
  all_visits_due ss [] = refl
  all_visits_due ss (n ∷ ns) = refl

  at_least_one : (c : Option Expr) (ns : List Node) → 1 ≤ price_of root c ns
  at_least_one c [] = omega arith
  at_least_one None (n ∷ ns) = omega arith
  at_least_one (Some e) (n ∷ ns) = omega arith

-- where no child and no place is left, the nodes from which the segment selects are
module _ (d : Doc) (s : OneSegment) (c : Cursor) (no : c.child ≡ None) (passed : c.stride.end ≤ c.stride.first) where
  pub only_visits : ahead d s c ≡ visited (node_at d 0) s.selectors c.passed (nodes_between d c.visit c.end)
  only_visits = rw (no, taken_none (node_at d 0) (condition_at c.asked s.selectors), passed_stride c.stride (elements (node_at d c.visit)) passed) refl

  pub only_visits_due : due d s c ≡ visits_due (node_at d 0) s.selectors c.passed (nodes_between d c.visit c.end)
  only_visits_due = rw (no, taking_none (node_at d 0) (condition_at c.asked s.selectors), passed_stride c.stride (elements (node_at d c.visit)) passed) (omega arith)

-- ---- A cursor's beginning and end

descends : (s : Stage) → (stage_view s).tree.descend ≡ s.descend
descends s = rw (stage_is s) refl

module _ (d : Doc) (s : Stage) (c : Cursor) (n : Node) (z : c.passed ≡ 0) (no : c.child ≡ None) (passed : c.stride.end ≤ c.stride.first) (all : nodes_between d c.visit c.end ≡ starts s.descend n) where
  pub opens : ahead d (stage_view s).tree c ≡ nodes_from (node_at d 0) (stage_view s).tree n
  opens = only_visits d (stage_view s).tree c no passed ∙ rw (z, all, descends s) (all_visited (node_at d 0) (stage_view s).tree.selectors (starts s.descend n))

  pub opens_due : due d (stage_view s).tree c ≡ charge_at (node_at d 0) (stage_view s).tree n
  opens_due = only_visits_due d (stage_view s).tree c no passed ∙ rw (z, all, descends s) (all_visits_due (node_at d 0) (stage_view s).tree.selectors (starts s.descend n))

pub nothing_ahead : (d : Doc) (s : OneSegment) (c : Cursor) → c.child ≡ None → c.stride.end ≤ c.stride.first → c.end ≤ c.visit → ahead d s c ≡ []
nothing_ahead d s c none passed h = only_visits d s c none passed ∙ rw (between_none d c.visit c.end h) refl

pub nothing_due : (d : Doc) (s : OneSegment) (c : Cursor) → c.child ≡ None → c.stride.end ≤ c.stride.first → c.end ≤ c.visit → due d s c ≡ 0
nothing_due d s c none passed h = only_visits_due d s c none passed ∙ rw (between_none d c.visit c.end h) refl

-- a cursor of a segment at its beginning
abbrev pub cursor_of : (stage visit end : ℕ) → Stride → Cursor
cursor_of stage visit end w = record { stage = stage; visit = visit; end = end; passed = 0; asked = 0; child = None; stride = w }

-- ---- A child

-- the cursor with another child
abbrev pub child_then : Cursor → Option NodeId → Cursor
child_then c next = record { stage = c.stage; visit = c.visit; end = c.end; passed = c.passed; asked = c.asked; child = next; stride = c.stride }

module _ (d : Doc) (s : OneSegment) (c : Cursor) (child : NodeId) (next : Option NodeId) (is : c.child ≡ Some child) (others : following d next ≡ later d child.0) (i : IsIn d next) (inside : child.0 < count d)
    (visit : c.stride.first < c.stride.end → c.visit < count d) (end : c.end ≤ count d) (stride : IsStride c.stride) where
  -- a wildcard selects it
  pub takes : (left rest_left : ℕ) → condition_at c.asked s.selectors ≡ None → rest_left + 1 ≡ left → Draws d s (Some child) c (child_then c next) left rest_left
  takes left rest_left w paid = record {
    same = rw (is, w, others) refl;
    paid = rw (is, w, others) (omega (arith, paid));
    inside = inside;
    stage = refl;
    visit = visit;
    end = end;
    child = i;
    stride = stride;
    little = rw (is, w) (omega (arith, paid));
  }

  pub refuses_child : (left : ℕ) (e : SelectFault) → condition_at c.asked s.selectors ≡ None → Refuses 1 left e → Refuses (due d s c) left e
  refuses_child left e w h = refuses_from 1 left (due d s c) left e (λ lt. rw (is, w) (omega (arith, lt))) h

  module _ (x : Expr) (f : condition_at c.asked s.selectors ≡ Some x) where
    -- a filter asks it
    pub asks : (b : Bool) (left rest_left : ℕ) → b ≡ holds (node_at d 0) x (node_at d child.0) → rest_left + (2 + charge_expr (node_at d 0) x (node_at d child.0)) ≡ left
        → Draws d s (if b then Some child else None) c (child_then c next) left rest_left
    asks b left rest_left e paid =
        let root = node_at d 0 in
        let rest = strided c.stride (elements (node_at d c.visit)) ++ visited root s.selectors c.passed (nodes_between d c.visit c.end) in
        record {
          same = rw (is, f, others) (by b (sym e) (keep (holds root x) (later d child.0)) rest);
          paid = rw (is, f, others) (omega (arith, paid));
          inside = in_it b;
          stage = refl;
          visit = visit;
          end = end;
          child = i;
          stride = stride;
          little = rw (is, f) (omega (arith, paid));
        }
      where
        in_it : (b : Bool) → IsIn d (if b then Some child else None)
        in_it true = inside
        in_it false = tt

        by : (b : Bool) → holds (node_at d 0) x (node_at d child.0) ≡ b → (ns rest : List Node) → single d (if b then Some child else None) ++ (ns ++ rest) ≡ (if holds (node_at d 0) x (node_at d child.0) then node_at d child.0 ∷ ns else ns) ++ rest
        by true e ns rest = rw e refl
        by false e ns rest = rw e refl

    pub refuses_two : (left : ℕ) (e : SelectFault) → Refuses 2 left e → Refuses (due d s c) left e
    refuses_two left e h = refuses_from 2 left (due d s c) left e (λ lt. rw (is, f) (omega (arith, lt))) h

    pub refuses_asked : (left rest_left : ℕ) (e : SelectFault) → rest_left + 2 ≡ left → Refuses (charge_expr (node_at d 0) x (node_at d child.0)) rest_left e → Refuses (due d s c) left e
    refuses_asked left rest_left e paid h = refuses_from (charge_expr (node_at d 0) x (node_at d child.0)) rest_left (due d s c) left e (λ lt. rw (is, f) (omega (arith, lt, paid))) h

-- children are out that a wildcard goes over
pub drains_children : (d : Doc) (s : OneSegment) (c : Cursor) (next : Option NodeId) (out new : List NodeId) (old left : ℕ) → condition_at c.asked s.selectors ≡ None → (c.stride.first < c.stride.end → c.visit < count d) → c.end ≤ count d → IsStride c.stride
    → Emits d c.child next out new old left → Drains d s c (child_then c next) out new old left
drains_children d s c next out new old left w visit end stride e =
    let rest = strided c.stride (elements (node_at d c.visit)) ++ visited (node_at d 0) s.selectors c.passed (nodes_between d c.visit c.end) in
    let paid = e.paid in
    record {
      same = rw w (sym (append_assoc (nodes_of d new) (following d next) rest) ∙ ap (λ ns. ns ++ rest) e.same ∙ append_assoc (nodes_of d out) (following d c.child) rest);
      paid = rw w (omega (arith, paid));
      sound = e.sound;
      stage = refl;
      visit = visit;
      end = end;
      child = e.inside;
      stride = stride;
    }

-- ---- An element

abbrev pub stride_then : Cursor → Stride → Cursor
stride_then c w = record { stage = c.stage; visit = c.visit; end = c.end; passed = c.passed; asked = c.asked; child = c.child; stride = w }

module _ (d : Doc) (s : OneSegment) (c : Cursor) (no : c.child ≡ None) (some : c.stride.first < c.stride.end) (visit : c.visit < count d) (end : c.end ≤ count d) (stride : IsStride c.stride) where
  pub strides : (found : Option NodeId) (w : Stride) (left rest_left : ℕ) → IsIn d found → w ≡ rest_of c.stride → single d found ++ strided w (elements (node_at d c.visit)) ≡ strided c.stride (elements (node_at d c.visit))
      → rest_left + length (single d found) ≡ left → Draws d s found c (stride_then c w) left rest_left
  strides found w left rest_left f e more paid =
      let root = node_at d 0 in
      let ns = elements (node_at d c.visit) in
      let vs = visited root s.selectors c.passed (nodes_between d c.visit c.end) in
      let l = length-append (single d found) (strided w ns) in
      let m = ap (λ (ms : List Node). length ms) more in
      let z = taking_none root (condition_at c.asked s.selectors) in
      let one = one_found found in
      let least = at_least_one root (condition_at c.asked s.selectors) (following d c.child) in
      record {
        same = rw (no, taken_none root (condition_at c.asked s.selectors)) (sym (append_assoc (single d found) (strided w ns) vs) ∙ ap (λ ms. ms ++ vs) more);
        paid = rw (no, z) (omega (arith, paid, l, m));
        inside = f;
        stage = refl;
        visit = λ h. visit;
        end = end;
        child = rw no tt;
        stride = rw e (rest_fits c.stride stride some);
        little = omega (arith, paid, one, least);
      }
    where
      one_found : (o : Option NodeId) → length (single d o) ≤ 1
      one_found None = omega arith
      one_found (Some n) = omega arith

  pub refuses_element : (n : NodeId) (w : Stride) (left : ℕ) (e : SelectFault) → single d (Some n) ++ strided w (elements (node_at d c.visit)) ≡ strided c.stride (elements (node_at d c.visit)) → Refuses 1 left e → Refuses (due d s c) left e
  refuses_element n w left e more h =
      let m = ap (λ (ms : List Node). length ms) more in
      refuses_from 1 left (due d s c) left e (λ lt. omega (arith, lt, m)) h

-- ---- The nodes from which the segment selects

module _ (d : Doc) (s : Stage) (c : Cursor) (no : c.child ≡ None) (passed : c.stride.end ≤ c.stride.first) (visits : c.visit < c.end) (end : c.end ≤ count d) where
  last_visit : length s.selections.items ≤ c.passed → visited (node_at d 0) (stage_view s).tree.selectors c.passed (nodes_between d c.visit c.end) ≡ flat_map (selected (node_at d 0) (stage_view s).tree.selectors) (nodes_between d (c.visit + 1) c.end)
  last_visit h = rw (between_more d c.visit c.end visits, behind_all s c.passed h) refl

  last_visit_due : length s.selections.items ≤ c.passed → visits_due (node_at d 0) (stage_view s).tree.selectors c.passed (nodes_between d c.visit c.end) ≡ total_of (charge_in (node_at d 0) (stage_view s).tree.selectors) (nodes_between d (c.visit + 1) c.end)
  last_visit_due h = rw (between_more d c.visit c.end visits, behind_all s c.passed h) (omega arith)

  -- all selectors are passed at the first node
  pub passes : (left : ℕ) → length s.selections.items ≤ c.passed → IsStride c.stride
      → Draws d (stage_view s).tree None c (record { stage = c.stage; visit = c.visit + 1; end = c.end; passed = 0; asked = c.asked; child = c.child; stride = c.stride }) left left
  passes left h fits =
      let root = node_at d 0 in
      let t = (stage_view s).tree in
      let next : Cursor = record { stage = c.stage; visit = c.visit + 1; end = c.end; passed = 0; asked = c.asked; child = c.child; stride = c.stride } in
      let ns = nodes_between d (c.visit + 1) c.end in
      let v = all_visits_due root t.selectors ns in
      let a = only_visits_due d t next no passed in
      let b = only_visits_due d t c no passed in
      let l = last_visit_due h in
      record {
        same = only_visits d t next no passed ∙ all_visited root t.selectors ns ∙ sym (only_visits d t c no passed ∙ last_visit h);
        paid = omega (arith, a, b, v, l);
        inside = tt;
        stage = refl;
        visit = λ lt. absurd (omega (arith, lt, passed));
        end = end;
        child = rw no tt;
        stride = fits;
        little = omega (arith, at_least_one root (condition_at c.asked t.selectors) (following d c.child));
      }

  module _ (item : Selection) (lt : c.passed < length s.selections.items) (is : item ≡ get_or s.selections.items c.passed item) where
    front : visited (node_at d 0) (stage_view s).tree.selectors c.passed (nodes_between d c.visit c.end)
        ≡ (selected_by (node_at d 0) (selection_view item).tree (node_at d c.visit) ++ selected (node_at d 0) (behind (c.passed + 1) (stage_view s).tree.selectors) (node_at d c.visit))
        ++ flat_map (selected (node_at d 0) (stage_view s).tree.selectors) (nodes_between d (c.visit + 1) c.end)
    front = rw (between_more d c.visit c.end visits, behind_more s c.passed item lt is) refl

    front_due : visits_due (node_at d 0) (stage_view s).tree.selectors c.passed (nodes_between d c.visit c.end)
        ≡ charge_by (node_at d 0) (selection_view item).tree (node_at d c.visit) + charge_in (node_at d 0) (behind (c.passed + 1) (stage_view s).tree.selectors) (node_at d c.visit)
        + total_of (charge_in (node_at d 0) (stage_view s).tree.selectors) (nodes_between d (c.visit + 1) c.end)
    front_due = rw (between_more d c.visit c.end visits, behind_more s c.passed item lt is) refl

    -- a selector selects a node, or goes over children or places before it
    pub begins : (u : Cursor) (found : Option NodeId) (left rest_left : ℕ) → u.stage ≡ c.stage → u.visit ≡ c.visit → u.end ≡ c.end → u.passed ≡ c.passed + 1
        → single d found ++ (taken (node_at d 0) (condition_at u.asked (stage_view s).tree.selectors) (following d u.child) ++ strided u.stride (elements (node_at d c.visit))) ≡ selected_by (node_at d 0) (selection_view item).tree (node_at d c.visit)
        → charge_by (node_at d 0) (selection_view item).tree (node_at d c.visit) ≡ 1 + (taking (node_at d 0) (condition_at u.asked (stage_view s).tree.selectors) (following d u.child) + length (strided u.stride (elements (node_at d c.visit))))
        → rest_left + 1 ≡ left → IsIn d found → IsIn d u.child → IsStride u.stride
        → Draws d (stage_view s).tree found c u left rest_left
    begins u found left rest_left at v e p gives costs paid f i fits =
        let root = node_at d 0 in
        let t = (stage_view s).tree in
        let n = node_at d c.visit in
        let ns = nodes_between d (c.visit + 1) c.end in
        let others = selected root (behind (c.passed + 1) t.selectors) n in
        let rest = flat_map (selected root t.selectors) ns in
        let more = between_more d c.visit c.end visits in
        let a = only_visits_due d t c no passed in
        let b = front_due in
        let least = at_least_one root (condition_at c.asked t.selectors) (following d c.child) in
        let rest_due : visits_due root t.selectors (c.passed + 1) (nodes_between d c.visit c.end) ≡ charge_in root (behind (c.passed + 1) t.selectors) n + total_of (charge_in root t.selectors) ns = rw more refl in
        record {
          same = rw (v, e, p, more)
              (parts (single d found) (taken root (condition_at u.asked t.selectors) (following d u.child)) (strided u.stride (elements n)) others rest ∙ ap (λ xs. (xs ++ others) ++ rest) gives)
              ∙ sym (only_visits d t c no passed ∙ front);
          paid = rw (v, e, p) (omega (arith, costs, paid, a, b, rest_due));
          inside = f;
          stage = at;
          visit = λ h. omega (arith, v, visits, end);
          end = omega (arith, e, end);
          child = i;
          stride = fits;
          little = omega (arith, paid, least);
        }
      where
        parts : (xs ys ws zs us : List Node) → xs ++ (ys ++ (ws ++ (zs ++ us))) ≡ ((xs ++ (ys ++ ws)) ++ zs) ++ us
        parts xs ys ws zs us = sym (append_assoc (xs ++ (ys ++ ws)) zs us ∙ append_assoc xs (ys ++ ws) (zs ++ us) ∙ ap (λ vs. xs ++ vs) (append_assoc ys ws (zs ++ us)))

    pub refuses_selector : (left : ℕ) (e : SelectFault) → 1 ≤ charge_by (node_at d 0) (selection_view item).tree (node_at d c.visit) → Refuses 1 left e → Refuses (due d (stage_view s).tree c) left e
    refuses_selector left e least h =
        let a = only_visits_due d (stage_view s).tree c no passed in
        let b = front_due in
        refuses_from 1 left (due d (stage_view s).tree c) left e (λ l. omega (arith, least, l, a, b)) h

-- each selector costs a unit
pub a_unit : (root n : Node) (s : Selector) → 1 ≤ charge_by root s n
a_unit root n (name scalars) = omega arith
a_unit root n wild = omega arith
a_unit root n (index i) = omega arith
a_unit root n (filter e) = omega arith
a_unit root n (slice start stop step) = omega arith

-- ---- A selector begins

module _ (d : Doc) (s : Stage) (c : Cursor) (no : c.child ≡ None) (passed : c.stride.end ≤ c.stride.first) (visits : c.visit < c.end) (end : c.end ≤ count d) (fits : IsStride c.stride)
    (item : Selection) (lt : c.passed < length s.selections.items) (is : item ≡ get_or s.selections.items c.passed item) where
  -- a name or an index selects at once
  pub selects : (found : Option NodeId) (left rest_left : ℕ) → single d found ≡ selected_by (node_at d 0) (selection_view item).tree (node_at d c.visit) → charge_by (node_at d 0) (selection_view item).tree (node_at d c.visit) ≡ 1
      → rest_left + 1 ≡ left → IsIn d found
      → Draws d (stage_view s).tree found c (record { stage = c.stage; visit = c.visit; end = c.end; passed = c.passed + 1; asked = c.asked; child = c.child; stride = c.stride }) left rest_left
  selects found left rest_left gives one paid f =
      let root = node_at d 0 in
      let sel = (stage_view s).tree.selectors in
      let ns = elements (node_at d c.visit) in
      begins d s c no passed visits end item lt is _ found left rest_left refl refl refl refl
      (rw (no, taken_none root (condition_at c.asked sel), passed_stride c.stride ns passed) (append-nil (single d found) ∙ gives))
      (rw (no, taking_none root (condition_at c.asked sel), passed_stride c.stride ns passed) (omega (arith, one))) paid f (rw no tt) fits

  -- a slice has places before it
  pub begins_stride : (w : Stride) (left rest_left : ℕ) → strided w (elements (node_at d c.visit)) ≡ selected_by (node_at d 0) (selection_view item).tree (node_at d c.visit)
      → charge_by (node_at d 0) (selection_view item).tree (node_at d c.visit) ≡ 1 + length (strided w (elements (node_at d c.visit))) → rest_left + 1 ≡ left → IsStride w
      → Draws d (stage_view s).tree None c (record { stage = c.stage; visit = c.visit; end = c.end; passed = c.passed + 1; asked = c.asked; child = c.child; stride = w }) left rest_left
  begins_stride w left rest_left gives costs paid wfits =
      let root = node_at d 0 in
      let sel = (stage_view s).tree.selectors in
      begins d s c no passed visits end item lt is _ None left rest_left refl refl refl refl
      (rw (no, taken_none root (condition_at c.asked sel)) gives)
      (rw (no, taking_none root (condition_at c.asked sel)) (omega (arith, costs))) paid tt (rw no tt) wfits

  -- a wildcard or a filter has all children before it
  pub begins_children : (child : Option NodeId) (left rest_left : ℕ) → following d child ≡ children (node_at d c.visit)
      → taken (node_at d 0) (condition_in (selection_view item).tree) (children (node_at d c.visit)) ≡ selected_by (node_at d 0) (selection_view item).tree (node_at d c.visit)
      → charge_by (node_at d 0) (selection_view item).tree (node_at d c.visit) ≡ 1 + taking (node_at d 0) (condition_in (selection_view item).tree) (children (node_at d c.visit))
      → rest_left + 1 ≡ left → IsIn d child
      → Draws d (stage_view s).tree None c (record { stage = c.stage; visit = c.visit; end = c.end; passed = c.passed + 1; asked = c.passed; child = child; stride = c.stride }) left rest_left
  begins_children child left rest_left all gives costs paid i =
      let root = node_at d 0 in
      let ns = elements (node_at d c.visit) in
      let at : condition_at c.passed (stage_view s).tree.selectors ≡ condition_in (selection_view item).tree = ap first_condition (behind_more s c.passed item lt is) in
      begins d s c no passed visits end item lt is _ None left rest_left refl refl refl refl
      (rw (at, all, passed_stride c.stride ns passed) (append-nil (taken root (condition_in (selection_view item).tree) (children (node_at d c.visit))) ∙ gives))
      (rw (at, all, passed_stride c.stride ns passed) (omega (arith, costs))) paid tt i fits

pub ruleset ending = (nothing_ahead, nothing_due)
