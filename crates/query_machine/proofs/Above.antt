-- Queries above one another: what is put on top and taken off, and that what is spent on all of them is part of the whole charge.
use Rattle.std.proofs.Common.{◌≡◌, ℕ, zero, suc, ◌+◌, ◌-◌, ◌<◌, ◌≤◌, List, [], ◌∷◌, ◌++◌, map, length, take, drop, get_or, refl, sym, ap, subst, ◌∙◌, arith, Option, Some, None, Result, Ok, Err, Bor, false}
use Rattle.std.specs.Prelude.{IfOk, MatchResult}
use Rattle.json_tape.specs.Document.{Doc, count, node_at, IsIn}
use Rattle.json_tape.specs.Nodes.{Node}
use Rattle.json_text.specs.declared.tape.NodeId.{NodeId}
use Rattle.path_grammar.specs.Tree as tree
use Rattle.path_grammar.specs.Tree.{OneSegment, Segments, segments_of, Expr}
use Rattle.tape_values.specs.Functions.{only_value}
use Rattle.compared_sides.specs.Values.{value_found}
use Rattle.node_lists.specs.Charge.{charge_from, charge_nested, charge_expr}
use Rattle.node_lists.specs.Evaluation.{evaluated, start}
use Rattle.node_lists.specs.Extra.{nodes_from, charge_at}
use Rattle.node_lists.specs.Links.{link_view, links_view}
use Rattle.node_lists.specs.Nodelists.{nodes_of}
use Rattle.node_lists.specs.Paying.{Holds, Refuses}
use Rattle.node_lists.specs.declared.fault.SelectFault.{SelectFault}
use Rattle.node_lists.specs.declared.fault.SelectFault.TheVariants.{Memory}
use Rattle.query_plan.specs.Planned.{With, Claimed, a_query, a_condition, Claims, both, look, own_claim, is_rooted, query_of, claims_of, nested_view, stage_view, trees, condition_step, operand_step, selection_step, nested_step, stage_step}
use Rattle.query_plan.specs.Planned.{path_of as links_path}
use Rattle.query_plan.specs.Slots.{AreClaimed}
use Rattle.query_plan.specs.declared.plan.Condition.TheFolds.{fold_out-Nested}
use Rattle.query_plan.specs.declared.plan.Nested.{Nested, out-Nested}
use Rattle.query_plan.specs.declared.plan.Parts.{Parts}
use Rattle.query_plan.specs.declared.plan.Stage.{Stage}
use Rattle.tape_select.specs.Awaiting.{AwaitsSome}
use Rattle.tape_select.specs.Memo.{IsFound, IsFoundAt, Right, RightFrom}
use Rattle.tape_select.specs.declared.state.Found.{Found}
use Rattle.tape_select.specs.declared.state.Kept.{Kept}
use Rattle.query_machine.specs.Cursors.{ahead, condition_at, due, price, IsCursor}
use Rattle.query_machine.specs.Stacks.{owed, remaining, remaining_due, segment_at, segments_in, whole_ahead, whole_due, Goes, IsUnderWay}
use Rattle.query_machine.specs.Stacks.{IsOneStep as IsOneStepOf}
use Rattle.tape_select.specs.Memo.{Keeps}
use Rattle.query_machine.specs.Levels.{path_of, behind_of, left_in, lowest, rest_of, Leads, Begins, AwaitsStep, IsAbove, AreAbove, Stack, IsEnd, IsOneStep, IsOnWay, IsRun, Moved, Pauses, behind_at, path_at, top_segments}
use Rattle.query_machine.specs.declared.cursor.Cursor.{Cursor}
use Rattle.query_machine.specs.declared.stepping.Track.{Track}
use Rattle.query_machine.specs.declared.levels.Machine.{Machine}
use Rattle.query_machine.specs.declared.levels.Move.{Move}
use Rattle.query_machine.specs.declared.levels.Origin.{Origin}
use Rattle.query_machine.specs.declared.levels.Waiting.{Waiting}
use Rattle.std.proofs.lemmas.List.{append-nil}
use Rattle.std.proofs.lemmas.List.Elements.{All-nil, All-cons}
use Rattle.query_machine.specs.Cursors.{IsStride}
use Rattle.query_plan.specs.Laws.{FollowsLinks}
use Rattle.query_machine.proofs.Charges.{refuses_from, nothing_from_nothing, nothing_for_nothing}
use Rattle.query_machine.proofs.Stacks.{in_turn}

pub leads_on : (d : Doc) (all : List Node) (q : Segments) (ss : List OneSegment) (from : Node) (units left rest_left : ℕ) (t u : Track) → Leads d all q ss from units left t → Goes d ss t u left rest_left → Leads d all q ss from units rest_left u
leads_on d all q ss from units left rest_left t u l r = let a = l.due in let b = r.paid in record { under_way = r.under_way; ahead = r.same ∙ l.ahead; due = omega (arith, a, b) }

module _ (d : Doc) (plan : Parts) where
  -- ---- One more on top, and one less

  put_above : (l u : ℕ) (ws : List Waiting) (w : Waiting) (o : Origin) (t : Track) (left : ℕ) → AreAbove d plan l u ws w.origin w.track w.left
      → IsAbove d plan w.left (whole_due d (behind_at plan w.origin) w.track) o t left → AreAbove d plan l u (ws ++ (w ∷ [])) o t left
  put_above l u [] w o t left h a = (h, a)
  put_above l u (v ∷ vs) w o t left h a = (h.0, put_above v.left (whole_due d (behind_at plan v.origin) v.track) vs w o t left h.1 a)

  pub put_on : (units : ℕ) (all : List Node) (ws : List Waiting) (w : Waiting) (o : Origin) (t : Track) (left : ℕ) → Stack d plan units all ws w.origin w.track w.left
      → IsAbove d plan w.left (whole_due d (top_segments plan ws w.origin) w.track) o t left → Stack d plan units all (ws ++ (w ∷ [])) o t left
  put_on units all [] w o t left h a = (h, a)
  put_on units all (v ∷ vs) w o t left h a = (h.0, put_above v.left (whole_due d (segments_in plan.stages.items) v.track) vs w o t left h.1 a)

  take_above : (l u : ℕ) (ws : List Waiting) (w : Waiting) (o : Origin) (t : Track) (left : ℕ) → AreAbove d plan l u (ws ++ (w ∷ [])) o t left
      → AreAbove d plan l u ws w.origin w.track w.left × IsAbove d plan w.left (whole_due d (behind_at plan w.origin) w.track) o t left
  take_above l u [] w o t left h = h
  take_above l u (v ∷ vs) w o t left h = let k = take_above v.left (whole_due d (behind_at plan v.origin) v.track) vs w o t left h.1 in ((h.0, k.0), k.1)

  pub take_off : (units : ℕ) (all : List Node) (ws : List Waiting) (w : Waiting) (o : Origin) (t : Track) (left : ℕ) → Stack d plan units all (ws ++ (w ∷ [])) o t left
      → Stack d plan units all ws w.origin w.track w.left × IsAbove d plan w.left (whole_due d (top_segments plan ws w.origin) w.track) o t left
  take_off units all [] w o t left h = h
  take_off units all (v ∷ vs) w o t left h = let k = take_above v.left (whole_due d (segments_in plan.stages.items) v.track) vs w o t left h.1 in ((h.0, k.0), k.1)

  -- ---- The one on top goes on

  above_goes_on : (l u : ℕ) (ws : List Waiting) (o : Origin) (t v : Track) (left rest_left : ℕ) → AreAbove d plan l u ws o t left → Goes d (behind_at plan o) t v left rest_left → AreAbove d plan l u ws o v rest_left
  above_goes_on l u [] o t v left rest_left h r = record { inside = h.inside; leads = leads_on d _ _ _ _ o.units left rest_left t v h.leads r; part = h.part; lent = h.lent }
  above_goes_on l u (b ∷ bs) o t v left rest_left h r = (h.0, above_goes_on b.left (whole_due d (behind_at plan b.origin) b.track) bs o t v left rest_left h.1 r)

  pub top_goes_on : (units : ℕ) (all : List Node) (ws : List Waiting) (o : Origin) (t v : Track) (left rest_left : ℕ) → Stack d plan units all ws o t left → Goes d (top_segments plan ws o) t v left rest_left → Stack d plan units all ws o v rest_left
  top_goes_on units all [] o t v left rest_left h r = leads_on d _ _ _ _ units left rest_left t v h r
  top_goes_on units all (b ∷ bs) o t v left rest_left h r = (h.0, above_goes_on b.left (whole_due d (segments_in plan.stages.items) b.track) bs o t v left rest_left h.1 r)

  -- ---- What is spent is charged, and what is due is charged

  short_above : (l u : ℕ) (ws : List Waiting) (o : Origin) (t : Track) (left : ℕ) → AreAbove d plan l u ws o t left → left < whole_due d (behind_at plan o) t → l < u
  short_above l u [] o t left h lt = let e = h.leads.due in let p = h.part in omega (arith, e, p, lt)
  short_above l u (w ∷ ws) o t left h lt =
      let n = short_above w.left (whole_due d (behind_at plan w.origin) w.track) ws o t left h.1 lt in
      let e = h.0.leads.due in
      let p = h.0.part in
      omega (arith, e, p, n)

  -- where the units do not suffice on top, they do not for the whole
  pub falls_short : (units : ℕ) (all : List Node) (ws : List Waiting) (o : Origin) (t : Track) (left : ℕ) → Stack d plan units all ws o t left → left < whole_due d (top_segments plan ws o) t
      → units < charge_from (node_at d 0) (query_of plan.stages.items) (node_at d 0 ∷ [])
  falls_short units all [] o t left h lt = let e = h.due in omega (arith, e, lt)
  falls_short units all (w ∷ ws) o t left h lt =
      let n = short_above w.left (whole_due d (segments_in plan.stages.items) w.track) ws o t left h.1 lt in
      let e = h.0.due in
      omega (arith, e, n)

  spent_above : (l u : ℕ) (ws : List Waiting) (o : Origin) (t : Track) (left : ℕ) → AreAbove d plan l u ws o t left → l ≤ left + u
  spent_above l u [] o t left h = let e = h.leads.due in let p = h.part in omega (arith, e, p)
  spent_above l u (w ∷ ws) o t left h =
      let n = spent_above w.left (whole_due d (behind_at plan w.origin) w.track) ws o t left h.1 in
      let e = h.0.leads.due in
      let p = h.0.part in
      omega (arith, e, p, n)

  pub spent_is_charged : (units : ℕ) (all : List Node) (ws : List Waiting) (o : Origin) (t : Track) (left : ℕ) → Stack d plan units all ws o t left
      → units ≤ left + charge_from (node_at d 0) (query_of plan.stages.items) (node_at d 0 ∷ [])
  spent_is_charged units all [] o t left h = let e = h.due in omega (arith, e)
  spent_is_charged units all (w ∷ ws) o t left h =
      let n = spent_above w.left (whole_due d (segments_in plan.stages.items) w.track) ws o t left h.1 in
      let e = h.0.due in
      omega (arith, e, n)

  -- where the units do not suffice on top, the whole query is refused
  pub refuses_whole : (units : ℕ) (all : List Node) (ws : List Waiting) (o : Origin) (t : Track) (left : ℕ) (e : SelectFault) → Stack d plan units all ws o t left → Refuses (whole_due d (top_segments plan ws o) t) left e
      → Refuses (charge_from (node_at d 0) (query_of plan.stages.items) (node_at d 0 ∷ [])) units e
  refuses_whole units all ws o t left e h r =
      refuses_from (whole_due d (top_segments plan ws o) t) left (charge_from (node_at d 0) (query_of plan.stages.items) (node_at d 0 ∷ [])) units e (λ lt. falls_short units all ws o t left h lt) r

  above_under_way : (l u : ℕ) (ws : List Waiting) (o : Origin) (t : Track) (left : ℕ) → AreAbove d plan l u ws o t left → IsUnderWay d (behind_at plan o) t
  above_under_way l u [] o t left h = h.leads.under_way
  above_under_way l u (w ∷ ws) o t left h = above_under_way w.left (whole_due d (behind_at plan w.origin) w.track) ws o t left h.1

  pub top_under_way : (units : ℕ) (all : List Node) (ws : List Waiting) (o : Origin) (t : Track) (left : ℕ) → Stack d plan units all ws o t left → IsUnderWay d (top_segments plan ws o) t
  top_under_way units all [] o t left h = h.under_way
  top_under_way units all (w ∷ ws) o t left h = above_under_way w.left (whole_due d (segments_in plan.stages.items) w.track) ws o t left h.1

-- what is found of a query in a slot
pub found_at : (d : Doc) (c : Option Claimed) (n : Node) (f : Found) → IsFound d n (path_of c) f → IsFoundAt d c n f
found_at d None n f h = tt
found_at d (Some (a_query r before behind)) n f h = h
found_at d (Some (a_condition s e)) n f h = tt

-- ---- What is kept

right_part : (d : Doc) (table : Claims) (k n : ℕ) (ss : List (Option Kept)) → RightFrom d table k ss → RightFrom d table k (take n ss)
right_part d table k zero ss h = tt
right_part d table k (suc n) [] h = tt
right_part d table k (suc n) (s ∷ ss) h = (h.0, right_part d table (suc k) n ss h.1)

right_over : (d : Doc) (table : Claims) (k : ℕ) (xs ys : List (Option Kept)) → RightFrom d table k xs → RightFrom d table k ys → RightFrom d table k (xs ++ drop (length xs) ys)
right_over d table k [] ys h g = g
right_over d table k (x ∷ xs) [] h g = rw (append-nil xs) h
right_over d table k (x ∷ xs) (y ∷ ys) h g = (h.0, right_over d table (suc k) xs ys h.1 g.1)

-- slots that are written over others
pub right_again : (d : Doc) (table : Claims) (n : ℕ) (xs ys : List (Option Kept)) → Right d table xs → Right d table ys → Right d table (take n (xs ++ drop (length xs) ys))
right_again d table n xs ys h g = right_part d table 0 n (xs ++ drop (length xs) ys) (right_over d table 0 xs ys h g)

-- ---- A query in a filter

nested_is : (q : Nested) → nested_view q ≡ record {
  tree = tree.nested (is_rooted (out-Nested q).slot (out-Nested q).from_root) (segments_of (map link_view (out-Nested q).links.items ++ trees (map stage_view (out-Nested q).stages.items)));
  claims = both (own_claim (out-Nested q).slot (out-Nested q).from_root (map link_view (out-Nested q).links.items) (trees (map stage_view (out-Nested q).stages.items))) (claims_of (out-Nested q).stages.items);
}
nested_is q = fold_out-Nested (With tree.Expr) (With tree.Comparable) (With tree.Selector) (With tree.Nested) (With OneSegment) condition_step operand_step selection_step nested_step stage_step q

-- its slot tells its parts
pub record HasParts (table : Claims) (slot : ℕ) (q : Nested) : Type 0 where
  pub path : path_of (look table slot) ≡ links_path (out-Nested q).links.items (out-Nested q).stages.items
  pub behind : behind_of (look table slot) ≡ segments_in (out-Nested q).stages.items
  pub claimed : AreClaimed table (claims_of (out-Nested q).stages.items)

pub has_parts : (table : Claims) (slot : ℕ) (q : Nested) → (out-Nested q).slot ≡ Some slot → AreClaimed table (nested_view q).claims → HasParts table slot q
has_parts table slot q e h =
    let c = rw (nested_is q, e) at h in
    record { path = ap path_of c.0; behind = ap behind_of c.0; claimed = c.1 }

-- what it is charged, from where it begins
nested_charge : (root n from : Node) (slot : ℕ) (q : Nested) → (out-Nested q).slot ≡ Some slot → from ≡ start root (out-Nested q).from_root n
    → charge_nested root (nested_view q).tree n ≡ charge_from root (links_path (out-Nested q).links.items (out-Nested q).stages.items) (from ∷ [])
nested_charge root n from slot q e f = rw (nested_is q, e, f) refl

-- ---- It begins

-- a query of no segments selects the node itself
pub begins_none : (d : Doc) (ss : List Stage) (n : NodeId) (t : Track) → length ss ≤ 0 → t.cursors.items ≡ [] → Holds d t.out.items (node_at d n.0 ∷ []) → Begins d (segments_in ss) (node_at d n.0) t
begins_none d [] n t z c h = record {
  under_way = record { cursors = rw c (All-nil (IsCursor d 0)); sound = h.inside };
  ahead = rw (c, h.same) refl;
  due = rw c refl;
}
begins_none d (s ∷ ss) n t z c h = absurd (omega (arith, z))

-- the first segment selects from it
pub begins_some : (d : Doc) (ss : List Stage) (item : Stage) (c : Cursor) (n : Node) (t : Track) → 0 < length ss → item ≡ get_or ss 0 item → c.stage ≡ 0 → c.visit < count d → c.end ≤ count d → c.child ≡ None → IsStride c.stride
    → ahead d (stage_view item).tree c ≡ nodes_from (node_at d 0) (stage_view item).tree n → due d (stage_view item).tree c ≡ charge_at (node_at d 0) (stage_view item).tree n
    → t.cursors.items ≡ c ∷ [] → t.out.items ≡ [] → Begins d (segments_in ss) n t
begins_some d [] item c n t lt e z v w k i nodes charged cs o = absurd (omega (arith, lt))
begins_some d (s ∷ ss) item c n t lt e z v w k i nodes charged cs o =
    let root = node_at d 0 in
    let x = (stage_view s).tree in
    let os = segments_in ss in
    let a : ahead d x c ≡ nodes_from root x n = rw e at nodes in
    let u : due d x c ≡ charge_at root x n = rw e at charged in
    let m = ap (λ ns. charge_from root (segments_of os) ns) (append-nil (nodes_from root x n)) in
    record {
      under_way = record {
        cursors = rw cs (All-cons (IsCursor d (length (segments_in (s ∷ ss)))) c [] (record { stage = rw z (omega arith); visit = λ lt. v; end = w; child = rw k tt; stride = i }) (All-nil (IsCursor d (length (segments_in (s ∷ ss))))));
        sound = rw o (All-nil (λ id. id.0 < count d));
      };
      ahead = rw (cs, o, z, a) (ap (λ ns. evaluated root (segments_of os) ns) (sym (append-nil (nodes_from root x n))));
      due = rw (cs, z, a, u) (omega (arith, m));
    }

-- the whole query begins at the root
pub begins_lowest : (d : Doc) (plan : Parts) (units : ℕ) (n : NodeId) (t : Track) → node_at d n.0 ≡ node_at d 0 → Begins d (segments_in plan.stages.items) (node_at d n.0) t
    → Leads d (evaluated (node_at d 0) (query_of plan.stages.items) (node_at d 0 ∷ [])) (query_of plan.stages.items) (segments_in plan.stages.items) (node_at d 0) units units t
begins_lowest d plan units n t e b =
    let a = rw e at b.ahead in
    let y = rw e at b.due in
    record { under_way = b.under_way; ahead = a; due = omega (arith, y) }

module _ (law : FollowsLinks) (d : Doc) (plan : Parts) (q : Nested) (slot : ℕ) (is : (out-Nested q).slot ≡ Some slot) (claimed : AreClaimed (claims_of plan.stages.items) (nested_view q).claims) where
  -- Its names and indexes lead to one node: it is above. So many units were left, some were paid for those before it, and some for these names and indexes.
  pub begins_above : (child from first : NodeId) (left paid own now lower_due : ℕ) → from.0 < count d → node_at d from.0 ≡ start (node_at d 0) (out-Nested q).from_root (node_at d child.0)
      → paid + charge_nested (node_at d 0) (nested_view q).tree (node_at d child.0) ≤ lower_due → own + paid ≡ left
      → node_at d first.0 ∷ [] ≡ evaluated (node_at d 0) (links_view (out-Nested q).links.items) (node_at d from.0 ∷ []) → now + charge_from (node_at d 0) (links_view (out-Nested q).links.items) (node_at d from.0 ∷ []) ≡ own
      → (t : Track) → Begins d (segments_in (out-Nested q).stages.items) (node_at d first.0) t → IsAbove d plan left lower_due (record { slot = slot; from = from; units = own }) t now
  begins_above child from first left paid own now lower_due inside e within spent f m t b =
      let r = node_at d 0 in
      let n = node_at d from.0 in
      let p = has_parts (claims_of plan.stages.items) slot q is claimed in
      let ls = (out-Nested q).links.items in
      let ss = (out-Nested q).stages.items in
      let y = b.due in
      let all = law.paid r ss ls n (node_at d first.0 ∷ []) f in
      let whole = nested_charge r (node_at d child.0) n slot q is e in
      record {
        inside = inside;
        leads = rw (p.path, p.behind) (record {
          under_way = b.under_way;
          ahead = b.ahead ∙ ap (λ ns. evaluated r (query_of ss) ns) f ∙ sym (law.found r ss ls (n ∷ []));
          due = omega (arith, y, all, m);
        });
        part = rw p.path (omega (arith, whole, within, spent));
        lent = omega (arith, spent);
      }

  -- they lead nowhere
  pub finds_nothing : (from : NodeId) (own now : ℕ) (f : Found) → [] ≡ evaluated (node_at d 0) (links_view (out-Nested q).links.items) (node_at d from.0 ∷ []) → now + charge_from (node_at d 0) (links_view (out-Nested q).links.items) (node_at d from.0 ∷ []) ≡ own
      → only_value [] ≡ value_found d f.only → IsIn d f.only → f.total ≡ 0 → f.charge ≡ own - now → IsFoundAt d (look (claims_of plan.stages.items) slot) (node_at d from.0) f
  finds_nothing from own now f e m value inside total charge =
      let r = node_at d 0 in
      let n = node_at d from.0 in
      let p = has_parts (claims_of plan.stages.items) slot q is claimed in
      let ls = (out-Nested q).links.items in
      let ss = (out-Nested q).stages.items in
      let all = law.paid r ss ls n [] e in
      let free = nothing_for_nothing r (query_of ss) in
      let none : [] ≡ evaluated r (links_path ls ss) (n ∷ []) = sym (nothing_from_nothing r (query_of ss)) ∙ ap (λ ns. evaluated r (query_of ss) ns) e ∙ sym (law.found r ss ls (n ∷ [])) in
      found_at d (look (claims_of plan.stages.items) slot) n f (rw p.path (record { value = rw (← none) value; inside = inside; total = rw (← none) total; charge = omega (arith, all, free, m, charge) }))

  -- the units do not suffice for its names and indexes
  pub refuses_links : (child from : NodeId) (left paid own lower_due : ℕ) (e : SelectFault) → node_at d from.0 ≡ start (node_at d 0) (out-Nested q).from_root (node_at d child.0)
      → paid + charge_nested (node_at d 0) (nested_view q).tree (node_at d child.0) ≤ lower_due → own + paid ≡ left
      → Refuses (charge_from (node_at d 0) (links_view (out-Nested q).links.items) (node_at d from.0 ∷ [])) own e → Refuses lower_due left e
  refuses_links child from left paid own lower_due e b within spent h =
      let r = node_at d 0 in
      let n = node_at d from.0 in
      let ls = (out-Nested q).links.items in
      let ss = (out-Nested q).stages.items in
      let all = law.paid r ss ls n (evaluated r (links_view ls) (n ∷ [])) refl in
      let whole = nested_charge r (node_at d child.0) n slot q is b in
      refuses_from (charge_from r (links_view ls) (n ∷ [])) own lower_due left e (λ lt. omega (arith, all, whole, within, spent, lt)) h

  -- paying for those before it and for its names and indexes is a part of a step's price
  pub links_within : (child from : NodeId) (left paid own now price : ℕ) → node_at d from.0 ≡ start (node_at d 0) (out-Nested q).from_root (node_at d child.0)
      → paid + charge_nested (node_at d 0) (nested_view q).tree (node_at d child.0) ≤ price → own + paid ≡ left → now + charge_from (node_at d 0) (links_view (out-Nested q).links.items) (node_at d from.0 ∷ []) ≡ own
      → left ≤ now + price
  links_within child from left paid own now price b within spent m =
      let r = node_at d 0 in
      let n = node_at d from.0 in
      let ls = (out-Nested q).links.items in
      let ss = (out-Nested q).stages.items in
      let all = law.paid r ss ls n (evaluated r (links_view ls) (n ∷ [])) refl in
      let whole = nested_charge r (node_at d child.0) n slot q is b in
      omega (arith, all, whole, within, spent, m)

-- ---- The end of one

-- the query on top came to its end: what is kept for it is right, and the one below goes on
pub record EndsAbove (d : Doc) (plan : Parts) (units : ℕ) (all : List Node) (ws : List Waiting) (w : Waiting) (o : Origin) (ids : List NodeId) (left : ℕ) : Type 0 where
  pub below : Stack d plan units all ws w.origin w.track w.left
  pub inside : o.from.0 < count d
  pub held : Holds d ids (evaluated (node_at d 0) (path_at plan o) (node_at d o.from.0 ∷ []))
  pub paid : left + charge_from (node_at d 0) (path_at plan o) (node_at d o.from.0 ∷ []) ≡ o.units
  pub lent : left ≤ w.left

module _ (d : Doc) (plan : Parts) where
  -- the whole query came to its end
  pub ends_lowest : (units : ℕ) (all : List Node) (l : Machine) → l.below.items ≡ [] → l.track.cursors.items ≡ [] → IsOnWay d plan units all l → IsEnd d plan units all l
  ends_lowest units all l none c h =
      let b : Leads d all (query_of plan.stages.items) (segments_in plan.stages.items) (node_at d 0) units (left_in l) l.track = subst (λ ws. Stack d plan units all ws l.origin l.track (left_in l)) none h.stack in
      let e = b.due in
      let z = ap (λ (cs : List Cursor). remaining_due d (segments_in plan.stages.items) cs) c in
      record {
        nodes = sym (append-nil (nodes_of d l.track.out.items)) ∙ ap (λ (cs : List Cursor). nodes_of d l.track.out.items ++ remaining d (segments_in plan.stages.items) cs) (sym c) ∙ b.ahead;
        inside = b.under_way.sound;
        paid = omega (arith, e, z);
      }

  ends_top : (units : ℕ) (all : List Node) (ws : List Waiting) (w : Waiting) (o : Origin) (t : Track) (left : ℕ) → t.cursors.items ≡ [] → Stack d plan units all (ws ++ (w ∷ [])) o t left → EndsAbove d plan units all ws w o t.out.items left
  ends_top units all ws w o t left c h =
      let k = take_off d plan units all ws w o t left h in
      let l = k.1.leads in
      let e = l.due in
      let lent = k.1.lent in
      let z = ap (λ (cs : List Cursor). remaining_due d (behind_at plan o) cs) c in
      record {
        below = k.0;
        inside = k.1.inside;
        held = record {
          same = sym (append-nil (nodes_of d t.out.items)) ∙ ap (λ (cs : List Cursor). nodes_of d t.out.items ++ remaining d (behind_at plan o) cs) (sym c) ∙ l.ahead;
          inside = l.under_way.sound;
        };
        paid = omega (arith, e, z);
        lent = omega (arith, e, z, lent);
      }

  pub ends_above : (units : ℕ) (all : List Node) (l : Machine) (ws : List Waiting) (w : Waiting) → l.below.items ≡ ws ++ (w ∷ []) → l.track.cursors.items ≡ [] → IsOnWay d plan units all l
      → EndsAbove d plan units all ws w l.origin l.track.out.items (left_in l)
  ends_above units all l ws w e c h = ends_top units all ws w l.origin l.track (left_in l) c (subst (λ vs. Stack d plan units all vs l.origin l.track (left_in l)) e h.stack)

  pub found_above : (o : Origin) (ids : List NodeId) (left : ℕ) (f : Found) → Holds d ids (evaluated (node_at d 0) (path_at plan o) (node_at d o.from.0 ∷ [])) → left + charge_from (node_at d 0) (path_at plan o) (node_at d o.from.0 ∷ []) ≡ o.units
      → only_value (nodes_of d ids) ≡ value_found d f.only → IsIn d f.only → f.total ≡ length (nodes_of d ids) → f.charge ≡ o.units - left → IsFoundAt d (look (claims_of plan.stages.items) o.slot) (node_at d o.from.0) f
  found_above o ids left f h paid value inside total charge =
      let same = h.same in
      found_at d (look (claims_of plan.stages.items) o.slot) (node_at d o.from.0) f (record { value = rw same at value; inside = inside; total = rw same at total; charge = omega (arith, paid, charge) })

-- ---- What is awaited

-- asking the child is a part of what is due
asking_due : (d : Doc) (ss : List OneSegment) (cs : List Cursor) (c : Cursor) (e : Expr) (child : NodeId) → condition_at c.asked (segment_at ss c.stage).selectors ≡ Some e → c.child ≡ Some child
    → charge_expr (node_at d 0) e (node_at d child.0) ≤ owed d ss c
asking_due d ss cs c e child f is = rw (f, is) (omega arith)

-- behind what is paid already
awaits_behind : (d : Doc) (table : Claims) (n : Node) (y : Option (Bor Nested)) (p q r a c : ℕ) → p + a ≤ c → r ≤ p + q → AwaitsSome d table n y q a → AwaitsSome d table n y r c
awaits_behind d table n None p q r a c h s w = omega (arith, h, s, w)
awaits_behind d table n (Some x) p q r a c h s w = let k = w.within in record { within = omega (arith, h, s, k); slot = w.slot; claimed = w.claimed }

price_is : (d : Doc) (s : OneSegment) (c : Cursor) (e : Expr) (child : NodeId) → condition_at c.asked s.selectors ≡ Some e → c.child ≡ Some child → price d s c ≡ 2 + charge_expr (node_at d 0) e (node_at d child.0)
price_is d s c e child f is = rw (f, is) refl

item_owed : (d : Doc) (ss : List OneSegment) (cs : List Cursor) (k : ℕ) (c : Cursor) → k < length cs → c ≡ get_or cs k c → owed d ss c ≤ remaining_due d ss cs
item_owed d ss [] k c lt e = absurd (omega (arith, lt))
item_owed d ss (x ∷ cs) zero c lt e = rw e (omega arith)
item_owed d ss (x ∷ cs) (suc k) c lt e = let h = item_owed d ss cs k c (omega (arith, lt)) e in omega (arith, h)

pub next_awaits : (d : Doc) (table : Claims) (ss : List Stage) (t : Track) (k : ℕ) (c : Cursor) (stage : Stage) (e : Expr) (child : NodeId) (q : Option (Bor Nested)) (paid : ℕ) → k < length t.cursors.items → c ≡ get_or t.cursors.items k c
    → c.stage < length ss → stage ≡ get_or ss c.stage stage → condition_at c.asked (stage_view stage).tree.selectors ≡ Some e → c.child ≡ Some child
    → AwaitsSome d table (node_at d child.0) q paid (charge_expr (node_at d 0) e (node_at d child.0))
    → AwaitsSome d table (node_at d child.0) q paid (whole_due d (segments_in ss) t) × AwaitsStep d table (segments_in ss) (node_at d child.0) q paid
next_awaits d table ss t k c stage e child q paid some is_it lt is f own h =
    let os = segments_in ss in
    let turn = in_turn ss c.stage stage lt is in
    let g : condition_at c.asked (segment_at os c.stage).selectors ≡ Some e = rw turn f in
    let a = asking_due d os t.cursors.items c e child g own in
    let b = item_owed d os t.cursors.items k c some is_it in
    let p = price_is d (segment_at os c.stage) c e child g own in (
      awaits_behind d table (node_at d child.0) q 0 paid paid (charge_expr (node_at d 0) e (node_at d child.0)) (whole_due d os t) (omega (arith, a, b)) (omega arith) h,
      (c, awaits_behind d table (node_at d child.0) q 0 paid paid (charge_expr (node_at d 0) e (node_at d child.0)) (price d (segment_at os c.stage) c) (omega (arith, p)) (omega arith) h),
    )

-- ---- Steps

no_cursor : Cursor
no_cursor = record { stage = 0; visit = 0; end = 0; passed = 0; asked = 0; child = None; stride = record { first = 0; end = 0; step = 1; is_back = false } }

no_origin : Origin
no_origin = record { slot = 0; from = record { 0 = 0 }; units = 0 }

module _ (d : Doc) (plan : Parts) where
  -- nothing is spent
  pub spends_none : (old new : ℕ) → old ≤ new → IsOneStep d plan old new
  spends_none old new h = ([], no_origin, no_cursor, omega (arith, h))

  module _ (units : ℕ) (all : List Node) (ws : List Waiting) (o : Origin) (ss : List OneSegment) (same : ss ≡ top_segments plan ws o) where
    pub way_of : (t : Track) (left : ℕ) → Stack d plan units all ws o t left → IsUnderWay d ss t
    way_of t left h = subst (λ xs. IsUnderWay d xs t) (sym same) (top_under_way d plan units all ws o t left h)

    -- the query on top goes on
    pub steps_on : (t u : Track) (left rest_left : ℕ) → Stack d plan units all ws o t left → Goes d ss t u left rest_left → Stack d plan units all ws o u rest_left
    steps_on t u left rest_left h r = top_goes_on d plan units all ws o t u left rest_left h (subst (λ xs. Goes d xs t u left rest_left) same r)

    -- it is refused
    pub steps_refused : (t : Track) (left : ℕ) (e : SelectFault) → Stack d plan units all ws o t left → Refuses (whole_due d ss t) left e → Refuses (charge_from (node_at d 0) (query_of plan.stages.items) (node_at d 0 ∷ [])) units e
    steps_refused t left e h r = refuses_whole d plan units all ws o t left e h (subst (λ xs. Refuses (whole_due d xs t) left e) same r)

    -- what the whole query has out and still to give is as it was
    pub same_rest : (t u : Track) (left rest_left : ℕ) → Goes d ss t u left rest_left → whole_ahead d (segments_in plan.stages.items) (lowest d plan ws u) ≡ whole_ahead d (segments_in plan.stages.items) (lowest d plan ws t)
    same_rest t u left rest_left r = by ws same
      where
        by : (vs : List Waiting) → ss ≡ top_segments plan vs o → whole_ahead d (segments_in plan.stages.items) (lowest d plan vs u) ≡ whole_ahead d (segments_in plan.stages.items) (lowest d plan vs t)
        by [] e = (subst (λ xs. Goes d xs t u left rest_left) e r).same
        by (v ∷ vs) e = refl

    -- the step is one of the query's
    pub little_step : (old new : ℕ) → (c : Cursor) × (old ≤ new + price d (segment_at ss c.stage) c) → IsOneStep d plan old new
    little_step old new h = (ws, o, h.0, subst (λ xs. old ≤ new + price d (segment_at xs h.0.stage) h.0) same h.1)

  pub opens_or : (units : ℕ) (all : List Node) (r : Result Move SelectFault) (m : Machine) → MatchResult r (λ move. Moved d plan move units all m) (λ e. e ≡ Memory)
      → MatchResult r (λ move. Moved d plan move units all m) (λ e. Refuses (charge_from (node_at d 0) (query_of plan.stages.items) (node_at d 0 ∷ [])) units e)
  opens_or units all (Ok move) m h = h
  opens_or units all (Err e) m h = rw h tt

  pub little_or : (old new mid : ℕ) (r : Result Move SelectFault) → IfOk r (λ move. new ≡ mid) → IsOneStep d plan old mid → IfOk r (λ move. IsOneStep d plan old new)
  little_or old new mid (Ok move) e h = subst (λ k. IsOneStep d plan old k) (sym e) h
  little_or old new mid (Err f) e h = tt

  pub little_if : (old new : ℕ) (r : Result Move SelectFault) → IsOneStep d plan old new → IfOk r (λ move. IsOneStep d plan old new)
  little_if old new (Ok move) h = h
  little_if old new (Err f) h = tt

-- ---- A share

module _ (d : Doc) (plan : Parts) where
  pub further : (least old new : ℕ) → least ≤ old → IsOneStep d plan old new → IsOneStep d plan least new
  further least old new h s = let k = s.3 in (s.0, s.1, s.2, omega (arith, h, k))

  pub further_if : (least old new : ℕ) (r : Result Move SelectFault) → least ≤ old → IfOk r (λ move. IsOneStep d plan old new) → IfOk r (λ move. IsOneStep d plan least new)
  further_if least old new (Ok move) h s = further least old new h s
  further_if least old new (Err f) h s = tt

  pub within_share : (least old new share : ℕ) → old ≤ least + share → IsOneStep d plan least new → IsOneStep d plan old (new + share)
  within_share least old new share h s = let k = s.3 in (s.0, s.1, s.2, omega (arith, h, k))

  -- what remains, as a stack has it
  pub rest_is : (units : ℕ) (all : List Node) (m : Machine) → IsOnWay d plan units all m → rest_of d plan m ≡ all
  rest_is units all m h = by m.below.items h.stack
    where
      by : (ws : List Waiting) → Stack d plan units all ws m.origin m.track m.state.meter.left → whole_ahead d (segments_in plan.stages.items) (lowest d plan ws m.track) ≡ all
      by [] k = k.ahead
      by (w ∷ ws) k = k.0.ahead

  pub pauses : (units share : ℕ) (before next : Machine) → IsOnWay d plan units (rest_of d plan before) next → left_in next + share < left_in before → Pauses d plan units share before next
  pauses units share before next h lt =
      let e = rest_is units (rest_of d plan before) next h in
      record { on_way = subst (λ all. IsOnWay d plan units all next) (sym e) h; rest = e; spent = lt }

-- ---- Steps of the query on top

module _ (d : Doc) (plan : Parts) (units : ℕ) (ss : List OneSegment) (before next : Machine) (same : ss ≡ top_segments plan before.below.items before.origin) where
  pub ran_on : (least : ℕ) → IsOnWay d plan units (rest_of d plan before) before → Keeps d (claims_of plan.stages.items) next.state → next.origin ≡ before.origin → next.below.items ≡ before.below.items
      → Goes d ss before.track next.track (left_in before) (left_in next) → IsOneStepOf d ss least (left_in next) → IsRun d plan units least before next
  ran_on least h kept o b g little =
      let all = rest_of d plan before in
      let e : rest_of d plan next ≡ all = ap (λ (ws : List Waiting). whole_ahead d (segments_in plan.stages.items) (lowest d plan ws next.track)) b ∙ same_rest d plan units all before.below.items before.origin ss same before.track next.track (left_in before) (left_in next) g in
      let s = steps_on d plan units all before.below.items before.origin ss same before.track next.track (left_in before) (left_in next) h.stack g in
      record {
        on_way = record {
          stack = subst (λ ns. Stack d plan units ns next.below.items next.origin next.track (left_in next)) (sym e)
              (subst (λ ws. Stack d plan units all ws next.origin next.track (left_in next)) (sym b) (subst (λ x. Stack d plan units all before.below.items x next.track (left_in next)) (sym o) s));
          kept = kept;
        };
        rest = e;
        origin = o;
        below = b;
        little = little_step d plan units all before.below.items before.origin ss same least (left_in next) little;
      }

  pub ran_if : (least : ℕ) (r : Result (Unit {0}) SelectFault) → IsOnWay d plan units (rest_of d plan before) before → IfOk r (λ x. Keeps d (claims_of plan.stages.items) next.state) → next.origin ≡ before.origin → next.below.items ≡ before.below.items
      → MatchResult r (λ x. Goes d ss before.track next.track (left_in before) (left_in next)) (λ e. Refuses (whole_due d ss before.track) (left_in before) e) → IfOk r (λ x. least ≤ left_in before → IsOneStepOf d ss least (left_in next)) → least ≤ left_in before
      → MatchResult r (λ x. IsRun d plan units least before next) (λ e. Refuses (charge_from (node_at d 0) (query_of plan.stages.items) (node_at d 0 ∷ [])) units e)
  ran_if least (Ok x) h kept o b g little lt = ran_on least h kept o b g (little lt)
  ran_if least (Err e) h kept o b g little lt = steps_refused d plan units (rest_of d plan before) before.below.items before.origin ss same before.track (left_in before) e h.stack g
