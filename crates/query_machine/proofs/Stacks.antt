-- Cursors above one another.
use Rattle.std.proofs.Common.{◌≡◌, ℕ, zero, suc, ◌+◌, ◌<◌, ◌≤◌, Bool, false, Option, None, Some, Result, Ok, Err, List, [], ◌∷◌, ◌++◌, length, drop, get_or, refl, sym, ap, ◌∙◌, arith, append_assoc, subst, inl, inr}
use Rattle.std.specs.Prelude.{flat_map, true, IfOk, MatchOption, MatchResult}
use Rattle.std.specs.List.{All}
use Rattle.std.proofs.lemmas.List.Elements.{All-pop}
use Rattle.std.proofs.lemmas.Grind.{common_steps}
use Rattle.std.proofs.lemmas.List.{append-nil, drop_all}
use Rattle.path_grammar.specs.Tree.{OneSegment, Segments, no_segments, segment, segments_of, Selectors, selector, no_selectors}
use Rattle.json_tape.specs.Nodes.{Node}
use Rattle.json_tape.specs.Document.{Doc, node_at}
use Rattle.json_text.specs.declared.tape.NodeId.{NodeId}
use Rattle.node_lists.specs.Evaluation.{evaluated, selected, selected_by, starts, from_starts}
use Rattle.node_lists.specs.Charge.{total_of, charge_from, charge_in}
use Rattle.node_lists.specs.Extra.{nodes_from, charge_at}
use Rattle.node_lists.specs.Nodelists.{nodes_of}
use Rattle.node_lists.specs.Paying.{Holds, Inside, Refuses}
use Rattle.node_lists.specs.declared.fault.SelectFault.{SelectFault}
use Rattle.node_lists.specs.declared.fault.SelectFault.TheVariants.{Memory}
use Rattle.query_machine.proofs.Charges.{nothing_from_nothing, nothing_for_nothing, one_unit, refuses_from}
use Rattle.node_lists.specs.Links.{link_selector, link_view}
use Rattle.path_meaning.specs.declared.links.Link.{Link}
use Rattle.query_plan.specs.Slots.{AreClaimed}
use Rattle.query_plan.specs.Planned.{Claims, claims_of, stage_view}
use Rattle.query_plan.specs.declared.plan.Stage.{Stage}
use Rattle.query_machine.specs.Cursors.{ahead, due, Draws, Drains, IsCursor, IsStepOf, Runs, Takes}
use Rattle.std.proofs.lemmas.Bool.{cases_lt}
use Rattle.query_machine.specs.Stacks.{after, given, owed, remaining, remaining_due, rest_due, rest_given, segment_at, segments_in, whole_ahead, whole_due, Follows, Gives, Goes, IsOneStep, IsUnderWay, Places, PutBack, PutOn, Puts}
use Rattle.query_machine.specs.declared.cursor.Cursor.{Cursor}
use Rattle.query_machine.specs.declared.stepping.Track.{Track}

-- ---- What segments give from nodes, they give from each in turn

module _ (root : Node) where
  from_append : (b : Bool) (ss : Selectors) (xs ys : List Node) → from_starts b (λ m. selected root ss m) (xs ++ ys) ≡ from_starts b (λ m. selected root ss m) xs ++ from_starts b (λ m. selected root ss m) ys
  from_append b ss [] ys = refl
  from_append b ss (x ∷ xs) ys =
      let f = flat_map (selected root ss) (starts b x) in
      ap (λ zs. f ++ zs) (from_append b ss xs ys) ∙ sym (append_assoc f (from_starts b (λ m. selected root ss m) xs) (from_starts b (λ m. selected root ss m) ys))

  pub gives_append : (q : Segments) (xs ys : List Node) → evaluated root q (xs ++ ys) ≡ evaluated root q xs ++ evaluated root q ys
  gives_append no_segments xs ys = refl
  gives_append (segment b ss others) xs ys =
      rw (from_append b ss xs ys) (gives_append others (from_starts b (λ m. selected root ss m) xs) (from_starts b (λ m. selected root ss m) ys))

  total_append : (f : Node → ℕ) (xs ys : List Node) → total_of f (xs ++ ys) ≡ total_of f xs + total_of f ys
  total_append f [] ys = omega arith
  total_append f (x ∷ xs) ys = let h = total_append f xs ys in omega (arith, h)

  pub costs_append : (q : Segments) (xs ys : List Node) → charge_from root q (xs ++ ys) ≡ charge_from root q xs + charge_from root q ys
  costs_append no_segments xs ys = omega arith
  costs_append (segment b ss others) xs ys =
      let f = from_append b ss xs ys in
      let h = costs_append others (from_starts b (λ m. selected root ss m) xs) (from_starts b (λ m. selected root ss m) ys) in
      let t = total_append (λ n. total_of (λ m. charge_in root ss m) (starts b n)) xs ys in
      let e = ap (λ zs. charge_from root others zs) f in
      omega (arith, h, t, e)

-- ---- The segment in turn

pub segment_total : (ss : List Stage) → length (segments_in ss) ≡ length ss
segment_total [] = refl
segment_total (s ∷ ss) = ap suc (segment_total ss)

pub in_turn : (ss : List Stage) (k : ℕ) (item : Stage) → k < length ss → item ≡ get_or ss k item → segment_at (segments_in ss) k ≡ (stage_view item).tree
in_turn [] k item lt e = absurd (omega arith)
in_turn (s ∷ ss) zero item lt e = ap (λ (x : Stage). (stage_view x).tree) (sym e)
in_turn (s ∷ ss) (suc k) item lt e = in_turn ss k item (omega arith) e

pub claimed_stage : (t : Claims) (ss : List Stage) (k : ℕ) (item : Stage) → k < length ss → item ≡ get_or ss k item → AreClaimed t (claims_of ss) → AreClaimed t (stage_view item).claims
claimed_stage t [] k item lt e h = absurd (omega arith)
claimed_stage t (s ∷ ss) zero item lt e h = subst (λ x. AreClaimed t (stage_view x).claims) (sym e) h.0
claimed_stage t (s ∷ ss) (suc k) item lt e h = claimed_stage t ss k item (omega arith) e h.1

behind_is : (ss : List OneSegment) (k : ℕ) → k < length ss → drop k ss ≡ segment_at ss k ∷ drop (k + 1) ss
behind_is [] k lt = absurd (omega arith)
behind_is (s ∷ ss) zero lt = refl
behind_is (s ∷ ss) (suc k) lt = let n : suc k + 1 ≡ suc (k + 1) = omega arith in rw n (behind_is ss k (omega arith))

module _ (d : Doc) (ss : List OneSegment) where
  -- ---- The last cursor gives first

  last_first : (cs : List Cursor) (c : Cursor) → remaining d ss (cs ++ c ∷ []) ≡ given d ss c ++ remaining d ss cs
  last_first [] c = sym (append-nil (given d ss c))
  last_first (x ∷ cs) c = ap (λ ns. ns ++ given d ss x) (last_first cs c) ∙ append_assoc (given d ss c) (remaining d ss cs) (given d ss x)

  last_due : (cs : List Cursor) (c : Cursor) → remaining_due d ss (cs ++ c ∷ []) ≡ owed d ss c + remaining_due d ss cs
  last_due [] c = omega arith
  last_due (x ∷ cs) c = let h = last_due cs c in omega (arith, h)

  all_push : (cs : List Cursor) (c : Cursor) → All (IsCursor d (length ss)) cs → IsCursor d (length ss) c → All (IsCursor d (length ss)) (cs ++ c ∷ [])
  all_push cs c a i = grind (arith, common_steps, a, i)

  pub puts_on : (c : Cursor) (t u : Track) → IsCursor d (length ss) c → IsUnderWay d ss t → u.cursors.items ≡ t.cursors.items ++ c ∷ [] → u.out.items ≡ t.out.items → PutOn d ss c t u
  puts_on c t u i w e o = record { pushed = e; out = o; under_way = record { cursors = rw e (all_push t.cursors.items c w.cursors i); sound = rw o w.sound } }

  -- ---- Nodes are placed

  -- a cursor goes on from the node
  pub opened : (k : ℕ) (n : Node) (c : Cursor) (t u : Track) → k + 1 < length ss → c.stage ≡ k + 1
      → ahead d (segment_at ss (k + 1)) c ≡ nodes_from (node_at d 0) (segment_at ss (k + 1)) n
      → due d (segment_at ss (k + 1)) c ≡ charge_at (node_at d 0) (segment_at ss (k + 1)) n
      → PutOn d ss c t u → Places d ss k (n ∷ []) t u
  opened k n c t u lt e nodes charged p =
      let root = node_at d 0 in
      let s = segment_at ss (k + 1) in
      let more = ap segments_of (behind_is ss (k + 1) lt) in
      let gives : evaluated root (after d ss k) (n ∷ []) ≡ given d ss c = rw (e, nodes, more) (ap (λ xs. evaluated root (after d ss (k + 1)) xs) (append-nil (nodes_from root s n))) in
      let costs : charge_from root (after d ss k) (n ∷ []) ≡ owed d ss c = (let x = ap (λ xs. charge_from root (after d ss (k + 1)) xs) (append-nil (nodes_from root s n)) in rw (e, nodes, more) (omega (arith, x, charged))) in
      let l = last_due t.cursors.items c in
      record {
        same = rw (p.pushed, p.out) (ap (λ xs. nodes_of d t.out.items ++ xs) (last_first t.cursors.items c ∙ ap (λ xs. xs ++ remaining d ss t.cursors.items) (sym gives)));
        paid = rw p.pushed (omega (arith, l, costs));
        under_way = p.under_way;
      }

  pub opened_if : (k : ℕ) (n : Node) (c : Cursor) (t u : Track) (r : Result (Unit {0}) SelectFault) → k + 1 < length ss → c.stage ≡ k + 1
      → ahead d (segment_at ss (k + 1)) c ≡ nodes_from (node_at d 0) (segment_at ss (k + 1)) n
      → due d (segment_at ss (k + 1)) c ≡ charge_at (node_at d 0) (segment_at ss (k + 1)) n
      → MatchResult r (λ x. PutOn d ss c t u) (λ e. e ≡ Memory) → MatchResult r (λ x. Places d ss k (n ∷ []) t u) (λ e. e ≡ Memory)
  opened_if k n c t u (Ok x) lt e nodes charged p = opened k n c t u lt e nodes charged p
  opened_if k n c t u (Err f) lt e nodes charged p = p

  -- ---- A cursor is put back

  pub put_again_if : (c : Cursor) (t u : Track) (r : Result (Unit {0}) SelectFault) → MatchResult r (λ x. PutOn d ss c t u) (λ e. e ≡ Memory) → MatchResult r (λ x. PutBack d ss c t u) (λ e. e ≡ Memory)
  put_again_if c t u (Ok x) p = record { same = rw p.pushed (last_first t.cursors.items c); paid = rw p.pushed (last_due t.cursors.items c); out = p.out; under_way = p.under_way }
  put_again_if c t u (Err e) p = p

  -- nothing is ahead of it
  pub ends : (c : Cursor) (t : Track) → IsUnderWay d ss t → ahead d (segment_at ss c.stage) c ≡ [] → due d (segment_at ss c.stage) c ≡ 0 → PutBack d ss c t t
  ends c t w none free =
      let q = after d ss c.stage in
      let z = nothing_for_nothing (node_at d 0) q in
      let o : owed d ss c ≡ 0 = rw none (omega (arith, free, z)) in
      let g : given d ss c ≡ [] = rw none (nothing_from_nothing (node_at d 0) q) in
      record { same = sym (ap (λ ns. ns ++ remaining d ss t.cursors.items) g); paid = omega (arith, o); out = refl; under_way = w }

  -- ---- A cursor gives nodes

  pub gives_none : (c : Cursor) (out : List NodeId) (left : ℕ) → IsCursor d (length ss) c → Inside d out → Gives d ss c c None out out left left
  gives_none c out left i o = record { same = refl; paid = omega arith; inside = tt; cursor = i; stage = refl; sound = o }

  pub gives_then : (a b c : Cursor) (rest : Option (ℕ × NodeId)) (out mid new : List NodeId) (old between left : ℕ) → Gives d ss a b None out mid old between → Gives d ss b c rest mid new between left → Gives d ss a c rest out new old left
  gives_then a b c rest out mid new old between left h g =
      let p = h.paid in
      let q = g.paid in
      record { same = g.same ∙ h.same; paid = omega (arith, p, q); inside = g.inside; cursor = g.cursor; stage = g.stage ∙ h.stage; sound = g.sound }

  -- where the units do not suffice further on, they do not from the beginning
  pub gives_refused : (a b : Cursor) (out mid : List NodeId) (old between : ℕ) (e : SelectFault) → Gives d ss a b None out mid old between → Refuses (owed d ss b) between e → Refuses (owed d ss a) old e
  gives_refused a b out mid old between e h r = let p = h.paid in refuses_from (owed d ss b) between (owed d ss a) old e (λ lt. omega (arith, p, lt)) r

  pub owes : (c : Cursor) (left : ℕ) (e : SelectFault) → Refuses (due d (segment_at ss c.stage) c) left e → Refuses (owed d ss c) left e
  owes c left e r = refuses_from (due d (segment_at ss c.stage) c) left (owed d ss c) left e (λ lt. omega (arith, lt)) r

  -- it draws nodes, which are put somewhere
  module _ (c next : Cursor) (ns : List Node) (old mid : ℕ) (i : IsCursor d (length ss) c) (h : Runs d (segment_at ss c.stage) ns c next old mid) where
    sums : charge_from (node_at d 0) (after d ss c.stage) (ahead d (segment_at ss c.stage) c)
        ≡ charge_from (node_at d 0) (after d ss c.stage) ns + charge_from (node_at d 0) (after d ss c.stage) (ahead d (segment_at ss c.stage) next)
    sums = ap (λ ys. charge_from (node_at d 0) (after d ss c.stage) ys) (sym h.same) ∙ costs_append (node_at d 0) (after d ss c.stage) ns (ahead d (segment_at ss c.stage) next)

    pub draws_put : (rest : Option (ℕ × NodeId)) (out new : List NodeId) (left : ℕ) → Puts d ss c.stage ns rest out new mid left → Gives d ss c next rest out new old left
    draws_put rest out new left g =
        let root = node_at d 0 in
        let q = after d ss c.stage in
        let s = segment_at ss c.stage in
        let stage = h.stage in
        let at = i.stage in
        let given_next : given d ss next ≡ evaluated root q (ahead d s next) = rw stage refl in
        let owed_next : owed d ss next ≡ due d s next + charge_from root q (ahead d s next) = rw stage refl in
        let parts : given d ss c ≡ evaluated root q ns ++ evaluated root q (ahead d s next) = ap (λ ys. evaluated root q ys) (sym h.same) ∙ gives_append root q ns (ahead d s next) in
        let drawn = h.paid in
        let placed = g.paid in
        let all = sums in
        record {
          same = sym (append_assoc (nodes_of d new) (rest_given d ss rest) (given d ss next)) ∙ ap (λ ys. ys ++ given d ss next) g.same ∙ append_assoc (nodes_of d out) (evaluated root q ns) (given d ss next)
              ∙ ap (λ ys. nodes_of d out ++ (evaluated root q ns ++ ys)) given_next ∙ ap (λ ys. nodes_of d out ++ ys) (sym parts);
          paid = omega (arith, drawn, placed, all, owed_next);
          inside = g.inside;
          cursor = record { stage = omega (arith, at, stage); visit = h.visit; end = h.end; child = h.child; stride = h.stride };
          stage = stage;
          sound = g.sound;
        }

    -- none yet
    pub draws_none : (out : List NodeId) → ns ≡ [] → Inside d out → Gives d ss c next None out out old mid
    draws_none out none o =
        let root = node_at d 0 in
        let q = after d ss c.stage in
        let z = nothing_for_nothing root q in
        draws_put None out out mid (record { same = rw (none, nothing_from_nothing root q) refl; paid = rw none (omega (arith, z)); inside = tt; sound = o })

    pub draws_refused : (e : SelectFault) → Refuses (charge_from (node_at d 0) (after d ss c.stage) ns) mid e → Refuses (owed d ss c) old e
    draws_refused e r =
        let all = sums in
        let drawn = h.paid in
        refuses_from (charge_from (node_at d 0) (after d ss c.stage) ns) mid (owed d ss c) old e (λ lt. omega (arith, lt, all, drawn)) r

  -- what the last segment selects is out
  pub drains : (c next : Cursor) (out new : List NodeId) (old left : ℕ) → IsCursor d (length ss) c → c.stage + 1 ≡ length ss → Drains d (segment_at ss c.stage) c next out new old left → Gives d ss c next None out new old left
  drains c next out new old left i end h =
      let none : after d ss c.stage ≡ no_segments = ap segments_of (drop_all (c.stage + 1) ss (omega (arith, end))) in
      let at = i.stage in
      let stage = h.stage in
      let paid = h.paid in
      record {
        same = rw (stage, none) h.same;
        paid = rw (stage, none) (omega (arith, paid));
        inside = tt;
        cursor = record { stage = omega (arith, at, stage); visit = h.visit; end = h.end; child = h.child; stride = h.stride };
        stage = stage;
        sound = h.sound;
      }

  -- ---- The last cursor is taken off, goes on and is put back

  module _ (t b : Track) (c : Cursor) (popped : t.cursors.items ≡ b.cursors.items ++ c ∷ []) (way : IsUnderWay d ss t) where
    pub last_is : IsCursor d (length ss) c
    last_is = (All-pop (IsCursor d (length ss)) t.cursors.items b.cursors.items (Some c) popped way.cursors).1

    pub below_is : b.out.items ≡ t.out.items → IsUnderWay d ss b
    below_is o = record { cursors = (All-pop (IsCursor d (length ss)) t.cursors.items b.cursors.items (Some c) popped way.cursors).0; sound = rw o way.sound }

    pub gone_on : (next : Cursor) (rest : Option (ℕ × NodeId)) (u v : Track) (old left : ℕ) → Gives d ss c next rest t.out.items b.out.items old left → PutBack d ss next b u
        → whole_ahead d ss v ≡ nodes_of d u.out.items ++ (rest_given d ss rest ++ remaining d ss u.cursors.items) → whole_due d ss v ≡ rest_due d ss rest + whole_due d ss u → IsUnderWay d ss v → Goes d ss t v old left
    gone_on next rest u v old left g p ahead_is due_is w =
        let xs = rest_given d ss rest in
        let ys = remaining d ss b.cursors.items in
        let l = last_due b.cursors.items c in
        let m = ap (λ (cs : List Cursor). remaining_due d ss cs) popped in
        let back = p.paid in
        let paid = g.paid in
        record {
          same = ahead_is ∙ rw (p.out, p.same) (ap (λ zs. nodes_of d b.out.items ++ zs) (sym (append_assoc xs (given d ss next) ys)) ∙ sym (append_assoc (nodes_of d b.out.items) (xs ++ given d ss next) ys) ∙ ap (λ zs. zs ++ ys) g.same
              ∙ append_assoc (nodes_of d t.out.items) (given d ss c) ys ∙ ap (λ zs. nodes_of d t.out.items ++ zs) (sym (ap (λ (cs : List Cursor). remaining d ss cs) popped ∙ last_first b.cursors.items c)));
          paid = omega (arith, l, m, back, paid, due_is);
          under_way = w;
        }

    pub gone_none : (next : Cursor) (u : Track) (old left : ℕ) → Gives d ss c next None t.out.items b.out.items old left → PutBack d ss next b u → Goes d ss t u old left
    gone_none next u old left g p = gone_on next None u u old left g p refl (omega arith) p.under_way

    pub gone_some : (next : Cursor) (k : ℕ) (n : NodeId) (u v : Track) (old left : ℕ) → Gives d ss c next (Some (k, n)) t.out.items b.out.items old left → PutBack d ss next b u → Places d ss k (node_at d n.0 ∷ []) u v → Goes d ss t v old left
    gone_some next k n u v old left g p o = gone_on next (Some (k, n)) u v old left g p o.same o.paid o.under_way

    pub gone_refused : (left : ℕ) (e : SelectFault) → Refuses (owed d ss c) left e → Refuses (whole_due d ss t) left e
    gone_refused left e r =
        let l = last_due b.cursors.items c in
        let m = ap (λ (cs : List Cursor). remaining_due d ss cs) popped in
        refuses_from (owed d ss c) left (whole_due d ss t) left e (λ lt. omega (arith, l, m, lt)) r

-- ---- A cursor that went on goes further

module _ (d : Doc) (stages : List Stage) (stage : Stage) (c u : Cursor) (out mid : List NodeId) (old left : ℕ) (is : segment_at (segments_in stages) c.stage ≡ (stage_view stage).tree)
    (g : Gives d (segments_in stages) c u None out mid old left) where
  here : segment_at (segments_in stages) u.stage ≡ (stage_view stage).tree
  here = ap (λ k. segment_at (segments_in stages) k) g.stage ∙ is

  pub then_same : (next : Cursor) (new : List NodeId) (rest_left : ℕ) → (next ≡ u) × ((new ≡ mid) × (rest_left ≡ left)) → Gives d (segments_in stages) c next None out new old rest_left
  then_same next new rest_left e = rw (e.0, e.1.0, e.1.1) g

  pub then_drains : (next : Cursor) (new : List NodeId) (rest_left : ℕ) → c.stage + 1 ≡ length stages → Drains d (stage_view stage).tree u next mid new left rest_left → Gives d (segments_in stages) c next None out new old rest_left
  then_drains next new rest_left end h =
      let total = segment_total stages in
      let same = g.stage in
      gives_then d (segments_in stages) c u next None out mid new old left rest_left g (drains d (segments_in stages) u next mid new left rest_left g.cursor (omega (arith, end, total, same)) (subst (λ s. Drains d s u next mid new left rest_left) (sym here) h))

  pub then_draws : (next : Cursor) (ns : List Node) (rest_left : ℕ) → ns ≡ [] → Runs d (stage_view stage).tree ns u next left rest_left → Gives d (segments_in stages) c next None out mid old rest_left
  then_draws next ns rest_left none h =
      gives_then d (segments_in stages) c u next None out mid mid old left rest_left g (draws_none d (segments_in stages) u next ns left rest_left g.cursor (subst (λ s. Runs d s ns u next left rest_left) (sym here) h) mid none g.sound)

  pub then_puts : (next : Cursor) (ns : List Node) (rest : Option (ℕ × NodeId)) (new : List NodeId) (drawn_left rest_left : ℕ) → Runs d (stage_view stage).tree ns u next left drawn_left
      → Puts d (segments_in stages) c.stage ns rest mid new drawn_left rest_left → Gives d (segments_in stages) c next rest out new old rest_left
  then_puts next ns rest new drawn_left rest_left h p =
      gives_then d (segments_in stages) c u next rest out mid new old left rest_left g
      (draws_put d (segments_in stages) u next ns left drawn_left g.cursor (subst (λ s. Runs d s ns u next left drawn_left) (sym here) h) rest mid new rest_left (subst (λ k. Puts d (segments_in stages) k ns rest mid new drawn_left rest_left) (sym g.stage) p))

  pub then_refuses : (e : SelectFault) → Refuses (due d (stage_view stage).tree u) left e → Refuses (owed d (segments_in stages) c) old e
  then_refuses e r =
      gives_refused d (segments_in stages) c u out mid old left e g (owes d (segments_in stages) u left e (subst (λ s. Refuses (due d s u) left e) (sym here) r))

  pub then_put_refused : (next : Cursor) (ns : List Node) (drawn_left : ℕ) (e : SelectFault) → Runs d (stage_view stage).tree ns u next left drawn_left
      → Refuses (charge_from (node_at d 0) (after d (segments_in stages) c.stage) ns) drawn_left e → Refuses (owed d (segments_in stages) c) old e
  then_put_refused next ns drawn_left e h r =
      gives_refused d (segments_in stages) c u out mid old left e g
      (draws_refused d (segments_in stages) u next ns left drawn_left g.cursor (subst (λ s. Runs d s ns u next left drawn_left) (sym here) h) e (subst (λ k. Refuses (charge_from (node_at d 0) (after d (segments_in stages) k) ns) drawn_left e) (sym g.stage) r))

-- steps one after the other
module _ (d : Doc) (ss : List OneSegment) where
  pub goes_on : (t u v : Track) (old mid new : ℕ) → Goes d ss t u old mid → Goes d ss u v mid new → Goes d ss t v old new
  goes_on t u v old mid new h g = let p = h.paid in let q = g.paid in record { same = g.same ∙ h.same; paid = omega (arith, p, q); under_way = g.under_way }

  pub goes_refused : (t u : Track) (old mid : ℕ) (e : SelectFault) → Goes d ss t u old mid → Refuses (whole_due d ss u) mid e → Refuses (whole_due d ss t) old e
  goes_refused t u old mid e h r = let p = h.paid in refuses_from (whole_due d ss u) mid (whole_due d ss t) old e (λ lt. omega (arith, p, lt)) r

  -- ---- Names and indexes, one after the other

  module _ (k : ℕ) (l : Link) (n : Node) (found : List Node) (lt : k + 1 < length ss) (is : segment_at ss (k + 1) ≡ link_view l) (e : found ≡ selected_by (node_at d 0) (link_selector l) n) where
    after_link : after d ss k ≡ segment false (selector (link_selector l) no_selectors) (after d ss (k + 1))
    after_link = ap segments_of (behind_is ss (k + 1) lt) ∙ ap (λ (s : OneSegment). segment s.descend s.selectors (after d ss (k + 1))) is

    one_found : ((selected_by (node_at d 0) (link_selector l) n ++ []) ++ []) ++ [] ≡ found
    one_found = append-nil ((selected_by (node_at d 0) (link_selector l) n ++ []) ++ []) ∙ append-nil (selected_by (node_at d 0) (link_selector l) n ++ []) ∙ append-nil (selected_by (node_at d 0) (link_selector l) n) ∙ sym e

    pub link_followed : evaluated (node_at d 0) (after d ss (k + 1)) found ≡ evaluated (node_at d 0) (after d ss k) (n ∷ [])
    link_followed = sym (ap (λ (q : Segments). evaluated (node_at d 0) q (n ∷ [])) after_link ∙ ap (λ ns. evaluated (node_at d 0) (after d ss (k + 1)) ns) one_found)

    pub link_costs : charge_from (node_at d 0) (after d ss k) (n ∷ []) ≡ 1 + charge_from (node_at d 0) (after d ss (k + 1)) found
    link_costs =
        let a = ap (λ (q : Segments). charge_from (node_at d 0) q (n ∷ [])) after_link in
        let b = ap (λ ns. charge_from (node_at d 0) (after d ss (k + 1)) ns) one_found in
        let u = one_unit (node_at d 0) n l in
        omega (arith, a, b, u)

  -- ---- Where a node goes that was reached

  module _ (k to : ℕ) (n : Node) (found : NodeId) (out : List NodeId) (old mid : ℕ) (f : Follows d ss k n to (Some found) old mid) where
    -- it is out
    pub put_out : (new : List NodeId) → length ss ≤ to + 1 → Holds d new (nodes_of d out ++ node_at d found.0 ∷ []) → Puts d ss k (n ∷ []) None out new old mid
    put_out new h o =
        let none : after d ss to ≡ no_segments = ap segments_of (drop_all (to + 1) ss h) in
        let same = rw none at f.same in
        let paid = rw none at f.paid in
        record { same = append-nil (nodes_of d new) ∙ o.same ∙ ap (λ ns. nodes_of d out ++ ns) same; paid = omega (arith, paid); inside = tt; sound = o.inside }

    -- a cursor goes on from it
    pub put_rest : to + 1 < length ss → Inside d out → Puts d ss k (n ∷ []) (Some (to, found)) out out old mid
    put_rest lt o = record { same = ap (λ ns. nodes_of d out ++ ns) f.same; paid = f.paid; inside = (lt, f.inside); sound = o }

    -- all that the last segment selects from it is out
    module _ (end : to + 1 + 1 ≡ length ss) where
      last_gives : evaluated (node_at d 0) (after d ss to) (node_at d found.0 ∷ []) ≡ nodes_from (node_at d 0) (segment_at ss (to + 1)) (node_at d found.0)
      last_gives =
          let more = ap segments_of (behind_is ss (to + 1) (omega (arith, end))) in
          let none : after d ss (to + 1) ≡ no_segments = ap segments_of (drop_all (to + 1 + 1) ss (omega (arith, end))) in
          rw (more, none) (append-nil (nodes_from (node_at d 0) (segment_at ss (to + 1)) (node_at d found.0)))

      last_costs : charge_from (node_at d 0) (after d ss to) (node_at d found.0 ∷ []) ≡ charge_at (node_at d 0) (segment_at ss (to + 1)) (node_at d found.0)
      last_costs =
          let more = ap segments_of (behind_is ss (to + 1) (omega (arith, end))) in
          let none : after d ss (to + 1) ≡ no_segments = ap segments_of (drop_all (to + 1 + 1) ss (omega (arith, end))) in
          rw (more, none) (omega arith)

      pub put_whole : (new : List NodeId) (left : ℕ) → Takes d (segment_at ss (to + 1)) (node_at d found.0) true out new mid left → Puts d ss k (n ∷ []) None out new old left
      put_whole new left t =
          let costs = last_costs in
          let paid = f.paid in
          let spent = t.1 in
          record { same = append-nil (nodes_of d new) ∙ t.0.same ∙ ap (λ ns. nodes_of d out ++ ns) (sym last_gives ∙ f.same); paid = omega (arith, costs, paid, spent); inside = tt; sound = t.0.inside }

      pub put_refused : (e : SelectFault) → Refuses (charge_at (node_at d 0) (segment_at ss (to + 1)) (node_at d found.0)) mid e → Refuses (charge_from (node_at d 0) (after d ss k) (n ∷ [])) old e
      put_refused e r =
          let costs = last_costs in
          let paid = f.paid in
          refuses_from (charge_at (node_at d 0) (segment_at ss (to + 1)) (node_at d found.0)) mid (charge_from (node_at d 0) (after d ss k) (n ∷ [])) old e (λ lt. omega (arith, costs, paid, lt)) r

  -- there is none
  pub put_nothing : (k to : ℕ) (n : Node) (found : Option NodeId) (out : List NodeId) (old mid : ℕ) → found ≡ None → Inside d out → Follows d ss k n to found old mid → Puts d ss k (n ∷ []) None out out old mid
  put_nothing k to n found out old mid e o f =
      let root = node_at d 0 in
      let q = after d ss to in
      let same = rw (e, nothing_from_nothing root q) at f.same in
      let z = nothing_for_nothing root q in
      let paid = rw e at f.paid in
      record { same = ap (λ ns. nodes_of d out ++ ns) same; paid = omega (arith, paid, z); inside = tt; sound = o }

pub stays : (d : Doc) (ss : List OneSegment) (t : Track) (left : ℕ) → IsUnderWay d ss t → Goes d ss t t left left
stays d ss t left w = record { same = refl; paid = refl; under_way = w }

-- so many units are within a step
pub spends_less : (d : Doc) (ss : List OneSegment) (least left : ℕ) → least ≤ left + 1 → IsOneStep d ss least left
spends_less d ss least left h = (record { stage = 0; visit = 0; end = 0; passed = 0; asked = 0; child = None; stride = record { first = 0; end = 0; step = 1; is_back = false } }, omega (arith, h))

pub step_of_less : (d : Doc) (s : OneSegment) (least left : ℕ) → least ≤ left → IsStepOf d s least left
step_of_less d s least left h = (record { stage = 0; visit = 0; end = 0; passed = 0; asked = 0; child = None; stride = record { first = 0; end = 0; step = 1; is_back = false } }, omega (arith, h))

-- a step of a segment is one of the query's
pub step_in : (d : Doc) (ss : List OneSegment) (k : ℕ) (s : OneSegment) (least left : ℕ) → segment_at ss k ≡ s → IsStepOf d s least left → IsOneStep d ss least left
step_in d ss k s least left e h = (record { stage = k; visit = h.0.visit; end = h.0.end; passed = h.0.passed; asked = h.0.asked; child = h.0.child; stride = h.0.stride }, rw e h.1)

-- and what is put on behind it costs no more, where fewer units are left
pub little_put : (d : Doc) (ss : List OneSegment) (k : ℕ) (s : OneSegment) (least mid new : ℕ) → segment_at ss k ≡ s → IsStepOf d s least mid → (least ≤ mid → least ≤ new + 1) → (mid < least → new ≡ mid) → IsOneStep d ss least new
little_put d ss k s least mid new e h f g = elim (cases_lt mid least) [
  | inl lt ↦ step_in d ss k s least new e (subst (λ x. IsStepOf d s least x) (sym (g lt)) h)
  | inr ge ↦ spends_less d ss least new (f ge)
]

-- what is asked within few units costs no more than a step
pub little_asked : (d : Doc) (s : OneSegment) (r : Result (Option (Option NodeId)) SelectFault) (before next : Cursor) (least old new : ℕ) → least ≤ old
    → MatchResult r (λ some. MatchOption some ((next ≡ before) × (new ≡ old)) (λ found. Draws d s found before next old new)) (λ e. Refuses (due d s before) old e) → IfOk r (λ some. IsStepOf d s least new)
little_asked d s (Ok None) before next least old new lt h = let e = h.1 in step_of_less d s least new (omega (arith, lt, e))
little_asked d s (Ok (Some found)) before next least old new lt h = let l = h.little in (before, omega (arith, lt, l))
little_asked d s (Err e) before next least old new lt h = tt
