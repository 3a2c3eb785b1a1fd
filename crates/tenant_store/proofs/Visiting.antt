-- What a document leaves of a step.
use Rattle.std.proofs.Common.{inl, inr, ◌≡◌, ◌≤◌, ◌<◌, ◌+◌, ◌-◌, ℕ, List, [], ◌∷◌, length, drop, Option, Some, None, refl, sym, ap, ◌∙◌, subst, arith}
use Rattle.std.specs.Prelude.{MatchOption}
use Rattle.std.specs.declared.vec.Vec.{Vec}
use Rattle.std.specs.declared.alloc.Global.{Global}
use Rattle.json_tape.specs.Document.{Doc, tree_of}
use Rattle.path_grammar.specs.Tree.{Segments}
use Rattle.tape_select.specs.Charge.{charge}
use Rattle.query_machine.specs.Evaluators.{IsAtRest, IsEvaluating, IsWithinText, left_on, query_in}
use Rattle.query_machine.specs.Levels.{IsOneStep}
use Rattle.query_machine.specs.declared.evaluator.Evaluator.{Evaluator}
use Rattle.query_machine.specs.declared.levels.Machine.{Machine}
use Rattle.tenant_map.specs.Kept.{AreKept, texts}
use Rattle.tenant_map.specs.Maps.{Documents}
use Rattle.tenant_store.specs.declared.walk.Reached.{Reached}
use Rattle.tenant_store.specs.declared.walk.Visited.{Visited}
use Rattle.tenant_store.specs.Payloads.{Text}
use Rattle.tenant_store.specs.TextsRead.{text_read, texts_read}
use Rattle.tenant_store.specs.Steps.{Adds, AreSizes, PassesOne, Visits}
use Rattle.tenant_store.specs.Walks.{IsAt, IsLittle, IsOneStepOn, IsReady, Passes, cut_of, last_of, left_by, spent_on}
use Rattle.tenant_store.proofs.Passing.{adds_next, at_last, last_texts, length-read, step_ends, step_goes}

-- ---- Evaluators

pub left_within : (text : List ℕ) (units : ℕ) (e : Evaluator) → IsEvaluating text units e → left_on units e.evaluation ≤ units
left_within text units e h = by e.evaluation h.within
  where
    by : (o : Option Machine) → IsWithinText text e.parts units o → left_on units o ≤ units
    by None w = omega arith
    by (Some v) w = w.4

pub ready_within : (ds : Documents) (units : ℕ) (e : Evaluator) → IsReady ds units e → left_on units e.evaluation ≤ units
ready_within [] units e h = rw h.rest (omega arith)
ready_within (d ∷ ds) units e h = left_within d.1 units e h

pub rests : (text : List ℕ) (units : ℕ) (e : Evaluator) → IsEvaluating text units e → e.evaluation ≡ None → IsAtRest e
rests text units e h r = record { numbered = h.numbered; rest = r }

-- at rest it begins with any documents
pub ready_at_rest : (ds : Documents) (units : ℕ) (e : Evaluator) → IsAtRest e → IsReady ds units e
ready_at_rest [] units e h = h
ready_at_rest (d ∷ ds) units e h = record { numbered = h.numbered; within = rw h.rest tt }

-- ---- One document

cut_is : (units share left : ℕ) (o : Option Machine) → left_on units o + share < left → left ≤ units → (w : Machine) × (o ≡ Some w)
cut_is units share left None s l = absurd (omega (arith, s, l))
cut_is units share left (Some w) s l = (w, refl)

pub visits_within : (q : Segments) (t : Text) (more : ℕ) (place : Reached) (old new : Evaluator) (before after : List ℕ) → left_on place.units old.evaluation ≤ place.units
    → PassesOne None q t more place old new before after → Visits (record { place = place; more = None }) q t more place old new before after
visits_within q t more place old new before after l p =
    let s = p.1 in
    let due = p.2 in
    let cut = cut_is place.units more (left_on place.units old.evaluation) new.evaluation s l in
    record {
      passed = rw cut.1 (refl, p.0);
      step = omega (arith, s, due, l);
      share = omega (arith, s);
    }

pub visits_behind : (q : Segments) (t : Text) (more : ℕ) (place next : Reached) (old new : Evaluator) (before after : List ℕ) (left : Option ℕ) → left_on place.units old.evaluation ≤ place.units
    → PassesOne (Some next) q t more place old new before after
    → MatchOption left (more < left_on place.units old.evaluation - next.units) (λ n. n + (left_on place.units old.evaluation - next.units) ≡ more)
    → Visits (record { place = next; more = left }) q t more place old new before after
visits_behind q t more place next old new before after None l p h =
    let spent = p.0.spent in
    let due = p.2 in
    record { passed = rw p.1 p.0; step = omega (arith, spent, due, l, h); share = rw p.1 (omega (arith, h)) }
visits_behind q t more place next old new before after (Some n) l p h =
    let spent = p.0.spent in
    let due = p.2 in
    record { passed = rw p.1 p.0; step = (omega (arith, spent, due, l, h), p.1); share = rw p.1 (omega (arith, spent, due, h)) }

-- ---- A step goes on behind a document

pub goes_behind : (q : Segments) (it rest : List (Vec ℕ Global × Doc)) (e : Vec ℕ Global × Doc) (more begun left : ℕ) (next : Reached) (new : Evaluator) (all : List Text) → it ≡ e ∷ rest
    → left + charge (tree_of e.1) q ≡ more + begun → new.evaluation ≡ None → left_by q (more + begun) (texts_read it) ≡ all → left_by q (left + spent_on next.units new) (texts_read rest) ≡ all
goes_behind q it rest e more begun left next new all i p r l =
    let none : left + spent_on next.units new ≡ more + begun - charge (tree_of e.1) q = rw r (omega (arith, p)) in
    ap (λ n. left_by q n (texts_read rest)) none ∙ step_goes q it rest e (more + begun) (charge (tree_of e.1) q) all i refl l (omega (arith, p))

-- ---- A step ends behind a document, or within it

ended : (q : Segments) (t : Text) (place next : Reached) (o : Option Machine) (before after : List ℕ) (n : ℕ) → place.documents ≡ n + 1
    → MatchOption o (Adds q t place next before after) (λ w. (next ≡ place) × (after ≡ before)) → next.documents ≡ n + cut_of o
ended q t place next None before after n d a = let b = a.left in omega (arith, b, d)
ended q t place next (Some w) before after n d a = let b = ap (λ (x : Reached). x.documents) a.0 in omega (arith, b, d)

pub ends_step : (q : Segments) (it rest : List (Vec ℕ Global × Doc)) (e : Vec ℕ Global × Doc) (name : List ℕ) (to : Visited) (more : ℕ) (place : Reached) (old new : Evaluator) (before after : List ℕ) (all : List Text) → it ≡ e ∷ rest
    → place.documents ≡ length it → left_by q (more + spent_on place.units old) (texts_read it) ≡ all → Visits to q (text_read name e.1) more place old new before after → to.more ≡ None
    → to.place.documents ≡ length all + cut_of new.evaluation
ends_step q it rest e name to more place old new before after all i n l t z =
    let none : texts_read rest ≡ all = step_ends q it rest e (more + spent_on place.units old) (charge (tree_of e.1) q) all i refl l (rw z at t.step) in
    let size : length rest ≡ length all = sym (length-read rest) ∙ ap (λ (ts : List Text). length ts) none in
    let one = ap (λ (ds : List (Vec ℕ Global × Doc)). length ds) i in
    ended q (text_read name e.1) place to.place new.evaluation before after (length all) (omega (arith, n, one, size)) t.passed

pub ends_at : (q : Segments) (es it rest : List (Vec ℕ Global × Doc)) (e : Vec ℕ Global × Doc) (name : List ℕ) (place next : Reached) (o : Option Machine) (start : ℕ) (before after : List ℕ) → it ≡ e ∷ rest → name ≡ e.0.items
    → place.documents ≡ length it → Passes q (texts_read es) (texts_read it) place.units place.hits (drop start before) → AreSizes place start (length before) → AreSizes next start (length after)
    → MatchOption o (Adds q (text_read name e.1) place next before after) (λ w. (next ≡ place) × (after ≡ before)) → IsAt q (texts_read es) next (drop start after)
ends_at q es it rest e name place next None start before after i m n p s l a =
    let one = ap (λ (ds : List (Vec ℕ Global × Doc)). length ds) i in
    let b = a.left in
    at_last q es rest next (drop start after) (omega (arith, b, n, one)) (adds_next q es it rest e name place next start before after i m p a s l)
ends_at q es it rest e name place next (Some w) start before after i m n p s l a =
    subst (λ x. IsAt q (texts_read es) x (drop start after)) (sym a.0) (subst (λ x. IsAt q (texts_read es) place (drop start x)) (sym a.1) (at_last q es it place (drop start before) n p))

pub ends_ready : (es it rest : List (Vec ℕ Global × Doc)) (e : Vec ℕ Global × Doc) (q : Segments) (t : Text) (place next : Reached) (new : Evaluator) (before after : List ℕ) → it ≡ e ∷ rest → it ≡ last_of place.documents es
    → IsEvaluating e.1.text place.units new → MatchOption new.evaluation (Adds q t place next before after) (λ w. (next ≡ place) × (after ≡ before)) → IsReady (last_of next.documents (texts es)) next.units new
ends_ready es it rest e q t place next new before after i l h a = by new.evaluation refl a
  where
    by : (o : Option Machine) → new.evaluation ≡ o → MatchOption o (Adds q t place next before after) (λ w. (next ≡ place) × (after ≡ before)) → IsReady (last_of next.documents (texts es)) next.units new
    by None r a = ready_at_rest (last_of next.documents (texts es)) next.units new (rests e.1.text place.units new h r)
    by (Some w) r a =
        let first : texts (e ∷ rest) ≡ last_of place.documents (texts es) = ap (λ ds. texts ds) (sym i) ∙ last_texts place.documents es it l in
        subst (λ (x : Reached). IsReady (last_of x.documents (texts es)) x.units new) (sym a.0) (subst (λ ds. IsReady ds place.units new) first h)

-- ---- The last document is passed

pub none_ready : (it : List (Vec ℕ Global × Doc)) (units : ℕ) (e : Evaluator) → it ≡ [] → IsReady (texts it) units e → IsAtRest e
none_ready it units e n h = subst (λ (ds : List (Vec ℕ Global × Doc)). IsReady (texts ds) units e) n h

pub none_left : (it : List (Vec ℕ Global × Doc)) (n : ℕ) (e : Evaluator) (all : List Text) → n ≡ length it → it ≡ [] → all ≡ [] → IsAtRest e → n ≡ length all + cut_of e.evaluation
none_left it n e all l z a r =
    let none = ap (λ (ds : List (Vec ℕ Global × Doc)). length ds) z in
    let same = ap (λ (ts : List Text). length ts) a in
    rw r.rest (omega (arith, l, none, same))

-- ---- What is spent

-- behind a document none of its units are with an evaluation
pub spent_behind : (d : Doc) (e : Evaluator) (old units share : ℕ) (o : Option Machine) → o ≡ None → IsOneStep d e.parts old (units + share) → IsOneStep d e.parts old (left_on units o + share)
spent_behind d e old units share o r s = subst (λ x. IsOneStep d e.parts old (left_on units x + share)) (sym r) s

pub step_on : (q : Segments) (es it rest : List (Vec ℕ Global × Doc)) (e : Vec ℕ Global × Doc) (place : ℕ) (evaluator : Evaluator) (old new before after : ℕ) → it ≡ e ∷ rest → it ≡ last_of place es → AreKept it → query_in evaluator ≡ q
    → IsOneStep e.1 evaluator.parts old new → before + new ≤ after + old → IsOneStepOn q (texts es) before after
step_on q es it rest e place evaluator old new before after i l k h s m = record {
  document = e.1;
  accepted = (subst AreKept i k).0.accepted;
  place = place;
  name = e.0.items;
  others = texts rest;
  its = sym (last_texts place es it l) ∙ ap (λ ds. texts ds) i;
  evaluator = evaluator;
  query = h;
  one = (let few = s.3 in (s.0, s.1, s.2, omega (arith, few, m)));
}

-- more is left
pub little_for : (q : Segments) (ds : Documents) (old new more : ℕ) → IsLittle q ds old new → new ≤ more → IsLittle q ds old more
little_for q ds old new more (inl h) m = inl (omega (arith, h, m))
little_for q ds old new more (inr s) m = inr (record {
  document = s.document;
  accepted = s.accepted;
  place = s.place;
  name = s.name;
  others = s.others;
  its = s.its;
  evaluator = s.evaluator;
  query = s.query;
  one = (let few = s.one.3 in (s.one.0, s.one.1, s.one.2, omega (arith, few, m)));
})

-- no document is left, or none is cut
pub left_uncut : (units : ℕ) (o : Option Machine) → cut_of o ≡ 0 → left_on units o ≡ units
left_uncut units None e = refl
left_uncut units (Some w) e = absurd cc
