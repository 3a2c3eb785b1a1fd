-- What the events of a turn do to the hub, and then acts one after another.
use Rattle.std.proofs.Common.{◌≡◌, ◌≢◌, ℕ, suc, Bool, true, false, List, [], ◌∷◌, ◌++◌, map, length, sym, ap, ◌∙◌, subst, refl, Option, Some, None, cond, eqb, inl, inr, arith, append_assoc}
use Rattle.std.specs.Prelude.{◌==◌, if◌then◌else◌}
use Rattle.std.specs.Ordering.{nat_cmp}
use Rattle.std.specs.BTreeMap.{is_at}
use Rattle.std.proofs.lemmas.List.{append-nil}
use Rattle.std.proofs.lemmas.Bool.{cases_Bool, eqb-true, eqb-false}
use Rattle.std.proofs.lemmas.Bool.Decides.{nat_tests, Decides-eqb}
use Rattle.wire_frames.specs.Framing.{Framing, fresh as fresh_framing, with_piece}
use Rattle.tenant_map.specs.Tenancy.{Tenancy}
use Rattle.outbox.specs.Lines.{Line, Event, Readable, Declined, Answered, Writable, Ends, Fails, Worked, fresh, after, run, reads, gathered, taken_at, replied_at, taken, replied, read, lost, sent as sent_by}
use Rattle.outbox.specs.Turns.{DoesAll}
use Rattle.path_hub.specs.HubState.{HubState}
use Rattle.path_hub.specs.Items.{Item}
use Rattle.path_hub.specs.Runs.{Sent, Run}
use Rattle.path_hub.specs.Pending.{item}
use Rattle.path_hub.specs.Into.{IsTaken, sent, joined}
use Rattle.path_hub.specs.Sessions.{session, Sets}
use Rattle.path_hub.specs.Serving.{items_in}
use Rattle.path_hub.specs.Laws.{RunsApart}
use Rattle.path_hub.specs.Standing.{StandsAt, Standing}
use Rattle.hub_core.specs.Answering.{takes, Answers}
use Rattle.hub_core.specs.Acts.{Act, Opened, Turned, Closed, Drained, changed, lines_after, all_lines_after, AllHappen, replies_in, told_in, events_of, bodies_of, frames_of, IsKept}
use Rattle.hub_core.specs.Served.{IsServed, SessionIn, Serves}

pub picked : {A : Type 0} (b : Bool) (x y : A) → b ≡ true → (if b then x else y) ≡ x
picked true x y h = refl
picked false x y h = absurd cc

passed : {A : Type 0} (b : Bool) (x y : A) → b ≡ false → (if b then x else y) ≡ y
passed true x y h = absurd cc
passed false x y h = refl

-- ---- Sessions

same_test : (c q : ℕ) → is_at (nat_cmp c) q ≡ eqb q c
same_test c q = grind (arith, nat_tests)

not_there : (q conn : ℕ) → q ≢ conn → eqb q conn ≡ false
not_there q conn n = elim (cases_Bool (eqb q conn)) [ inl e ↦ absurd (n (eqb-true q conn e)) | inr e ↦ e ]

sets_others : (conn : ℕ) (v : Option Framing) (ss ss' : List (ℕ × Framing)) → Sets conn v ss ss' → (q : ℕ) → q ≢ conn → session q ss' ≡ session q ss
sets_others conn v ss ss' sets q n = sets q ∙ ap (λ (b : Bool). cond b v (session q ss)) (same_test conn q ∙ not_there q conn n)

sets_here : (conn : ℕ) (v : Option Framing) (ss ss' : List (ℕ × Framing)) → Sets conn v ss ss' → session conn ss' ≡ v
sets_here conn v ss ss' sets = sets conn ∙ ap (λ (b : Bool). cond b v (session conn ss)) (same_test conn conn ∙ (Decides-eqb conn conn).1 refl)

same_some : (f g : Framing) → Some f ≡ Some g → f ≡ g
same_some f g e = cc

-- where a connection's session stands
pub record Stands (conn : ℕ) (s : List ℕ) (ds : List (Option (List ℕ))) (h : HubState) : Type 0 where
  pub framing : Framing
  pub was : session conn h.sessions ≡ Some framing
  pub stands : StandsAt s ds framing

at_same : (conn : ℕ) (s s' : List ℕ) (ds ds' : List (Option (List ℕ))) (h : HubState) → s ≡ s' → ds ≡ ds' → Stands conn s ds h → Stands conn s' ds' h
at_same conn s s' ds ds' h e f k = subst (λ (x : List ℕ). Stands conn x ds' h) e (subst (λ (x : List (Option (List ℕ))). Stands conn s x h) f k)

kept_at : (conn : ℕ) (s : List ℕ) (ds : List (Option (List ℕ))) (h h' : HubState) → session conn h'.sessions ≡ session conn h.sessions → Stands conn s ds h → Stands conn s ds h'
kept_at conn s ds h h' e k = record { framing = k.framing; was = e ∙ k.was; stands = k.stands }

taken_here : (w : Standing) (conn : ℕ) (p s : List ℕ) (ds : List (Option (List ℕ))) (h h' : HubState) → IsTaken conn p h h' → Stands conn s ds h → Stands conn (s ++ p) ds h'
taken_here w conn p s ds h h' t k = record {
  framing = with_piece t.framing p;
  was = sets_here conn (Some (with_piece t.framing p)) h.sessions h'.sessions t.sets;
  stands = w.piece s p ds t.framing (subst (λ (f : Framing). StandsAt s ds f) (same_some k.framing t.framing (sym k.was ∙ t.was)) k.stands) t.open';
}

answered_here : (w : Standing) (conn : ℕ) (s : List ℕ) (ds : List (Option (List ℕ))) (h h' : HubState) (reply : List ℕ) (t : Answers conn h reply h') → Stands conn s ds h → Stands conn s (ds ++ t.body ∷ []) h'
answered_here w conn s ds h h' reply t k = record {
  framing = t.left;
  was = sets_here conn (Some t.left) h.sessions h'.sessions t.sets;
  stands = w.step s ds t.body t.framing t.left (subst (λ (f : Framing). StandsAt s ds f) (same_some k.framing t.framing (sym k.was ∙ t.was)) k.stands) t.takes_off;
}

-- ---- The events of a turn

pub record Answering (conn : ℕ) (line : Line) (es : List Event) (h h' : HubState) : Type 0 where
  pub bodies : List (Option (List ℕ))
  pub runs : Run h.tenants (map (item conn) bodies) (map (sent conn) (replies_in es)) h'.tenants
  pub replied_is : replied line es ≡ joined (replies_in es)
  pub here : (s : List ℕ) (ds : List (Option (List ℕ))) → Stands conn s ds h → Stands conn (s ++ taken line es) (ds ++ bodies) h'
  pub elsewhere : (q : ℕ) → q ≢ conn → session q h'.sessions ≡ session q h.sessions

-- an event at which nothing is taken or answered
quiet : (conn : ℕ) (line : Line) (e : Event) (es : List Event) (h mid h' : HubState) → taken_at line e ≡ [] → replied_at line e ≡ [] → replies_in (e ∷ es) ≡ replies_in es → mid ≡ h → Answering conn (after line e) es mid h' → Answering conn line (e ∷ es) h h'
quiet conn line e es h mid h' t r same k a =
    let b : Answering conn (after line e) es h h' = subst (λ (x : HubState). Answering conn (after line e) es x h') k a in
    record {
      bodies = b.bodies;
      runs = subst (λ (xs : List (List ℕ)). Run h.tenants (map (item conn) b.bodies) (map (sent conn) xs) h'.tenants) (sym same) b.runs;
      replied_is = ap (λ (xs : List ℕ). xs ++ replied (after line e) es) r ∙ b.replied_is ∙ ap joined (sym same);
      here = λ s ds x. at_same conn (s ++ taken (after line e) es) (s ++ taken line (e ∷ es)) (ds ++ b.bodies) (ds ++ b.bodies) h' (ap (λ (xs : List ℕ). s ++ (xs ++ taken (after line e) es)) (sym t)) refl (b.here s ds x);
      elsewhere = b.elsewhere;
    }

pub answering : (w : Standing) (conn : ℕ) (line : Line) (es : List Event) (h h' : HubState) → DoesAll (takes conn) (Answers conn) line es h h' → Answering conn line es h h'
answering w conn line [] h h' e = record {
  bodies = [];
  runs = ap (λ (x : HubState). x.tenants) e;
  replied_is = refl;
  here = λ s ds x. kept_at conn (s ++ []) (ds ++ []) h h' (ap (λ (y : HubState). session conn y.sessions) e) (at_same conn s (s ++ []) ds (ds ++ []) h (sym (append-nil s)) (sym (append-nil ds)) x);
  elsewhere = λ q n. ap (λ (y : HubState). session q y.sessions) e;
}
answering w conn line (Readable p ∷ es) h h' d =
    let t : IsTaken conn p h d.0 = d.1.1 in
    let a : Answering conn line es d.0 h' = answering w conn line es d.0 h' d.2 in
    record {
      bodies = a.bodies;
      runs = subst (λ (os : Tenancy). Run os (map (item conn) a.bodies) (map (sent conn) (replies_in es)) h'.tenants) t.tenants_stay a.runs;
      replied_is = a.replied_is;
      here = λ s ds x. at_same conn ((s ++ p) ++ taken line es) (s ++ taken line (Readable p ∷ es)) (ds ++ a.bodies) (ds ++ a.bodies) h'
          (append_assoc s p (taken line es) ∙ ap (λ (xs : List ℕ). s ++ (xs ++ taken line es)) (sym (picked (reads line) p [] d.1.0))) refl
          (a.here (s ++ p) ds (taken_here w conn p s ds h d.0 t x));
      elsewhere = λ q n. a.elsewhere q n ∙ sets_others conn (Some (with_piece t.framing p)) h.sessions d.0.sessions t.sets q n;
    }
answering w conn line (Declined p ∷ es) h h' d = quiet conn line (Declined p) es h d.0 h' refl refl refl d.1.1 (answering w conn (after line (Declined p)) es d.0 h' d.2)
answering w conn line (Answered reply ∷ es) h h' d =
    let t : Answers conn h reply d.0 = d.1.1 in
    let a : Answering conn (after line (Answered reply)) es d.0 h' = answering w conn (after line (Answered reply)) es d.0 h' d.2 in
    record {
      bodies = t.body ∷ a.bodies;
      runs = (d.0.tenants, refl, t.step, a.runs);
      replied_is = ap (λ (xs : List ℕ). xs ++ replied (after line (Answered reply)) es) (picked (reads line) reply [] d.1.0) ∙ ap (λ (xs : List ℕ). reply ++ xs) a.replied_is;
      here = λ s ds x. at_same conn (s ++ taken (after line (Answered reply)) es) (s ++ taken (after line (Answered reply)) es) ((ds ++ t.body ∷ []) ++ a.bodies) (ds ++ t.body ∷ a.bodies) h'
          refl (append_assoc ds (t.body ∷ []) a.bodies) (a.here s (ds ++ t.body ∷ []) (answered_here w conn s ds h d.0 reply t x));
      elsewhere = λ q n. a.elsewhere q n ∙ sets_others conn (Some t.left) h.sessions d.0.sessions t.sets q n;
    }
answering w conn line (Writable room ∷ es) h h' d = quiet conn line (Writable room) es h d.0 h' refl refl refl d.1 (answering w conn (after line (Writable room)) es d.0 h' d.2)
answering w conn line (Ends ∷ es) h h' d = quiet conn line Ends es h d.0 h' refl refl refl d.1 (answering w conn (after line Ends) es d.0 h' d.2)
answering w conn line (Fails ∷ es) h h' d = quiet conn line Fails es h d.0 h' refl refl refl d.1 (answering w conn (after line Fails) es d.0 h' d.2)
answering w conn line (Worked ∷ es) h h' d = quiet conn line Worked es h d.0 h' refl refl refl d.1 (answering w conn line es d.0 h' d.2)

-- ---- Acts

run-append : (is js : List Item) (ts us : List Sent) (old mid new : Tenancy) → Run old is ts mid → Run mid js us new → Run old (is ++ js) (ts ++ us) new
run-append [] js [] us old mid new r s = subst (λ (o : Tenancy). Run o js us new) r s
run-append [] js (t ∷ ts) us old mid new r s = absurd r
run-append (i ∷ is) js [] us old mid new r s = absurd r
run-append (i ∷ is) js (t ∷ ts) us old mid new r s = (r.0, r.1, r.2, run-append is js ts us r.0 mid new r.3 s)

joined-append : (xs ys : List (List ℕ)) → joined (xs ++ ys) ≡ joined xs ++ joined ys
joined-append [] ys = refl
joined-append (x ∷ xs) ys = ap (λ (s : List ℕ). x ++ s) (joined-append xs ys) ∙ sym (append_assoc x (joined xs) (joined ys))

gathered-append : (at : Line → Event → List ℕ) (line : Line) (es fs : List Event) → gathered at line (es ++ fs) ≡ gathered at line es ++ gathered at (run line es) fs
gathered-append at line [] fs = refl
gathered-append at line (e ∷ es) fs = ap (λ (xs : List ℕ). at line e ++ xs) (gathered-append at (after line e) es fs) ∙ sym (append_assoc (at line e) (gathered at (after line e) es) (gathered at (run (after line e) es) fs))

bodies_own : (q conn : ℕ) (bs : List (Option (List ℕ))) (is : List Item) → (q == conn) ≡ true → bodies_of q (map (item conn) bs ++ is) ≡ bs ++ bodies_of q is
bodies_own q conn [] is e = refl
bodies_own q conn (b ∷ bs) is e = picked (q == conn) (b ∷ bodies_of q (map (item conn) bs ++ is)) (bodies_of q (map (item conn) bs ++ is)) e ∙ ap (λ (xs : List (Option (List ℕ))). b ∷ xs) (bodies_own q conn bs is e)

bodies_other : (q conn : ℕ) (bs : List (Option (List ℕ))) (is : List Item) → (q == conn) ≡ false → bodies_of q (map (item conn) bs ++ is) ≡ bodies_of q is
bodies_other q conn [] is e = refl
bodies_other q conn (b ∷ bs) is e = passed (q == conn) (b ∷ bodies_of q (map (item conn) bs ++ is)) (bodies_of q (map (item conn) bs ++ is)) e ∙ bodies_other q conn bs is e

frames_own : (q conn : ℕ) (fs : List (List ℕ)) (ts : List Sent) → (q == conn) ≡ true → frames_of q (map (sent conn) fs ++ ts) ≡ fs ++ frames_of q ts
frames_own q conn [] ts e = refl
frames_own q conn (f ∷ fs) ts e = picked (q == conn) (f ∷ frames_of q (map (sent conn) fs ++ ts)) (frames_of q (map (sent conn) fs ++ ts)) e ∙ ap (λ (xs : List (List ℕ)). f ∷ xs) (frames_own q conn fs ts e)

frames_other : (q conn : ℕ) (fs : List (List ℕ)) (ts : List Sent) → (q == conn) ≡ false → frames_of q (map (sent conn) fs ++ ts) ≡ frames_of q ts
frames_other q conn [] ts e = refl
frames_other q conn (f ∷ fs) ts e = passed (q == conn) (f ∷ frames_of q (map (sent conn) fs ++ ts)) (frames_of q (map (sent conn) fs ++ ts)) e ∙ frames_other q conn fs ts e

-- what a connection's events gather from a turn on, at it and at another one
pub gathered_own : (at : Line → Event → List ℕ) (lines : ℕ → Line) (q conn : ℕ) (es fs : List Event) → (q == conn) ≡ true
    → gathered at (lines q) ((if q == conn then es else []) ++ fs) ≡ gathered at (lines conn) es ++ gathered at (changed lines conn (run (lines conn) es) q) fs
gathered_own at lines q conn es fs e =
    ap (λ (xs : List Event). gathered at (lines q) (xs ++ fs)) (picked (q == conn) es [] e)
    ∙ ap (λ (x : ℕ). gathered at (lines x) (es ++ fs)) (eqb-true q conn e)
    ∙ gathered-append at (lines conn) es fs
    ∙ ap (λ (l : Line). gathered at (lines conn) es ++ gathered at l fs) (sym (picked (q == conn) (run (lines conn) es) (lines q) e))

pub gathered_other : (at : Line → Event → List ℕ) (lines : ℕ → Line) (q conn : ℕ) (es fs : List Event) → (q == conn) ≡ false
    → gathered at (lines q) ((if q == conn then es else []) ++ fs) ≡ gathered at (changed lines conn (run (lines conn) es) q) fs
gathered_other at lines q conn es fs e =
    ap (λ (xs : List Event). gathered at (lines q) (xs ++ fs)) (passed (q == conn) es [] e)
    ∙ ap (λ (l : Line). gathered at l fs) (sym (passed (q == conn) (run (lines conn) es) (lines q) e))

pub line_kept : (lines : ℕ → Line) (conn : ℕ) (line : Line) (q : ℕ) → q ≢ conn → changed lines conn line q ≡ lines q
line_kept lines conn line q n = passed (q == conn) line (lines q) (not_there q conn n)

pub record Serving (lines : ℕ → Line) (acts : List Act) (h h' : HubState) : Type 0 where
  pub items : List Item
  pub runs : Run h.tenants items (told_in acts) h'.tenants
  pub own : (q : ℕ) → IsKept q acts → (s : List ℕ) (ds : List (Option (List ℕ))) → Stands q s ds h → Stands q (s ++ taken (lines q) (events_of q acts)) (ds ++ bodies_of q items) h'
  pub replied_is : (q : ℕ) → IsKept q acts → replied (lines q) (events_of q acts) ≡ joined (frames_of q (told_in acts))

-- a turn at the connection itself, and at another one
own_turn : (lines : ℕ → Line) (conn : ℕ) (es : List Event) (acts : List Act) (h mid h' : HubState) (a : Answering conn (lines conn) es h mid) (r : Serving (lines_after lines (Turned conn es)) acts mid h')
    → (q : ℕ) → IsKept q acts → (q == conn) ≡ true → (s : List ℕ) (ds : List (Option (List ℕ))) → Stands q s ds h → Stands q (s ++ taken (lines q) (events_of q (Turned conn es ∷ acts))) (ds ++ bodies_of q (map (item conn) a.bodies ++ r.items)) h'
own_turn lines conn es acts h mid h' a r q k e s ds x =
    let p : q ≡ conn = eqb-true q conn e in
    let next : Line = changed lines conn (run (lines conn) es) q in
    let y : Stands q (s ++ taken (lines conn) es) (ds ++ a.bodies) mid = subst (λ (c : ℕ). Stands c (s ++ taken (lines conn) es) (ds ++ a.bodies) mid) (sym p) (a.here s ds (subst (λ (c : ℕ). Stands c s ds h) p x)) in
    at_same q ((s ++ taken (lines conn) es) ++ taken next (events_of q acts)) (s ++ taken (lines q) (events_of q (Turned conn es ∷ acts)))
    ((ds ++ a.bodies) ++ bodies_of q r.items) (ds ++ bodies_of q (map (item conn) a.bodies ++ r.items)) h'
    (append_assoc s (taken (lines conn) es) (taken next (events_of q acts)) ∙ ap (λ (xs : List ℕ). s ++ xs) (sym (gathered_own taken_at lines q conn es (events_of q acts) e)))
    (append_assoc ds a.bodies (bodies_of q r.items) ∙ ap (λ (xs : List (Option (List ℕ))). ds ++ xs) (sym (bodies_own q conn a.bodies r.items e)))
    (r.own q k (s ++ taken (lines conn) es) (ds ++ a.bodies) y)

other_turn : (lines : ℕ → Line) (conn : ℕ) (es : List Event) (acts : List Act) (h mid h' : HubState) (a : Answering conn (lines conn) es h mid) (r : Serving (lines_after lines (Turned conn es)) acts mid h')
    → (q : ℕ) → IsKept q acts → (q == conn) ≡ false → (s : List ℕ) (ds : List (Option (List ℕ))) → Stands q s ds h → Stands q (s ++ taken (lines q) (events_of q (Turned conn es ∷ acts))) (ds ++ bodies_of q (map (item conn) a.bodies ++ r.items)) h'
other_turn lines conn es acts h mid h' a r q k e s ds x =
    let next : Line = changed lines conn (run (lines conn) es) q in
    at_same q (s ++ taken next (events_of q acts)) (s ++ taken (lines q) (events_of q (Turned conn es ∷ acts))) (ds ++ bodies_of q r.items) (ds ++ bodies_of q (map (item conn) a.bodies ++ r.items)) h'
    (ap (λ (xs : List ℕ). s ++ xs) (sym (gathered_other taken_at lines q conn es (events_of q acts) e)))
    (ap (λ (xs : List (Option (List ℕ))). ds ++ xs) (sym (bodies_other q conn a.bodies r.items e)))
    (r.own q k s ds (kept_at q s ds h mid (a.elsewhere q (eqb-false q conn e)) x))

replied_turn : (lines : ℕ → Line) (conn : ℕ) (es : List Event) (acts : List Act) (h mid h' : HubState) (a : Answering conn (lines conn) es h mid) (r : Serving (lines_after lines (Turned conn es)) acts mid h')
    → (q : ℕ) → IsKept q acts → (b : Bool) → (q == conn) ≡ b → replied (lines q) (events_of q (Turned conn es ∷ acts)) ≡ joined (frames_of q (told_in (Turned conn es ∷ acts)))
replied_turn lines conn es acts h mid h' a r q k true e =
    gathered_own replied_at lines q conn es (events_of q acts) e
    ∙ ap (λ (xs : List ℕ). xs ++ replied (changed lines conn (run (lines conn) es) q) (events_of q acts)) a.replied_is
    ∙ ap (λ (xs : List ℕ). joined (replies_in es) ++ xs) (r.replied_is q k)
    ∙ sym (joined-append (replies_in es) (frames_of q (told_in acts)))
    ∙ ap joined (sym (frames_own q conn (replies_in es) (told_in acts) e))
replied_turn lines conn es acts h mid h' a r q k false e =
    gathered_other replied_at lines q conn es (events_of q acts) e ∙ r.replied_is q k ∙ ap joined (sym (frames_other q conn (replies_in es) (told_in acts) e))

pub serving : (w : Standing) (lines : ℕ → Line) (acts : List Act) (h h' : HubState) → AllHappen lines acts h h' → Serving lines acts h h'
serving w lines [] h h' e = record {
  items = [];
  runs = ap (λ (x : HubState). x.tenants) e;
  own = λ q k s ds x. kept_at q (s ++ []) (ds ++ []) h h' (ap (λ (y : HubState). session q y.sessions) e) (at_same q s (s ++ []) ds (ds ++ []) h (sym (append-nil s)) (sym (append-nil ds)) x);
  replied_is = λ q k. refl;
}
serving w lines (Opened conn ∷ acts) h h' d =
    let r : Serving (lines_after lines (Opened conn)) acts d.0 h' = serving w (lines_after lines (Opened conn)) acts d.0 h' d.2 in
    record {
      items = r.items;
      runs = subst (λ (os : Tenancy). Run os r.items (told_in acts) h'.tenants) d.1.tenants_stay r.runs;
      own = λ q k s ds x. at_same q (s ++ taken (changed lines conn fresh q) (events_of q acts)) (s ++ taken (lines q) (events_of q acts)) (ds ++ bodies_of q r.items) (ds ++ bodies_of q r.items) h'
          (ap (λ (l : Line). s ++ taken l (events_of q acts)) (line_kept lines conn fresh q k.0)) refl
          (r.own q k.1 s ds (kept_at q s ds h d.0 (sets_others conn (Some fresh_framing) h.sessions d.0.sessions d.1.sets q k.0) x));
      replied_is = λ q k. ap (λ (l : Line). replied l (events_of q acts)) (sym (line_kept lines conn fresh q k.0)) ∙ r.replied_is q k.1;
    }
serving w lines (Turned conn es ∷ acts) h h' d =
    let a : Answering conn (lines conn) es h d.0 = answering w conn (lines conn) es h d.0 d.1 in
    let r : Serving (lines_after lines (Turned conn es)) acts d.0 h' = serving w (lines_after lines (Turned conn es)) acts d.0 h' d.2 in
    record {
      items = map (item conn) a.bodies ++ r.items;
      runs = run-append (map (item conn) a.bodies) r.items (map (sent conn) (replies_in es)) (told_in acts) h.tenants d.0.tenants h'.tenants a.runs r.runs;
      own = λ q k. elim (cases_Bool (q == conn)) [
        | inl e ↦ own_turn lines conn es acts h d.0 h' a r q k.1 e
        | inr e ↦ other_turn lines conn es acts h d.0 h' a r q k.1 e
      ];
      replied_is = λ q k. replied_turn lines conn es acts h d.0 h' a r q k.1 (q == conn) refl;
    }
serving w lines (Closed conn ∷ acts) h h' d =
    let r : Serving lines acts d.0 h' = serving w lines acts d.0 h' d.2 in
    record {
      items = r.items;
      runs = subst (λ (os : Tenancy). Run os r.items (told_in acts) h'.tenants) d.1.tenants_stay r.runs;
      own = λ q k s ds x. r.own q k.1 s ds (kept_at q s ds h d.0 (sets_others conn None h.sessions d.0.sessions d.1.sets q k.0) x);
      replied_is = λ q k. r.replied_is q k.1;
    }
serving w lines (Drained conn ∷ acts) h h' d =
    let r : Serving lines acts d.0 h' = serving w lines acts d.0 h' d.2 in
    record {
      items = r.items;
      runs = subst (λ (x : HubState). Run x.tenants r.items (told_in acts) h'.tenants) d.1 r.runs;
      own = λ q k s ds x. r.own q k.1 s ds (kept_at q s ds h d.0 (ap (λ (y : HubState). session q y.sessions) d.1) x);
      replied_is = λ q k. r.replied_is q k.1;
    }

-- ---- Acts before and behind

pub record Parted (w : Standing) (lines : ℕ → Line) (xs ys : List Act) (h h' : HubState) (d : AllHappen lines (xs ++ ys) h h') : Type 0 where
  pub mid : HubState
  pub first : AllHappen lines xs h mid
  pub last : AllHappen (all_lines_after lines xs) ys mid h'
  pub items_are : (serving w lines (xs ++ ys) h h' d).items ≡ (serving w lines xs h mid first).items ++ (serving w (all_lines_after lines xs) ys mid h' last).items

pub parted : (w : Standing) (lines : ℕ → Line) (xs ys : List Act) (h h' : HubState) (d : AllHappen lines (xs ++ ys) h h') → Parted w lines xs ys h h' d
unfolding serving
parted w lines [] ys h h' d = record { mid = h; first = refl; last = d; items_are = refl }
parted w lines (Opened conn ∷ xs) ys h h' d =
    let p : Parted w (lines_after lines (Opened conn)) xs ys d.0 h' d.2 = parted w (lines_after lines (Opened conn)) xs ys d.0 h' d.2 in
    record { mid = p.mid; first = (d.0, d.1, p.first); last = p.last; items_are = p.items_are }
parted w lines (Turned conn es ∷ xs) ys h h' d =
    let p : Parted w (lines_after lines (Turned conn es)) xs ys d.0 h' d.2 = parted w (lines_after lines (Turned conn es)) xs ys d.0 h' d.2 in
    let is : List Item = map (item conn) (answering w conn (lines conn) es h d.0 d.1).bodies in
    record {
      mid = p.mid;
      first = (d.0, d.1, p.first);
      last = p.last;
      items_are = ap (λ (js : List Item). is ++ js) p.items_are ∙ sym (append_assoc is (serving w (lines_after lines (Turned conn es)) xs d.0 p.mid p.first).items (serving w (all_lines_after (lines_after lines (Turned conn es)) xs) ys p.mid h' p.last).items);
    }
parted w lines (Closed conn ∷ xs) ys h h' d =
    let p : Parted w lines xs ys d.0 h' d.2 = parted w lines xs ys d.0 h' d.2 in
    record { mid = p.mid; first = (d.0, d.1, p.first); last = p.last; items_are = p.items_are }
parted w lines (Drained conn ∷ xs) ys h h' d =
    let p : Parted w lines xs ys d.0 h' d.2 = parted w lines xs ys d.0 h' d.2 in
    record { mid = p.mid; first = (d.0, d.1, p.first); last = p.last; items_are = p.items_are }

run-length : (is : List Item) (ts : List Sent) (old new : Tenancy) → Run old is ts new → length is ≡ length ts
run-length [] [] old new r = refl
run-length [] (t ∷ ts) old new r = absurd r
run-length (i ∷ is) [] old new r = absurd r
run-length (i ∷ is) (t ∷ ts) old new r = ap suc (run-length is ts r.0 new r.3)

-- ---- The law

-- what the laws of the lower crates say
pub record Lower : Type 0 where
  pub standing : Standing
  pub order : (es : List Event) → sent_by fresh es ++ lost fresh es ++ (run fresh es).owed ≡ replied fresh es
  pub some : (es : List Event) → (declined : List ℕ) × (read fresh es ≡ taken fresh es ++ declined)
  pub apart : RunsApart

one_served : (w : Lower) (lines : ℕ → Line) (acts : List Act) (h h' : HubState) (r : Serving lines acts h h') (q : ℕ) → lines q ≡ fresh → session q h.sessions ≡ Some fresh_framing → IsKept q acts → IsServed q r.items (told_in acts) (events_of q acts)
one_served w lines acts h h' r q line was k =
    let es : List Event = events_of q acts in
    let x : Stands q (taken (lines q) es) (bodies_of q r.items) h' = r.own q k [] [] (record { framing = fresh_framing; was = was; stands = w.standing.start }) in
    let t : (declined : List ℕ) × (read fresh es ≡ taken fresh es ++ declined) = w.some es in
    let f : (waiting : List (Option (List ℕ))) × (items_in q (taken (lines q) es ++ t.0) ≡ map (item q) (bodies_of q r.items ++ waiting)) = w.standing.first q (taken (lines q) es) t.0 (bodies_of q r.items) x.framing x.stands in
    record {
      waiting = f.0;
      first = ap (items_in q) (t.1 ∙ ap (λ (l : Line). taken l es ++ t.0) (sym line)) ∙ f.1;
      bytes = w.order es ∙ ap (λ (l : Line). replied l es) (sym line) ∙ r.replied_is q k;
    }

-- what was served of a connection from where it is opened on
in_session : (w : Lower) (lines : ℕ → Line) (q : ℕ) (before mid behind : List Act) (h h' : HubState) (d : AllHappen lines (before ++ (Opened q ∷ mid ++ behind)) h h') → IsKept q mid → SessionIn q (serving w.standing lines (before ++ (Opened q ∷ mid ++ behind)) h h' d).items before mid
unfolding serving
in_session w lines q before mid behind h h' d k =
    let p : Parted w.standing lines before (Opened q ∷ mid ++ behind) h h' d = parted w.standing lines before (Opened q ∷ mid ++ behind) h h' d in
    let opened : ℕ → Line = lines_after (all_lines_after lines before) (Opened q) in
    let start : HubState = p.last.0 in
    let r : Parted w.standing opened mid behind start h' p.last.2 = parted w.standing opened mid behind start h' p.last.2 in
    let first : Serving lines before h p.mid = serving w.standing lines before h p.mid p.first in
    let while : Serving opened mid start r.mid = serving w.standing opened mid start r.mid r.first in
    let late : Serving (all_lines_after opened mid) behind r.mid h' = serving w.standing (all_lines_after opened mid) behind r.mid h' r.last in
    record {
      ahead = first.items;
      own = while.items;
      rest = late.items;
      items_are = p.items_are ∙ ap (λ (js : List Item). first.items ++ js) r.items_are ∙ sym (append_assoc first.items while.items late.items);
      ahead_told = run-length first.items (told_in before) h.tenants p.mid.tenants first.runs;
      own_told = run-length while.items (told_in mid) start.tenants r.mid.tenants while.runs;
      served = one_served w opened mid start r.mid while q (picked (q == q) fresh (all_lines_after lines before q) ((Decides-eqb q q).1 refl)) (sets_here q (Some fresh_framing) p.mid.sessions start.sessions p.last.1.sets) k;
    }

session_in : (w : Lower) (lines : ℕ → Line) (acts : List Act) (h h' : HubState) (d : AllHappen lines acts h h') (q : ℕ) (before mid behind : List Act) → acts ≡ before ++ (Opened q ∷ mid ++ behind) → IsKept q mid → SessionIn q (serving w.standing lines acts h h' d).items before mid
session_in w lines acts h h' d q before mid behind e k =
    subst (λ (xs : List Act). (x : AllHappen lines xs h h') → SessionIn q (serving w.standing lines xs h h' x).items before mid) (sym e) (λ x. in_session w lines q before mid behind h h' x k) d

pub all_served : (w : Lower) (lines : ℕ → Line) (acts : List Act) (h h' : HubState) → AllHappen lines acts h h' → Serves lines h acts h'
all_served w lines acts h h' d =
    let r : Serving lines acts h h' = serving w.standing lines acts h h' d in
    record {
      items = r.items;
      runs = r.runs;
      each = one_served w lines acts h h' r;
      sessions = session_in w lines acts h h' d;
      apart = λ key m e. w.apart r.items (told_in acts) h.tenants h'.tenants key m r.runs e;
    }
