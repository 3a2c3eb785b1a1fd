-- An event on a connection.
use Rattle.std.proofs.Common.{◌≡◌, ℕ, Bool, true, false, List, [], ◌∷◌, ◌++◌, map, sym, ap, ◌∙◌, subst, refl, Option, Some, None, cond, eqb, arith, ◌<◌, ◌≢◌, length, inl, inr}
use Rattle.std.proofs.lemmas.List.{append-nil, map-append}
use Rattle.std.proofs.lemmas.Bool.{false≢true}
use Rattle.std.proofs.lemmas.Bool.Decides.{nat_tests}
use Rattle.std.specs.Ordering.{nat_cmp}
use Rattle.std.specs.Option.{option_map}
use Rattle.std.specs.Map.{lookup, set_value}
use Rattle.std.specs.BTreeMap.{is_at}
use Rattle.wire_frames.specs.Frames.{is_broken, split, Split, front, is_fault}
use Rattle.wire_frames.specs.Splitting.{Splitting}
use Rattle.wire_frames.specs.Framing.{Framing, with_piece}
use Rattle.path_hub.specs.declared.event.Event.{Event}
use Rattle.path_hub.specs.declared.event.Reply.{Reply}
use Rattle.tenant_map.specs.Tenancy.{Tenancy}
use Rattle.path_hub.specs.Items.{Streams, items_of, opened}
use Rattle.path_hub.specs.Runs.{Run}
use Rattle.path_hub.specs.Pending.{IsSound, IsDue, pending, item, told, AnswersSome}
use Rattle.path_hub.specs.HubState.{HubState, state}
use Rattle.path_hub.specs.declared.event.Event.TheVariants.{Connect}
use Rattle.path_hub.specs.Sessions.{Applies, AppliesSome, Sessions, session, Settled, AgreeAt, Agree, Replies, Feeds, FeedsSome, Sets, opened_session}
use Rattle.path_hub.proofs.Loop.{pending_due}
use Rattle.path_hub.proofs.Settling.{new_closed, settled_closed, pending_piece, settled_piece}

pub same_test : (c q : ℕ) → is_at (nat_cmp c) q ≡ eqb q c
same_test c q = grind (arith, nat_tests)

-- one connection changes, on both sides
pub agree_sets : (s : Streams) (ss ss' : Sessions) (c : ℕ) (x : Option (List ℕ)) (v : Option Framing) → Agree s ss → Sets c v ss ss' → AgreeAt x v → Agree (λ q. cond (eqb q c) x (s q)) ss'
agree_sets s ss ss' c x v a sets here = record { at = λ q. subst (λ w. AgreeAt (cond (eqb q c) x (s q)) w) (sym (sets q ∙ ap (λ b. cond b v (session q ss)) (same_test c q))) (by q (eqb q c)) }
  where
    by : (q : ℕ) (b : Bool) → AgreeAt (cond b x (s q)) (cond b v (session q ss))
    by q true = here
    by q false = a.at q

pub no_replies : (os : Tenancy) (out : List Reply) → Replies os out [] os out
no_replies os out = record { replies = []; out = sym (append-nil out); run = refl }

-- a piece for a closed connection
settled_at : (s : Streams) (ss : Sessions) (c : ℕ) (f : Framing) (o : Option (List ℕ)) → s c ≡ o → Agree s ss → session c ss ≡ Some f → (x : List ℕ) × (s c ≡ Some x) × Settled x f
settled_at s ss c f None e a h = absurd (subst (λ w. AgreeAt None w) h (subst (λ y. AgreeAt y (session c ss)) e (a.at c)))
settled_at s ss c f (Some x) e a h = (x, e, subst (λ w. AgreeAt (Some x) w) h (subst (λ y. AgreeAt y (session c ss)) e (a.at c)))

pub feeds_closed : (laws : Splitting) (c : ℕ) (p : List ℕ) (ss ss' : Sessions) (os : Tenancy) (out : List Reply) (f : Framing) → session c ss ≡ Some f → f.closed ≡ true → Sets c (Some f) ss ss' → Feeds c p ss os out ss' os out
feeds_closed laws c p ss ss' os out f h k sets s a =
    let z = settled_at s ss c f (s c) refl a h in
    let none : items_of c (s c) p ≡ [] = ap (λ o. items_of c o p) z.1 ∙ ap (map (item c)) (new_closed laws z.0 p (sym z.2.closed ∙ k)) in
    let t : option_map (λ stream. stream ++ p) (s c) ≡ Some (z.0 ++ p) = ap (option_map (λ stream. stream ++ p)) z.1 in (
      subst (λ x. Agree (λ q. cond (eqb q c) x (s q)) ss') (sym t) (agree_sets s ss ss' c (Some (z.0 ++ p)) (Some f) a sets (settled_closed laws z.0 p f z.2 k)),
      subst (λ is. Replies os out is os out) (sym none) (no_replies os out),
    )

items_pending : (laws : Splitting) (c : ℕ) (p : List ℕ) (s : Streams) (x : List ℕ) (f g : Framing) → s c ≡ Some x → Settled x f → f.closed ≡ false → g ≡ with_piece f p → items_of c (s c) p ≡ map (item c) (pending g)
items_pending laws c p s x f g e z k w = ap (λ o. items_of c o p) e ∙ sym (ap (map (item c)) (pending_piece laws x p f g z k (ap (λ (y : Framing). y.waiting) w) (ap (λ (y : Framing). y.closed) w ∙ k)))

pub feeds_open : (laws : Splitting) (c : ℕ) (p : List ℕ) (ss ss' : Sessions) (os os' : Tenancy) (out out' : List Reply) (f g f' : Framing) → session c ss ≡ Some f → f.closed ≡ false → g ≡ with_piece f p → Sets c (Some f') ss ss'
    → AnswersSome c g os out f' os' out' → pending f' ≡ [] → Feeds c p ss os out ss' os' out'
feeds_open laws c p ss ss' os os' out out' f g f' h k w sets n none s a =
    let z = settled_at s ss c f (s c) refl a h in
    let gw = ap (λ (y : Framing). y.waiting) w in
    let gc = ap (λ (y : Framing). y.closed) w ∙ k in
    let all : pending g ≡ n.done = n.pending_is ∙ ap (λ bs. n.done ++ bs) none ∙ append-nil n.done in
    let is : items_of c (s c) p ≡ map (item c) n.done = items_pending laws c p s z.0 f g z.1 z.2 k w ∙ ap (map (item c)) all in
    let sound : IsSound f' = n.sound (λ e. absurd (false≢true (sym gc ∙ e))) in
    let t : option_map (λ stream. stream ++ p) (s c) ≡ Some (z.0 ++ p) = ap (option_map (λ stream. stream ++ p)) z.1 in (
      subst (λ x. Agree (λ q. cond (eqb q c) x (s q)) ss') (sym t) (agree_sets s ss ss' c (Some (z.0 ++ p)) (Some f') a sets (settled_piece laws z.0 p f g f' z.2 k gw gc sound none n.rest_is)),
      record { replies = n.replies; out = n.out; run = subst (λ xs. Run os xs (map told n.replies) os') (sym is) n.run },
    )

-- what is due is among what is pending
some_items : (c : ℕ) (bs : List (Option (List ℕ))) → bs ≢ [] → map (item c) bs ≢ []
some_items c [] n = absurd (n refl)
some_items c (b ∷ bs) n = λ e. absurd cc

pub feeds_some : (laws : Splitting) (c : ℕ) (p : List ℕ) (ss : Sessions) (os os' : Tenancy) (out out' : List Reply) (f g f' : Framing) → session c ss ≡ Some f → f.closed ≡ false → g ≡ with_piece f p
    → AnswersSome c g os out f' os' out' → IsDue f' → FeedsSome c p ss os out os' out'
feeds_some laws c p ss os os' out out' f g f' h k w n due s a =
    let z = settled_at s ss c f (s c) refl a h in
    record {
      first = map (item c) n.done;
      others = map (item c) (pending f');
      items_are = items_pending laws c p s z.0 f g z.1 z.2 k w ∙ ap (map (item c)) n.pending_is ∙ map-append (item c) n.done (pending f');
      told_first = record { replies = n.replies; out = n.out; run = n.run };
      wanted = inl (some_items c (pending f') (pending_due laws f' due));
    }

-- a piece that is not taken
pub feeds_none : (c : ℕ) (p : List ℕ) (ss : Sessions) (os : Tenancy) (out : List Reply) → 0 < length p → FeedsSome c p ss os out os out
feeds_none c p ss os out some s a = record { first = []; others = items_of c (s c) p; items_are = refl; told_first = no_replies os out; wanted = inr (refl, some) }

-- the empty stream holds nothing
pub empty_split : (laws : Splitting) → split [] ≡ record { frames = []; rest = [] }
empty_split laws = laws.wait [] (laws.short [] (omega arith))

pub empty_broken : (laws : Splitting) → is_broken [] ≡ false
empty_broken laws = ap (λ (x : Split). is_fault (front x.rest)) (empty_split laws) ∙ ap is_fault (laws.short [] (omega arith))

-- a connection that opens
opened_at : (laws : Splitting) (x : Option (List ℕ)) (v : Option Framing) → AgreeAt x v → AgreeAt (opened x) (opened_session v)
opened_at laws None None a = record { closed = sym (empty_broken laws); waiting = λ e. sym (ap (λ (x : Split). x.rest) (empty_split laws)); sound = λ e. absurd (false≢true e) }
opened_at laws None (Some f) a = absurd a
opened_at laws (Some x) None a = absurd a
opened_at laws (Some x) (Some f) a = a

pub agree_opened : (laws : Splitting) (s : Streams) (ss ss' : Sessions) (c : ℕ) → Agree s ss → Sets c (opened_session (session c ss)) ss ss' → Agree (λ q. cond (eqb q c) (opened (s c)) (s q)) ss'
agree_opened laws s ss ss' c a sets = agree_sets s ss ss' c (opened (s c)) (opened_session (session c ss)) a sets (opened_at laws (s c) (session c ss) (a.at c))

-- a value that is written back as it was
pub set_value_same : {K X : Type 0} (test : K → Bool) (es : List (K × X)) (v : X) → lookup test es ≡ Some v → set_value test es v ≡ es
set_value_same test [] v h = refl
set_value_same {K} {X} test (e ∷ es) v h =
    elim (test e.0) as (λ b. cond b (Some e.1) (lookup test es) ≡ Some v → cond b ((e.0, v) ∷ es) (e ∷ set_value test es v) ≡ e ∷ es) [
      | true ↦ λ (i : Some e.1 ≡ Some v). let w : e.1 ≡ v = cc in ap (λ (x : X). (e.0, x) ∷ es) (sym w)
      | false ↦ λ i. ap (λ xs. e ∷ xs) (set_value_same test es v i)
    ] h

-- a connection that is free has no stream
free_at : (x : Option (List ℕ)) (v : Option Framing) → AgreeAt x v → v ≡ None → x ≡ None
free_at None v a e = refl
free_at (Some x) None a e = absurd a
free_at (Some x) (Some f) a e = absurd cc

pub connects_some : (e : Event) (conn : ℕ) (ss : Sessions) (os : Tenancy) (out : List Reply) (h : HubState) → e ≡ Connect conn → state ss os ≡ h → session conn ss ≡ None → AppliesSome e h.sessions h.tenants out os out
connects_some e conn ss os out h i v free = subst (λ (x : Event). AppliesSome x h.sessions h.tenants out os out) (sym i)
    (subst (λ (x : HubState). AppliesSome (Connect conn) x.sessions x.tenants out os out) v
    (λ s a. record { first = []; others = []; items_are = refl; told_first = no_replies os out; wanted = free_at (s conn) (session conn ss) (a.at conn) free }))

-- a connection is opened where it was free
pub connects : (laws : Splitting) (e : Event) (conn : ℕ) (ss ss' : Sessions) (os : Tenancy) (out : List Reply) (h : HubState) → e ≡ Connect conn → state ss os ≡ h → Sets conn (opened_session (session conn ss)) ss ss' → Applies e h.sessions h.tenants out ss' os out
connects laws e conn ss ss' os out h i v sets = subst (λ (x : Event). Applies x h.sessions h.tenants out ss' os out) (sym i)
    (subst (λ (x : HubState). Applies (Connect conn) x.sessions x.tenants out ss' os out) v (λ s a. (agree_opened laws s ss ss' conn a sets, no_replies os out)))
