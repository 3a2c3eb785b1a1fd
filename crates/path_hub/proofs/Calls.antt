-- The calls of the hub on one connection.
use Rattle.std.proofs.Common.{◌≡◌, ◌<◌, ◌++◌, ℕ, Bool, true, false, List, sym, ap, ◌∙◌, subst, refl, Option, Some, None, cond, Ok, Err, Result}
use Rattle.std.specs.Prelude.{OnErr, IfOk}
use Rattle.std.specs.Bool.{MatchBool}
use Rattle.std.specs.Map.{set_value}
use Rattle.std.specs.Ordering.{nat_cmp}
use Rattle.std.specs.BTreeMap.{is_at}
use Rattle.std.proofs.lemmas.Bool.{false≢true}
use Rattle.std.proofs.lemmas.Option.{same_Some}
use Rattle.wire_frames.specs.declared.framing.Next.TheVariants.{Frame}
use Rattle.wire_frames.specs.Frames.{Front, Whole, Wait, Fault, front}
use Rattle.wire_frames.specs.NextFrame.{next_of, next_at}
use Rattle.wire_frames.specs.Framing.{Framing, with_piece, framing_after, after_at}
use Rattle.wire_frames.specs.Splitting.{Splitting}
use Rattle.tenant_map.specs.Tenancy.{Tenancy}
use Rattle.path_hub.specs.Sessions.{Sessions, session, Sets}
use Rattle.request_replies.specs.Tenants.{Serves, Step}
use Rattle.path_hub.specs.Pending.{Answered, IsIdle, IsDue, Takes, pending}
use Rattle.path_hub.specs.Into.{AnswersInto, TakesPiece, IsTaken, AnswersOne, AnswersNone, HasDue}
use Rattle.path_hub.specs.HubState.{HubState, state}
use Rattle.path_hub.proofs.Loop.{into_none, into_more, pending_idle, left_falls, left}
use Rattle.path_hub.proofs.Feeding.{set_value_same}
use Rattle.path_hub.proofs.Pieces.{sets_here}

-- a session that is written back as it was
pub kept : (conn : ℕ) (ss ss' : Sessions) (f g : Framing) → session conn ss ≡ Some f → g ≡ f → ss' ≡ set_value (is_at (nat_cmp conn)) ss g → ss' ≡ ss
kept conn ss ss' f g h e w = w ∙ ap (set_value (is_at (nat_cmp conn)) ss) e ∙ set_value_same (is_at (nat_cmp conn)) ss f h

pub not_closed : (b : Bool) → (b ≡ true → ⊥) → b ≡ false
not_closed true h = absurd (h refl)
not_closed false h = refl

-- one step of a connection is one of the hub
pub one_step : (laws : Splitting) (conn : ℕ) (ss ss' : Sessions) (os os' : Tenancy) (f f' : Framing) (before after : List ℕ) (more : Bool) → session conn ss ≡ Some f → Sets conn (Some f') ss ss' → (f' ≡ f → ss' ≡ ss)
    → MatchBool more (Answered f os before f' os' after) (IsIdle f os before f' os' after) → MatchBool more (AnswersOne conn (state ss os) before (state ss' os') after) (AnswersNone conn (state ss os) before (state ss' os') after)
one_step laws conn ss ss' os os' f f' before after true h sets stay a = record { framing = f; was = h; left = f'; sets = sets; answered = a }
one_step laws conn ss ss' os os' f f' before after false h sets stay i = record {
  none = λ g e. ap pending (same_Some g f (sym e ∙ h)) ∙ pending_idle laws f i.none;
  same = ap (λ x. state x os') (stay i.framing) ∙ ap (state ss) i.tenants;
  out = i.out;
}

pub steps : {E : Type 0} (laws : Splitting) (conn : ℕ) (ss ss' : Sessions) (os os' : Tenancy) (f f' : Framing) (before after : List ℕ) (r : Result Bool E) → session conn ss ≡ Some f → Sets conn (Some f') ss ss' → (f' ≡ f → ss' ≡ ss)
    → IfOk r (λ more. MatchBool more (Answered f os before f' os' after) (IsIdle f os before f' os' after)) → IfOk r (λ more. MatchBool more (AnswersOne conn (state ss os) before (state ss' os') after) (AnswersNone conn (state ss os) before (state ss' os') after))
steps laws conn ss ss' os os' f f' before after (Ok more) h sets stay a = one_step laws conn ss ss' os os' f f' before after more h sets stay a
steps laws conn ss ss' os os' f f' before after (Err e) h sets stay a = a

pub refused_step : {A E : Type 0} (ss ss' : Sessions) (os os' : Tenancy) (f f' : Framing) (r : Result A E) → (f' ≡ f → ss' ≡ ss) → OnErr r (f' ≡ f) → OnErr r (os' ≡ os) → OnErr r (state ss' os' ≡ state ss os)
refused_step ss ss' os os' f f' (Ok a) stay x y = x
refused_step ss ss' os os' f f' (Err e) stay x y = ap (λ s. state s os') (stay x) ∙ ap (state ss) y

-- what is due on a framer is due on its connection
pub due_there : {A E : Type 0} (conn : ℕ) (ss : Sessions) (os : Tenancy) (f : Framing) (r : Result A E) → session conn ss ≡ Some f → OnErr r (IsDue f) → OnErr r (HasDue conn (state ss os))
due_there conn ss os f (Ok a) h d = d
due_there conn ss os f (Err e) h d = record { framing = f; was = h; due = d }

-- ---- A piece, taken and answered step by step

pub taken_none : (conn : ℕ) (piece : List ℕ) (old new : HubState) (before : List ℕ) → IsTaken conn piece old new → TakesPiece conn piece old before new before false
taken_none conn piece old new before t = record {
  framing = t.framing;
  was = t.was;
  open' = t.open';
  left = with_piece t.framing piece;
  sets = t.sets;
  answers = subst (λ os. AnswersInto conn (with_piece t.framing piece) old.tenants before (with_piece t.framing piece) os before) (sym t.tenants_stay) (into_none conn (with_piece t.framing piece) old.tenants before);
  all_is = λ e. absurd (false≢true e);
}

-- a session that is set again
sets_again : (conn : ℕ) (f g : Framing) (ss mid ss' : Sessions) → Sets conn (Some f) ss mid → Sets conn (Some g) mid ss' → Sets conn (Some g) ss ss'
sets_again conn f g ss mid ss' a b q = b q ∙ ap (cond (is_at (nat_cmp conn) q) (Some g)) (a q) ∙ twice (is_at (nat_cmp conn) q)
  where
    twice : (x : Bool) → cond x (Some g) (cond x (Some f) (session q ss)) ≡ cond x (Some g) (session q ss)
    twice true = refl
    twice false = refl

pub taken_more : (laws : Splitting) (conn : ℕ) (piece : List ℕ) (old mid new : HubState) (before out out' : List ℕ) → TakesPiece conn piece old before mid out false → AnswersOne conn mid out new out' → TakesPiece conn piece old before new out' false
taken_more laws conn piece old mid new before out out' t a =
    let same : a.framing ≡ t.left = same_Some a.framing t.left (sym a.was ∙ sets_here conn (Some t.left) old.sessions mid.sessions t.sets) in
    record {
      framing = t.framing;
      was = t.was;
      open' = t.open';
      left = a.left;
      sets = sets_again conn t.left a.left old.sessions mid.sessions new.sessions t.sets a.sets;
      answers = into_more laws conn (with_piece t.framing piece) t.left a.left old.tenants mid.tenants new.tenants before out out' t.answers (subst (λ f. Answered f mid.tenants out a.left new.tenants out') same a.answered);
      all_is = λ e. absurd (false≢true e);
    }

pub taken_all : (conn : ℕ) (piece : List ℕ) (old mid new : HubState) (before out out' : List ℕ) → TakesPiece conn piece old before mid out false → AnswersNone conn mid out new out' → TakesPiece conn piece old before new out' true
taken_all conn piece old mid new before out out' t n =
    subst (λ h. TakesPiece conn piece old before h out' true) (sym n.same) (subst (λ o. TakesPiece conn piece old before mid o true) (sym n.out) (record {
      framing = t.framing;
      was = t.was;
      open' = t.open';
      left = t.left;
      sets = t.sets;
      answers = t.answers;
      all_is = λ e. n.none t.left (sets_here conn (Some t.left) old.sessions mid.sessions t.sets);
    }))

pub taken_stays : (conn : ℕ) (piece : List ℕ) (old mid new : HubState) (before out out' : List ℕ) → TakesPiece conn piece old before mid out false → HasDue conn mid → new ≡ mid → out' ≡ out → TakesPiece conn piece old before new out' false × HasDue conn new
taken_stays conn piece old mid new before out out' t d e o = subst (λ h. TakesPiece conn piece old before h out' false × HasDue conn h) (sym e) (subst (λ x. TakesPiece conn piece old before mid x false) (sym o) t, d)

-- what is left on a connection falls
left_in : Option Framing → ℕ
left_in None = 0
left_in (Some f) = left f

pub left_at : ℕ → HubState → ℕ
left_at conn h = left_in (session conn h.sessions)

pub left_at_falls : (laws : Splitting) (conn : ℕ) (old new : HubState) (before after : List ℕ) → AnswersOne conn old before new after → left_at conn new < left_at conn old
unfolding left_at left_in
left_at_falls laws conn old new before after a =
    subst (λ n. left_in (session conn new.sessions) < left_in n) (sym a.was) (subst (λ n. left_in n < left a.framing) (sym (sets_here conn (Some a.left) old.sessions new.sessions a.sets)) (left_falls laws a.framing a.answered.body a.left a.answered.takes))

-- ---- A frame, served

pub taken_by : (f f' : Framing) (b : List ℕ) (x : Front) → front f.waiting ≡ x → f.closed ≡ false → Frame b ≡ next_at x → f' ≡ after_at x f → Takes f (Some b) f'
taken_by f f' b (Whole c m) e o n a =
    let same : b ≡ c = cc in
    let rest : m ≡ f'.waiting = sym (ap (λ (g : Framing). g.waiting) a) in
    (o, ap (λ (g : Framing). g.closed) a ∙ o, e ∙ ap (λ y. Whole y m) (sym same) ∙ ap (Whole b) rest)
taken_by f f' b Wait e o n a = absurd (cc)
taken_by f f' b Fault e o n a = absurd (cc)

pub answered : (f f' : Framing) (b s : List ℕ) (os os' : Tenancy) (before mid after : List ℕ) → f.closed ≡ false → Frame b ≡ next_of f → f' ≡ framing_after f → s ≡ b → mid ≡ before → Serves os s mid after os' → Answered f os before f' os' after
answered f f' b s os os' before mid after o n a e r g = record {
  body = Some b;
  frame = g.0;
  out = g.1 ∙ ap (λ xs. xs ++ g.0) r;
  step = subst (λ x. Step os x g.0 os') e g.2;
  takes = taken_by f f' b (front f.waiting) refl o n a;
}
