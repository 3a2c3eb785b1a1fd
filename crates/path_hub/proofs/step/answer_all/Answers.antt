use Rattle.std.proofs.Common.{◌≡◌, ◌<◌, ◌++◌, ◌∷◌, [], List, ℕ, Bool, true, false, cond, sym, ap, ◌∙◌, subst, refl, is_ok, ◌⊎◌, inl, inr}
use Rattle.std.specs.Bool.{MatchBool}
use Rattle.wire_frames.specs.Framing.{Framing}
use Rattle.wire_frames.specs.Splitting.{Splitting}
use Rattle.tenant_map.specs.Tenancy.{Tenancy}
use Rattle.path_hub.specs.declared.event.Reply.{Reply}
use Rattle.wire_frames.specs.Frames.{Wait, front}
use Rattle.path_hub.specs.Pending.{AnswersSome, Answered, IsDue, IsIdle}
use Rattle.path_hub.proofs.Loop.{some_none, some_more, left_falls, left}
use Rattle.path_hub.proofs.step.answer_all.Goals as goal

-- what is due is answered
is_answered : (b : Bool) (f : Framing) (os : Tenancy) (x : List ℕ) (f' : Framing) (os' : Tenancy) (y : List ℕ) → IsDue f → MatchBool b (Answered f os x f' os' y) (IsIdle f os x f' os' y) → Answered f os x f' os' y
is_answered true f os x f' os' y d a = a
is_answered false f os x f' os' y d i = absurd (by i.none)
  where
    by : (f.closed ≡ true) ⊎ (front f.waiting ≡ Wait) → ⊥
    by (inl e) = let n : true ≡ false = sym e ∙ d.open' in absurd cc
    by (inr e) = d.some e

falls : (laws : Splitting) (f : Framing) (os : Tenancy) (x : List ℕ) (f' : Framing) (os' : Tenancy) (y : List ℕ) → Answered f os x f' os' y → left f' < left f
falls laws f os x f' os' y a = left_falls laws f a.body f' a.takes

more : (laws : Splitting) (conn : ℕ) (f₀ f f' : Framing) (os₀ os os' : Tenancy) (out₀ out out' : List Reply) (x frame : List ℕ) (r : Reply) → AnswersSome conn f₀ os₀ out₀ f os out → Answered f os x f' os' frame → x ≡ [] → r.conn ≡ conn → r.frame.items ≡ frame → out' ≡ out ++ r ∷ [] → AnswersSome conn f₀ os₀ out₀ f' os' out'
more laws conn f₀ f f' os₀ os os' out₀ out out' x frame r a s e c k o = subst (λ z. AnswersSome conn f₀ os₀ out₀ f' os' z) (sym o) (some_more laws conn f₀ f f' os₀ os os' out₀ out frame r a (subst (λ z. Answered f os z f' os' frame) e s) c k)

pub frames-init : goal.frames-init
frames-init c = some_none c.args.conn c.args.framer.now c.args.tenants.now c.args.out.now.items

pub frames-smaller : goal.frames-smaller
frames-smaller c = falls c.splits_from_the_front.ensures c.frames.framer c.frames.tenants _ c.answer_next.new.framer c.answer_next.new.tenants _ (is_answered c.in_ok-answer_next.field-0 c.frames.framer c.frames.tenants _ c.answer_next.new.framer c.answer_next.new.tenants _ (c.if-not-is_due.ensures.due refl) c.in_ok-answer_next.ensures.step)

pub frames-preserved : goal.frames-preserved
frames-preserved c =
    let r : Reply = record { conn = c.args.conn; frame = c.answer_next.new.out } in
    let o : c.push.new.self.items ≡ c.reserve.new.self.items ++ r ∷ [] = c.push.ensures.items ∙ ap (λ b. cond b (c.reserve.new.self.items ++ r ∷ []) c.reserve.new.self.items) (ap is_ok c.unwrap.ensures) in
    more c.splits_from_the_front.ensures c.args.conn c.args.framer.now c.frames.framer c.answer_next.new.framer c.args.tenants.now c.frames.tenants c.answer_next.new.tenants c.args.out.now.items c.frames.out.items c.push.new.self.items c.new-frame.result.items c.answer_next.new.out.items r
    c.frames.invariant (is_answered c.in_ok-answer_next.field-0 c.frames.framer c.frames.tenants _ c.answer_next.new.framer c.answer_next.new.tenants _ (c.if-not-is_due.ensures.due refl) c.in_ok-answer_next.ensures.step) c.new-frame.ensures.items refl refl (o ∙ ap (λ xs. xs ++ r ∷ []) c.reserve.ensures.items)
