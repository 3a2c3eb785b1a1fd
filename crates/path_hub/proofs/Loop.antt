-- Answering what is pending, one step after another.
use Rattle.std.proofs.Common.{◌≡◌, ◌≢◌, ◌⊎◌, ℕ, ◌<◌, ◌+◌, Bool, true, false, List, [], ◌∷◌, ◌++◌, length, map, sym, ap, ◌∙◌, subst, refl, Option, Some, None, cond, inl, inr, arith}
use Rattle.std.proofs.lemmas.List.{append-nil, append_assoc, map_push, flat_map_more}
use Rattle.wire_frames.specs.Frames.{Front, Whole, Wait, Fault, front, Split, rest, is_fault}
use Rattle.wire_frames.specs.Splitting.{Splitting}
use Rattle.wire_frames.specs.Framing.{Framing}
use Rattle.tenant_map.specs.Tenancy.{Tenancy}
use Rattle.path_hub.specs.declared.event.Reply.{Reply}
use Rattle.path_hub.specs.Runs.{StepItem, Run}
use Rattle.path_hub.proofs.Alone.{run-append}
use Rattle.path_hub.specs.Into.{AnswersInto, sent}
use Rattle.path_hub.specs.Pending.{bodies_in, pending, IsDue, IsSound, Takes, Answered, item, told, AnswersSome}

bodies_by : Split → List (Option (List ℕ))
bodies_by s = map Some s.frames ++ cond (is_fault (front s.rest)) (None ∷ []) []

pub bodies_whole : (laws : Splitting) (w b v : List ℕ) → front w ≡ Whole b v → bodies_in w ≡ Some b ∷ bodies_in v
unfolding bodies_by
bodies_whole laws w b v h = ap bodies_by (laws.whole w b v h)

bodies_wait : (laws : Splitting) (w : List ℕ) → front w ≡ Wait → bodies_in w ≡ []
unfolding bodies_by
bodies_wait laws w h = ap bodies_by (laws.wait w h) ∙ ap (λ f. cond (is_fault f) (None ∷ []) []) h

pub bodies_fault : (laws : Splitting) (w : List ℕ) → front w ≡ Fault → bodies_in w ≡ None ∷ []
unfolding bodies_by
bodies_fault laws w h = ap bodies_by (laws.fault w h) ∙ ap (λ f. cond (is_fault f) (None ∷ []) []) h

pub pending_open : (f : Framing) → f.closed ≡ false → pending f ≡ bodies_in f.waiting
unfolding pending
pending_open f h = ap (λ b. cond b [] (bodies_in f.waiting)) h

pub pending_closed : (f : Framing) → f.closed ≡ true → pending f ≡ []
unfolding pending
pending_closed f h = ap (λ b. cond b [] (bodies_in f.waiting)) h

pub pending_takes : (laws : Splitting) (f : Framing) (body : Option (List ℕ)) (f' : Framing) → Takes f body f' → pending f ≡ body ∷ pending f'
pending_takes laws f (Some b) f' t = pending_open f t.0 ∙ bodies_whole laws f.waiting b f'.waiting t.2 ∙ ap (λ bs. Some b ∷ bs) (sym (pending_open f' t.1))
pending_takes laws f None f' t = pending_open f t.0 ∙ bodies_fault laws f.waiting t.2 ∙ ap (λ bs. None ∷ bs) (sym (pending_closed f' t.1))

pending_wait : (laws : Splitting) (f : Framing) → front f.waiting ≡ Wait → (b : Bool) → f.closed ≡ b → pending f ≡ []
pending_wait laws f h true e = pending_closed f e
pending_wait laws f h false e = pending_open f e ∙ bodies_wait laws f.waiting h

pub pending_idle : (laws : Splitting) (f : Framing) → (f.closed ≡ true) ⊎ (front f.waiting ≡ Wait) → pending f ≡ []
pending_idle laws f (inl c) = pending_closed f c
pending_idle laws f (inr w) = pending_wait laws f w f.closed refl

cons_some : (b : Option (List ℕ)) (bs : List (Option (List ℕ))) → (b ∷ bs) ≢ []
cons_some b bs = λ e. absurd cc

pending_front : (laws : Splitting) (f : Framing) (x : Front) → f.closed ≡ false → front f.waiting ≡ x → x ≢ Wait → pending f ≢ []
pending_front laws f (Whole b v) o e n = λ none. cons_some (Some b) (bodies_in v) (sym (pending_open f o ∙ bodies_whole laws f.waiting b v e) ∙ none)
pending_front laws f Wait o e n = absurd (n refl)
pending_front laws f Fault o e n = λ none. cons_some None [] (sym (pending_open f o ∙ bodies_fault laws f.waiting e) ∙ none)

-- what is due is pending
pub pending_due : (laws : Splitting) (f : Framing) → IsDue f → pending f ≢ []
pending_due laws f d = pending_front laws f (front f.waiting) d.open' refl d.some

pub rest_takes : (laws : Splitting) (f : Framing) (body : Option (List ℕ)) (f' : Framing) → Takes f body f' → rest f'.waiting ≡ rest f.waiting
rest_takes laws f (Some b) f' t = sym (ap (λ (s : Split). s.rest) (laws.whole f.waiting b f'.waiting t.2))
rest_takes laws f None f' t = ap rest t.3

sound_takes : (f : Framing) (body : Option (List ℕ)) (f' : Framing) → Takes f body f' → IsSound f'
sound_takes f (Some b) f' t = λ c. absurd (cc)
sound_takes f None f' t = λ c. ap front t.3 ∙ t.2

-- the measure falls
pub left : Framing → ℕ
left f = length f.waiting + cond {A = ℕ} f.closed 0 1

pub left_falls : (laws : Splitting) (f : Framing) (body : Option (List ℕ)) (f' : Framing) → Takes f body f' → left f' < left f
unfolding left
left_falls laws f (Some b) f' t =
    let s = laws.shorter f.waiting b f'.waiting t.2 in
    let x : cond {A = ℕ} f.closed 0 1 ≡ 1 = ap (λ (c : Bool). cond {A = ℕ} c 0 1) t.0 in
    let y : cond {A = ℕ} f'.closed 0 1 ≡ 1 = ap (λ (c : Bool). cond {A = ℕ} c 0 1) t.1 in
    omega (arith, s, x, y)
left_falls laws f None f' t =
    let s : length f'.waiting ≡ length f.waiting = ap length t.3 in
    let x : cond {A = ℕ} f.closed 0 1 ≡ 1 = ap (λ (c : Bool). cond {A = ℕ} c 0 1) t.0 in
    let y : cond {A = ℕ} f'.closed 0 1 ≡ 0 = ap (λ (c : Bool). cond {A = ℕ} c 0 1) t.1 in
    omega arith

pub some_none : (conn : ℕ) (f : Framing) (os : Tenancy) (out : List Reply) → AnswersSome conn f os out f os out
some_none conn f os out = record { done = []; replies = []; pending_is = refl; out = sym (append-nil out); run = refl; rest_is = refl; sound = λ s. s }

pub some_more : (laws : Splitting) (conn : ℕ) (f₀ f f' : Framing) (os₀ os os' : Tenancy) (out₀ out : List Reply) (frame : List ℕ) (r : Reply) → AnswersSome conn f₀ os₀ out₀ f os out → Answered f os [] f' os' frame → r.conn ≡ conn → r.frame.items ≡ frame → AnswersSome conn f₀ os₀ out₀ f' os' (out ++ r ∷ [])
some_more laws conn f₀ f f' os₀ os os' out₀ out frame r a s c e =
    let step : StepItem os s.body r.frame.items os' = subst (λ x. StepItem os s.body x os') (sym (e ∙ s.out)) s.step in
    record {
      done = a.done ++ s.body ∷ [];
      replies = a.replies ++ r ∷ [];
      pending_is = a.pending_is ∙ ap (λ bs. a.done ++ bs) (pending_takes laws f s.body f' s.takes) ∙ sym (append_assoc a.done (s.body ∷ []) (pending f'));
      out = ap (λ xs. xs ++ r ∷ []) a.out ∙ append_assoc out₀ a.replies (r ∷ []);
      run = subst (λ is. Run os₀ is (map told (a.replies ++ r ∷ [])) os') (sym (map_push (item conn) a.done s.body))
          (subst (λ ts. Run os₀ (map (item conn) a.done ++ item conn s.body ∷ []) ts os') (sym (map_push told a.replies r))
          (run-append (map (item conn) a.done) (item conn s.body ∷ []) (map told a.replies) (told r ∷ []) os₀ os os' a.run (os', c, step, refl)));
      rest_is = rest_takes laws f s.body f' s.takes ∙ a.rest_is;
      sound = λ _. sound_takes f s.body f' s.takes;
    }

pub into_none : (conn : ℕ) (f : Framing) (os : Tenancy) (out : List ℕ) → AnswersInto conn f os out f os out
into_none conn f os out = record { done = []; frames = []; pending_is = refl; out = sym (append-nil out); run = refl; rest_is = refl; sound = λ s. s }

pub into_more : (laws : Splitting) (conn : ℕ) (f₀ f f' : Framing) (os₀ os os' : Tenancy) (out₀ out out' : List ℕ) → AnswersInto conn f₀ os₀ out₀ f os out → Answered f os out f' os' out' → AnswersInto conn f₀ os₀ out₀ f' os' out'
into_more laws conn f₀ f f' os₀ os os' out₀ out out' a s = record {
  done = a.done ++ s.body ∷ [];
  frames = a.frames ++ s.frame ∷ [];
  pending_is = a.pending_is ∙ ap (λ bs. a.done ++ bs) (pending_takes laws f s.body f' s.takes) ∙ sym (append_assoc a.done (s.body ∷ []) (pending f'));
  out = s.out ∙ ap (λ xs. xs ++ s.frame) a.out ∙ flat_map_more (λ (x : List ℕ). x) out₀ a.frames s.frame;
  run = subst (λ is. Run os₀ is (map (sent conn) (a.frames ++ s.frame ∷ [])) os') (sym (map_push (item conn) a.done s.body))
      (subst (λ ts. Run os₀ (map (item conn) a.done ++ item conn s.body ∷ []) ts os') (sym (map_push (sent conn) a.frames s.frame))
      (run-append (map (item conn) a.done) (item conn s.body ∷ []) (map (sent conn) a.frames) (sent conn s.frame ∷ []) os₀ os os' a.run (os', refl, s.step, refl)));
  rest_is = rest_takes laws f s.body f' s.takes ∙ a.rest_is;
  sound = λ _. sound_takes f s.body f' s.takes;
}
