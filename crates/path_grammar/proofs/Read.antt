-- What is read is spelled so: the steps that all readers are made of.
use Rattle.std.proofs.Common.{◌≡◌, ℕ, Bool, true, false, cond, ◌==◌, [], ◌∷◌, ◌++◌, Option, Some, None, refl, sym, ap, subst, ◌∙◌, append_assoc, ◌⊎◌, inl, inr}
use Rattle.std.proofs.lemmas.Bool.{eqb-true}
use Rattle.std.proofs.lemmas.List.{append-nil}
use Rattle.std.specs.List.{list_all}
use Rattle.path_grammar.specs.Characters.{Text, is_blank, Blanks}
use Rattle.path_grammar.specs.Reading.{Reader, ◌>>=◌, front_run, after_run, behind}

-- ---- steps that did not fail

pub bind_some : {A B : Type 0} (o : Option A) (f : A → Option B) (y : B) → (o >>= f) ≡ Some y → (x : A) × (o ≡ Some x) × (f x ≡ Some y)
bind_some (Some x) f y e = (x, refl, e)
bind_some None f y e = absurd cc

pub chosen : {A : Type 0} (b : Bool) (x y z : A) → cond b x y ≡ z → ((b ≡ true) × (x ≡ z)) ⊎ ((b ≡ false) × (y ≡ z))
chosen true x y z e = inl (refl, e)
chosen false x y z e = inr (refl, e)

-- a test with nothing on its other side
pub guarded : {A : Type 0} (b : Bool) (x : Option A) (z : A) → cond b x None ≡ Some z → (b ≡ true) × (x ≡ Some z)
guarded true x z e = (refl, e)
guarded false x z e = absurd cc

pub some_is : {A : Type 0} (x y : A) → Some x ≡ Some y → x ≡ y
some_is x y e = cc

abbrev pub pair : {A B : Type 0} → A → B → A × B
pair x y = (x, y)

-- what a reader gives
abbrev pub found : {A B : Type 0} → A → B → Option (A × B)
found x y = Some (x, y)

pub same_pair : {A B : Type 0} (x a : A) (y b : B) → found x y ≡ found a b → (x ≡ a) × (y ≡ b)
same_pair {A} {B} x a y b e =
    let p : pair x y ≡ pair a b = cc in
    (ap (λ (q : A × B). q.0) p, ap (λ (q : A × B). q.1) p)

-- a test with a value and a rest on one side
pub picked : {A B : Type 0} (b : Bool) (x s : A) (u r : B) (other : Option (A × B)) → cond b (found x u) other ≡ found s r → ((b ≡ true) × ((x ≡ s) × (u ≡ r))) ⊎ ((b ≡ false) × (other ≡ found s r))
picked true x s u r other e = inl (refl, same_pair x s u r e)
picked false x s u r other e = inr (refl, e)

-- ---- runs

pub run_parts : (p : ℕ → Bool) (t : Text) → t ≡ front_run p t ++ after_run p t
run_parts p [] = refl
run_parts p (c ∷ t) = elim (p c) as (λ b. c ∷ t ≡ cond b (c ∷ front_run p t) [] ++ cond b (after_run p t) (c ∷ t)) [ true ↦ ap (λ (u : Text). c ∷ u) (run_parts p t) | false ↦ refl ]

run_passes_at : (p : ℕ → Bool) (c : ℕ) (t : Text) (b : Bool) → list_all p t ≡ true → p c ≡ b → list_all p (cond b (c ∷ t) []) ≡ true
run_passes_at p c t true h e = rw e h
run_passes_at p c t false h e = refl

pub run_passes : (p : ℕ → Bool) (t : Text) → list_all p (front_run p t) ≡ true
run_passes p [] = refl
run_passes p (c ∷ t) = run_passes_at p c (front_run p t) (p c) (run_passes p t) refl

-- ---- what is read is spelled so: the front of the text, and the rest

pub record Reads {X : Type 0} (R : Text → X → Type 0) (t : Text) (x : X) (rest : Text) : Type 0 where
  pub front : Text
  pub parts : t ≡ front ++ rest
  pub is : R front x

-- what is known of a reader
abbrev pub ReadsOne : {X : Type 0} → Reader X → (Text → X → Type 0) → Type 0
ReadsOne {X} one R = (t rest : Text) (x : X) → one t ≡ found x rest → Reads R t x rest

-- and blanks behind it
pub record Trailed {X : Type 0} (R : Text → X → Type 0) (t : Text) (x : X) : Type 0 where
  pub front : Text
  pub blanks : Text
  pub parts : t ≡ front ++ blanks
  pub are_blank : Blanks blanks
  pub is : R front x

pub reads_one : {X : Type 0} (R : Text → X → Type 0) (c k : ℕ) (t rest : Text) (x y : X) → c ≡ k → x ≡ y → t ≡ rest → R (k ∷ []) x → Reads R (c ∷ t) y rest
reads_one R c k t rest x y e w r h = record { front = k ∷ []; parts = rw (e, r) refl; is = subst (λ z. R (k ∷ []) z) w h }

pub reads_run : {X : Type 0} (R : Text → X → Type 0) (p : ℕ → Bool) (t rest : Text) (x y : X) → x ≡ y → after_run p t ≡ rest → R (front_run p t) x → Reads R t y rest
reads_run R p t rest x y w r h = record { front = front_run p t; parts = run_parts p t ∙ ap (λ (u : Text). front_run p t ++ u) r; is = subst (λ z. R (front_run p t) z) w h }

-- a character before what was read
pub reads_behind : {X : Type 0} (R S : Text → X → Type 0) (c k : ℕ) (t rest : Text) (x : X) → c ≡ k → ((u : Text) → R u x → S (k ∷ u) x) → Reads R t x rest → Reads S (c ∷ t) x rest
reads_behind R S c k t rest x e h r = record { front = k ∷ r.front; parts = rw e (ap (λ (u : Text). k ∷ u) r.parts); is = h r.front r.is }

-- a text before what was read
pub reads_after : {X : Type 0} (R S : Text → X → Type 0) (b t t1 rest : Text) (x : X) → t ≡ b ++ t1 → ((u : Text) → R u x → S (b ++ u) x) → Reads R t1 x rest → Reads S t x rest
reads_after R S b t t1 rest x e h r = record { front = b ++ r.front; parts = e ∙ ap (λ (u : Text). b ++ u) r.parts ∙ sym (append_assoc b r.front rest); is = h r.front r.is }

pub reads_wider : {X : Type 0} (R S : Text → X → Type 0) (t rest : Text) (x : X) → ((u : Text) → R u x → S u x) → Reads R t x rest → Reads S t x rest
reads_wider R S t rest x h r = record { front = r.front; parts = r.parts; is = h r.front r.is }

-- a value made of what one reader gave
pub reads_mapped : {X Y : Type 0} (R : Text → X → Type 0) (S : Text → Y → Type 0) (f : X → Y) (one : Reader X) (t rest : Text) (y : Y) → ReadsOne one R → ((u : Text) (x : X) → R u x → S u (f x)) → (one t >>= λ x. found (f x.0) x.1) ≡ found y rest → Reads S t y rest
reads_mapped R S f one t rest y reads make e =
    let b = bind_some (one t) (λ x. found (f x.0) x.1) (pair y rest) e in
    let p = same_pair (f b.0.0) y (b.0.1) rest b.2 in
    let r = reads t (b.0.1) (b.0.0) b.1 in
    record { front = r.front; parts = r.parts ∙ ap (λ (u : Text). r.front ++ u) p.1; is = subst (λ z. S r.front z) p.0 (make r.front (b.0.0) r.is) }

-- and without the blanks behind it
pub reads_trimmed : {X Y : Type 0} (R : Text → X → Type 0) (S : Text → Y → Type 0) (f : X → Y) (one : Reader X) (t rest : Text) (y : Y) → ReadsOne one R → ((u : Text) (x : X) → R u x → S u (f x)) → (one t >>= λ x. found (f x.0) (after_run is_blank x.1)) ≡ found y rest → Reads (Trailed S) t y rest
reads_trimmed R S f one t rest y reads make e =
    let b = bind_some (one t) (λ x. found (f x.0) (after_run is_blank x.1)) (pair y rest) e in
    let u = b.0.1 in
    let p = same_pair (f b.0.0) y (after_run is_blank u) rest b.2 in
    let r = reads t u (b.0.0) b.1 in
    let run : u ≡ front_run is_blank u ++ rest = run_parts is_blank u ∙ ap (λ (v : Text). front_run is_blank u ++ v) p.1 in
    record {
      front = r.front ++ front_run is_blank u;
      parts = r.parts ∙ ap (λ (v : Text). r.front ++ v) run ∙ sym (append_assoc r.front (front_run is_blank u) rest);
      is = record { front = r.front; blanks = front_run is_blank u; parts = refl; are_blank = run_passes is_blank u; is = subst (λ z. S r.front z) p.0 (make r.front (b.0.0) r.is) };
    }

pub not_trailed : {X : Type 0} (R : Text → X → Type 0) (t : Text) (x : X) → R t x → Trailed R t x
not_trailed R t x h = record { front = t; blanks = []; parts = sym (append-nil t); are_blank = refl; is = h }

-- ---- one character

pub behind_reads : (k : ℕ) (t u : Text) → behind k t ≡ Some u → t ≡ k ∷ u
unfolding behind
behind_reads k [] u e = absurd cc
behind_reads k (c ∷ t) u e =
    let g = guarded (c == k) (Some t) u e in
    let p : t ≡ u = some_is t u g.1 in
    rw (eqb-true c k g.0, p) refl
