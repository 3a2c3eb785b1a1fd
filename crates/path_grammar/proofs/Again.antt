-- What is spelled is read again, whatever follows that could not go on with it: runs, characters and lists.
use Rattle.std.proofs.Common.{◌≡◌, ℕ, zero, suc, ◌≤◌, ◌<◌, Bool, true, false, cond, ◌==◌, List, [], ◌∷◌, ◌++◌, length, Option, Some, None, refl, sym, ap, subst, ◌∙◌, append_assoc, length-append, arith}
use Rattle.std.proofs.lemmas.Bool.{and_parts}
use Rattle.std.specs.List.{list_all}
use Rattle.path_grammar.specs.Characters.{Text, is_blank, Blanks}
use Rattle.path_grammar.specs.Lists.{Many, none, next, OneOrMore, first}
use Rattle.path_grammar.specs.Reading.{Reader, ◌>>=◌, front_run, after_run, behind, go_on, repeat_at, list_at}
use Rattle.path_grammar.proofs.Read.{found}

-- a text that a run does not go on into
abbrev pub Stops : (ℕ → Bool) → Text → Type 0
Stops p [] = Unit {0}
Stops p (c ∷ t) = p c ≡ false

pub record Starts (p : ℕ → Bool) (t : Text) : Type 0 where
  pub head : ℕ
  pub tail : Text
  pub is : t ≡ head ∷ tail
  pub passes : p head ≡ true

pub front_again : (p : ℕ → Bool) (u rest : Text) → list_all p u ≡ true → Stops p rest → front_run p (u ++ rest) ≡ u
front_again p [] [] h s = refl
front_again p [] (c ∷ t) h s = rw s refl
front_again p (c ∷ u) rest h s = let k = and_parts (p c) (list_all p u) h in rw (k.0, front_again p u rest k.1 s) refl

pub after_again : (p : ℕ → Bool) (u rest : Text) → list_all p u ≡ true → Stops p rest → after_run p (u ++ rest) ≡ rest
after_again p [] [] h s = refl
after_again p [] (c ∷ t) h s = rw s refl
after_again p (c ∷ u) rest h s = let k = and_parts (p c) (list_all p u) h in rw (k.0, after_again p u rest k.1 s) refl

-- where one class begins, the run of another stops
pub starts_stops : (p q : ℕ → Bool) (t rest : Text) → ((c : ℕ) → p c ≡ true → q c ≡ false) → Starts p t → Stops q (t ++ rest)
starts_stops p q t rest h s = rw s.is (h s.head s.passes)

pub stops_at : (p q : ℕ → Bool) (t : Text) → ((c : ℕ) → p c ≡ true → q c ≡ false) → Starts p t → Stops q t
stops_at p q t h s = rw s.is (h s.head s.passes)

pub starts_wider : (p q : ℕ → Bool) (t : Text) → ((c : ℕ) → p c ≡ true → q c ≡ true) → Starts p t → Starts q t
starts_wider p q t h s = record { head = s.head; tail = s.tail; is = s.is; passes = h s.head s.passes }

pub append_starts : (p : ℕ → Bool) (t u : Text) → Starts p t → Starts p (t ++ u)
append_starts p t u s = record { head = s.head; tail = s.tail ++ u; is = rw s.is refl; passes = s.passes }

pub starts_not_empty : (p : ℕ → Bool) (t : Text) → Starts p t → 0 < length t
starts_not_empty p t s = omega (arith, ap length s.is)

-- blanks, or what follows them
pub blanks_stop : (p : ℕ → Bool) (b rest : Text) → ((c : ℕ) → is_blank c ≡ true → p c ≡ false) → Blanks b → Stops p rest → Stops p (b ++ rest)
blanks_stop p [] rest h k s = s
blanks_stop p (c ∷ b) rest h k s = h c (and_parts (is_blank c) (list_all is_blank b) k).0

pub blanks_joined : (b c : Text) → Blanks b → Blanks c → Blanks (b ++ c)
blanks_joined [] c hb hc = hc
blanks_joined (x ∷ b) c hb hc = let k = and_parts (is_blank x) (list_all is_blank b) hb in rw (k.0, blanks_joined b c k.1 hc) refl

-- ---- one character

pub behind_same : (k : ℕ) (t : Text) → (k == k) ≡ true → behind k (k ∷ t) ≡ Some t
unfolding behind
behind_same k t e = rw e refl

pub behind_other : (k c : ℕ) (t : Text) → (c == k) ≡ false → behind k (c ∷ t) ≡ None
unfolding behind
behind_other k c t e = rw e refl

pub stops_behind : (k : ℕ) (rest : Text) → Stops (λ c. c == k) rest → behind k rest ≡ None
unfolding behind
stops_behind k [] s = refl
stops_behind k (c ∷ t) s = behind_other k c t s

pub stops_narrower : (p q : ℕ → Bool) (rest : Text) → ((c : ℕ) → p c ≡ false → q c ≡ false) → Stops p rest → Stops q rest
stops_narrower p q [] h s = tt
stops_narrower p q (c ∷ t) h s = h c s

-- ---- tests

pub two_tests : {A : Type 0} (a b : Bool) (x y z : A) → a ≡ false → b ≡ true → cond a x (cond b y z) ≡ y
two_tests true b x y z h k = absurd cc
two_tests false true x y z h k = refl
two_tests false false x y z h k = absurd cc

pub cond_none : {A : Type 0} (b : Bool) (x : Option A) → x ≡ None → cond b x None ≡ None
cond_none true x e = e
cond_none false x e = refl

pub bind_none : {A B : Type 0} (o : Option A) (f : A → Option B) → o ≡ None → (o >>= f) ≡ None
bind_none (Some x) f e = absurd cc
bind_none None f e = refl

-- ---- lists, where Stop says what may follow one

module _ {X : Type 0} (find : Text → Option Text) (one : Reader X) (Gap : Text → Type 0) (R : Text → X → Type 0) (Stop : Text → Type 0)
    (again : (t rest : Text) (x : X) → R t x → Stop rest → one (t ++ rest) ≡ found x rest)
    (found_next : (g t rest : Text) (x : X) → Gap g → R t x → find (g ++ (t ++ rest)) ≡ Some (t ++ rest))
    (gap_stops : (g t rest : Text) (x : X) → Gap g → R t x → Stop (g ++ (t ++ rest)))
    (not_empty : (t : Text) (x : X) → R t x → 0 < length t) where
  grouped : (g t u rest : Text) → (g ++ (t ++ u)) ++ rest ≡ g ++ (t ++ (u ++ rest))
  grouped g t u rest = simp append_assoc

  shorter : (g t u : Text) (n : ℕ) → 0 < length t → length (g ++ (t ++ u)) ≤ suc n → length u ≤ n
  shorter g t u n s h = omega (arith, length-append g (t ++ u), length-append t u)

  too_short : (g t u : Text) → 0 < length t → length (g ++ (t ++ u)) ≤ 0 → ⊥
  too_short g t u s h = omega (arith, length-append g (t ++ u), length-append t u)

  -- what may follow the items may follow each
  pub many_stops : (t rest : Text) (xs : List X) → Many Gap R t xs → Stop rest → Stop (t ++ rest)
  many_stops _ rest _ none s = s
  many_stops _ rest _ (next {t} {u} {x} {xs} g hg p more) s = subst Stop (sym (grouped g t u rest)) (gap_stops g t (u ++ rest) x hg p)

  no_more : (n : ℕ) (rest : Text) → find rest ≡ None → repeat_at find one n rest ≡ found [] rest
  unfolding repeat_at go_on
  no_more zero rest h = refl
  no_more (suc n) rest h = rw h refl

  one_more : (n : ℕ) (g t u rest : Text) (x : X) (xs : List X) → Gap g → R t x → Stop (u ++ rest) → repeat_at find one n (u ++ rest) ≡ found xs rest → repeat_at find one (suc n) ((g ++ (t ++ u)) ++ rest) ≡ found (x ∷ xs) rest
  unfolding repeat_at go_on
  one_more n g t u rest x xs hg p k e = rw (grouped g t u rest, found_next g t (u ++ rest) x hg p, again t (u ++ rest) x p k, e) refl

  pub many_again : (n : ℕ) (t rest : Text) (xs : List X) → Many Gap R t xs → Stop rest → find rest ≡ None → length t ≤ n → repeat_at find one n (t ++ rest) ≡ found xs rest
  many_again n _ rest _ none s f h = no_more n rest f
  many_again zero _ rest _ (next {t} {u} {x} {xs} g hg p more) s f h = absurd (too_short g t u (not_empty t x p) h)
  many_again (suc n) _ rest _ (next {t} {u} {x} {xs} g hg p more) s f h =
      one_more n g t u rest x xs hg p (many_stops u rest xs more s) (many_again n u rest xs more s f (shorter g t u n (not_empty t x p) h))

  first_then : (all t u rest : Text) (x : X) (xs : List X) → all ≡ t ++ (u ++ rest) → one (t ++ (u ++ rest)) ≡ found x (u ++ rest) → repeat_at find one (length all) (u ++ rest) ≡ found xs rest → list_at find one all ≡ found (x ∷ xs) rest
  unfolding list_at
  first_then all t u rest x xs k h m = let d : one all ≡ found x (u ++ rest) = ap one k ∙ h in rw (d, m) refl

  pub list_again : (t rest : Text) (xs : List X) → OneOrMore Gap R t xs → Stop rest → find rest ≡ None → list_at find one (t ++ rest) ≡ found xs rest
  list_again _ rest _ (first {t} {u} {x} {xs} p more) s f =
      let n = length ((t ++ u) ++ rest) in
      let tail : repeat_at find one n (u ++ rest) ≡ found xs rest = many_again n u rest xs more s f (omega (arith, length-append (t ++ u) rest, length-append t u)) in
      first_then (t ++ u ++ rest) t u rest x xs (append_assoc t u rest) (again t (u ++ rest) x p (many_stops u rest xs more s)) tail
