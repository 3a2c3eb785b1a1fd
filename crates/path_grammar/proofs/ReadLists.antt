-- Reading one after the other gives what the grammar's lists spell, whatever the items and the gaps are.
use Rattle.std.proofs.Common.{◌≡◌, ℕ, zero, suc, List, [], ◌∷◌, ◌++◌, length, Option, Some, None, refl, sym, ap, subst, ◌∙◌, append_assoc}
use Rattle.std.proofs.lemmas.List.{append-nil}
use Rattle.path_grammar.specs.Characters.{Text, Blanks}
use Rattle.path_grammar.specs.Lists.{Many, none, next, Between, between, OneOrMore, first, Separated}
use Rattle.path_grammar.specs.Reading.{◌>>=◌, Reader, go_on, repeat_at, list_at}
use Rattle.path_grammar.proofs.Read.{found, pair, same_pair, bind_some, Reads, ReadsOne, Trailed}

-- what is known of a reader of where the next begins
abbrev pub Finds : (Text → Option Text) → (Text → Type 0) → Type 0
Finds find Gap = (t u : Text) → find t ≡ Some u → (g : Text) × (t ≡ g ++ u) × Gap g

module _ {X : Type 0} (find : Text → Option Text) (one : Reader X) (Gap : Text → Type 0) (R : Text → X → Type 0) (finds : Finds find Gap) (reads : ReadsOne one R) where
  nothing : (t rest : Text) (xs : List X) → found [] t ≡ found xs rest → Reads (Many Gap R) t xs rest
  nothing t rest xs e =
      let p = same_pair [] xs t rest e in
      record { front = []; parts = p.1; is = subst (λ (ys : List X). Many Gap R [] ys) p.0 none }

  regroup : (g u v rest t t1 t2 : Text) → t ≡ g ++ t1 → t1 ≡ u ++ t2 → t2 ≡ v ++ rest → t ≡ (g ++ (u ++ v)) ++ rest
  regroup g u v rest t t1 t2 p q r = rw (p, q, r) (simp append_assoc)

  many_step : (n : ℕ) (t rest : Text) (xs : List X) (o : Option Text) → ReadsOne (repeat_at find one n) (Many Gap R) → find t ≡ o → go_on one (repeat_at find one n) t o ≡ found xs rest → Reads (Many Gap R) t xs rest
  unfolding go_on
  many_step n t rest xs None ih f e = nothing t rest xs e
  many_step n t rest xs (Some u) ih f e =
      let b = bind_some (one u) (λ x. repeat_at find one n x.1 >>= λ ys. found (x.0 ∷ ys.0) ys.1) (pair xs rest) e in
      let d = bind_some (repeat_at find one n (b.0.1)) (λ ys. found (b.0.0 ∷ ys.0) ys.1) (pair xs rest) b.2 in
      let p = same_pair (b.0.0 ∷ d.0.0) xs (d.0.1) rest d.2 in
      let g = finds t u f in
      let r = reads u (b.0.1) (b.0.0) b.1 in
      let m = ih (b.0.1) (d.0.1) (d.0.0) d.1 in
      record {
        front = g.0 ++ (r.front ++ m.front);
        parts = regroup (g.0) r.front m.front rest t u (b.0.1) g.1 r.parts (m.parts ∙ ap (λ (v : Text). m.front ++ v) p.1);
        is = subst (λ (ys : List X). Many Gap R (g.0 ++ (r.front ++ m.front)) ys) p.0 (next (g.0) g.2 r.is m.is);
      }

  pub many_reads : (n : ℕ) → ReadsOne (repeat_at find one n) (Many Gap R)
  unfolding repeat_at
  many_reads zero t rest xs e = nothing t rest xs e
  many_reads (suc n) t rest xs e = many_step n t rest xs (find t) (many_reads n) refl e

  pub list_reads : ReadsOne (list_at find one) (OneOrMore Gap R)
  unfolding list_at
  list_reads t rest xs e =
      let b = bind_some (one t) (λ x. repeat_at find one (length t) x.1 >>= λ ys. found (x.0 ∷ ys.0) ys.1) (pair xs rest) e in
      let d = bind_some (repeat_at find one (length t) (b.0.1)) (λ ys. found (b.0.0 ∷ ys.0) ys.1) (pair xs rest) b.2 in
      let p = same_pair (b.0.0 ∷ d.0.0) xs (d.0.1) rest d.2 in
      let r = reads t (b.0.1) (b.0.0) b.1 in
      let m = many_reads (length t) (b.0.1) (d.0.1) (d.0.0) d.1 in
      record {
        front = r.front ++ m.front;
        parts = r.parts ∙ ap (λ (v : Text). r.front ++ v) (m.parts ∙ ap (λ (v : Text). m.front ++ v) p.1) ∙ sym (append_assoc r.front m.front rest);
        is = subst (λ (ys : List X). OneOrMore Gap R (r.front ++ m.front) ys) p.0 (first r.is m.is);
      }

-- ---- items read with the blanks behind them

-- a separator and blanks behind it
abbrev pub Behind : Text → Text → Type 0
Behind separator g = (c : Text) × (g ≡ separator ++ c) × Blanks c

pub record Loose {X : Type 0} (R : Text → List X → Type 0) (t : Text) (xs : List X) : Type 0 where
  pub front : Text
  pub blanks : Text
  pub parts : t ≡ front ++ blanks
  pub are_blank : Blanks blanks
  pub is : R front xs

module _ {X : Type 0} (s : Text) (R : Text → X → Type 0) where
  loosened : (b c g t u f d : Text) → g ≡ s ++ c → u ≡ f ++ d → b ++ (g ++ (t ++ u)) ≡ ((b ++ (s ++ c)) ++ (t ++ f)) ++ d
  loosened b c g t u f d p q = rw (p, q) (simp append_assoc)

  moved : (b g t f d u : Text) → t ≡ f ++ d → b ++ (g ++ (t ++ u)) ≡ b ++ (g ++ (f ++ (d ++ u)))
  moved b g t f d u p = rw p (simp append_assoc)

  -- blanks before the gap belong to the gap
  pub many_tight : (t b : Text) (xs : List X) → Many (Behind s) (Trailed R) t xs → Blanks b → Loose (Many (Between s) R) (b ++ t) xs
  many_tight _ b _ none hb = record { front = []; blanks = b; parts = append-nil b; are_blank = hb; is = none }
  many_tight _ b _ (next {t} {u} {x} {xs} g hg p more) hb =
      let m = many_tight u p.blanks xs more p.are_blank in
      record {
        front = (b ++ (s ++ hg.0)) ++ (p.front ++ m.front);
        blanks = m.blanks;
        parts = moved b g t p.front p.blanks u p.parts ∙ loosened b (hg.0) g p.front (p.blanks ++ u) m.front m.blanks hg.1 m.parts;
        are_blank = m.are_blank;
        is = next (b ++ (s ++ hg.0)) (between b (hg.0) hb hg.2) p.is m.is;
      }

  pub list_tight : (t : Text) (xs : List X) → OneOrMore (Behind s) (Trailed R) t xs → Loose (Separated s R) t xs
  list_tight _ _ (first {t} {u} {x} {xs} p more) =
      let m = many_tight u p.blanks xs more p.are_blank in
      record {
        front = p.front ++ m.front;
        blanks = m.blanks;
        parts = ap (λ (v : Text). v ++ u) p.parts ∙ append_assoc p.front p.blanks u ∙ ap (λ (v : Text). p.front ++ v) m.parts ∙ sym (append_assoc p.front m.front m.blanks);
        are_blank = m.are_blank;
        is = first p.is m.is;
      }

  -- ---- and back

  pub record Shifted (t c : Text) (xs : List X) : Type 0 where
    pub blanks : Text
    pub tail : Text
    pub parts : t ++ c ≡ blanks ++ tail
    pub are_blank : Blanks blanks
    pub is : Many (Behind s) (Trailed R) tail xs

  shifted : (b d t u c f r : Text) → u ++ c ≡ f ++ r → ((b ++ (s ++ d)) ++ (t ++ u)) ++ c ≡ b ++ ((s ++ d) ++ ((t ++ f) ++ r))
  shifted b d t u c f r p =
      let k : ((b ++ (s ++ d)) ++ (t ++ u)) ++ c ≡ b ++ (s ++ (d ++ (t ++ (u ++ c)))) = simp append_assoc in
      let l : b ++ (s ++ (d ++ (t ++ (f ++ r)))) ≡ b ++ ((s ++ d) ++ ((t ++ f) ++ r)) = simp append_assoc in
      k ∙ ap (λ (v : Text). b ++ (s ++ (d ++ (t ++ v)))) p ∙ l

  pub many_loose : (t c : Text) (xs : List X) → Many (Between s) R t xs → Blanks c → Shifted t c xs
  many_loose _ c _ none hc = record { blanks = c; tail = []; parts = sym (append-nil c); are_blank = hc; is = none }
  many_loose _ c _ (next {t} {u} {x} {xs} _ (between b d hb hd) p more) hc =
      let m = many_loose u c xs more hc in
      record {
        blanks = b;
        tail = (s ++ d) ++ ((t ++ m.blanks) ++ m.tail);
        parts = shifted b d t u c m.blanks m.tail m.parts;
        are_blank = hb;
        is = next (s ++ d) (d, refl, hd) (record { front = t; blanks = m.blanks; parts = refl; are_blank = m.are_blank; is = p }) m.is;
      }

  pub list_loose : (t c : Text) (xs : List X) → Separated s R t xs → Blanks c → OneOrMore (Behind s) (Trailed R) (t ++ c) xs
  list_loose _ c _ (first {t} {u} {x} {xs} p more) hc =
      let m = many_loose u c xs more hc in
      let e : (t ++ u) ++ c ≡ (t ++ m.blanks) ++ m.tail = append_assoc t u c ∙ ap (λ (v : Text). t ++ v) m.parts ∙ sym (append_assoc t m.blanks m.tail) in
      subst (λ (v : Text). OneOrMore (Behind s) (Trailed R) v (x ∷ xs)) (sym e) (first (record { front = t; blanks = m.blanks; parts = refl; are_blank = m.are_blank; is = p }) m.is)
