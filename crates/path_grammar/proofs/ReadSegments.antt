-- Selectors, segments and queries in filters that are read are spelled so.
use Rattle.std.proofs.Common.{◌≡◌, ℕ, Bool, true, false, cond, ◌||◌, ◌==◌, List, [], ◌∷◌, ◌++◌, length, Option, Some, None, refl, sym, ap, subst, ◌∙◌, append_assoc, inl, inr, arith, eq-eqb}
use Rattle.std.proofs.lemmas.Bool.{eqb-true, and_parts}
use Rattle.std.proofs.lemmas.Bool.Decides.{nat_tests}
use Rattle.std.specs.List.{list_all}
use Rattle.std.proofs.lemmas.List.{append-nil}
use Rattle.path_grammar.specs.Tree as tree
use Rattle.path_grammar.specs.Tree.{OneSegment, segments_of, selectors_of}
use Rattle.path_grammar.specs.Characters.{Text, is_blank, is_digit, is_first, Blanks}
use Rattle.path_grammar.specs.Lists.{Repeated}
use Rattle.path_grammar.specs.Numbers.{Int}
use Rattle.path_grammar.specs.Strings.{StringLiteral}
use Rattle.path_grammar.specs.Grammar.{Bound, no_bound, bound, Step, no_step, step, Slice, two_parts, three_parts, Selector, quoted, every, sliced, at, those, Bracketed, bracketed, Shorthand, Dotted, dot_every, dot_name, Segment, child_bracketed, child_dotted, descendant_bracketed, descendant_dotted, SubQuery, root_query, child_query}
use Rattle.path_grammar.specs.Reading.{Reader, ◌>>=◌, is_name, front_run, after_run, behind, list_at}
use Rattle.path_grammar.specs.ReadingNumbers.{part_at}
use Rattle.path_grammar.specs.ReadingStrings.{string_at}
use Rattle.path_grammar.specs.ReadingSegments.{step_from, step_at, slice_at, index_from, index_at, name_at, filter_at, selector_at, next_selector, selectors_at, bracketed_at, dotted_at, dots_at, opening_at, selectors_from, segment_at, at_segment, begins_segment, next_segment, segments_at, sub_query_at}
use Rattle.path_grammar.specs.declared.ast.IntLit.{IntLit}
use Rattle.path_grammar.proofs.Read.{found, pair, same_pair, bind_some, some_is, chosen, guarded, picked, Reads, ReadsOne, Trailed, run_parts, run_passes, reads_one, reads_behind, reads_run, reads_mapped, reads_trimmed, not_trailed, behind_reads}
use Rattle.path_grammar.proofs.ReadLists.{Finds, many_reads, list_reads, Behind, list_tight}
use Rattle.path_grammar.proofs.ReadNumbers.{part_reads}
use Rattle.path_grammar.proofs.ReadStrings.{string_reads}

-- a colon and a step, with the blanks behind them, or neither
data Stepped : Text → Option IntLit → Type 0 where
  unstepped : Stepped [] None
  stepped : {t : Text} {o : Option IntLit} → Trailed Step t o → Stepped (0x3A ∷ t) o

-- a part behind blanks is a step before blanks
part_step : (b u : Text) (o : Option IntLit) → Blanks b → Bound u o → Trailed Step (b ++ u) o
part_step b _ _ hb no_bound = record { front = []; blanks = b; parts = append-nil b; are_blank = hb; is = no_step }
part_step b _ _ hb (bound {t} {i} c p hc) = record { front = b ++ t; blanks = c; parts = sym (append_assoc b t c); are_blank = hc; is = step b hb p }

step_reads : (t rest : Text) (o : Option IntLit) (k : Option Text) → behind 0x3A t ≡ k → step_from t k ≡ found o rest → Reads Stepped t o rest
unfolding step_from
step_reads t rest o None h e =
    let p = same_pair None o t rest e in
    record { front = []; parts = p.1; is = subst (λ (x : Option IntLit). Stepped [] x) p.0 unstepped }
step_reads t rest o (Some u) h e =
    let r = part_reads (after_run is_blank u) rest o e in
    let b = front_run is_blank u in
    record {
      front = 0x3A ∷ (b ++ r.front);
      parts = behind_reads 0x3A t u h ∙ ap (λ (v : Text). 0x3A ∷ v) (run_parts is_blank u ∙ ap (λ (v : Text). b ++ v) r.parts ∙ sym (append_assoc b r.front rest));
      is = stepped (part_step b r.front o (run_passes is_blank u) r.is);
    }

whole_slice : (a b u w : Text) (start stop by : Option IntLit) → Bound a start → Blanks b → Bound u stop → Stepped w by → Trailed Slice (a ++ (0x3A ∷ (b ++ (u ++ w)))) (tree.slice start stop by)
whole_slice a b u _ start stop _ ha hb hu unstepped =
    subst (λ (v : Text). Trailed Slice (a ++ (0x3A ∷ (b ++ v))) (tree.slice start stop None)) (sym (append-nil u)) (not_trailed Slice (a ++ (0x3A ∷ (b ++ u))) (tree.slice start stop None) (two_parts b ha hb hu))
whole_slice a b u _ start stop by ha hb hu (stepped {t} p) = record {
  front = a ++ (0x3A ∷ (b ++ (u ++ (0x3A ∷ p.front))));
  blanks = p.blanks;
  parts = ap (λ (v : Text). a ++ (0x3A ∷ (b ++ (u ++ (0x3A ∷ v))))) p.parts ∙ sym (simp append_assoc);
  are_blank = p.are_blank;
  is = three_parts b ha hb hu p.is;
}

slice_parts : (b u w rest t t1 t2 : Text) → t ≡ b ++ t1 → t1 ≡ u ++ t2 → t2 ≡ w ++ rest → t ≡ (b ++ (u ++ w)) ++ rest
slice_parts b u w rest t t1 t2 p q r = rw (p, q, r) (simp append_assoc)

slice_reads : (a : Text) (start : Option IntLit) → Bound a start → ReadsOne (slice_at start) (λ u s. Trailed Slice (a ++ (0x3A ∷ u)) s)
unfolding slice_at step_at
slice_reads a start ha t rest s e =
    let x = bind_some (part_at (after_run is_blank t)) (λ x. step_at x.1 >>= λ y. found (tree.slice start x.0 y.0) y.1) (pair s rest) e in
    let y = bind_some (step_at (x.0.1)) (λ y. found (tree.slice start (x.0.0) y.0) y.1) (pair s rest) x.2 in
    let p = same_pair (tree.slice start (x.0.0) (y.0.0)) s (y.0.1) rest y.2 in
    let b = front_run is_blank t in
    let q = part_reads (after_run is_blank t) (x.0.1) (x.0.0) x.1 in
    let r = step_reads (x.0.1) (y.0.1) (y.0.0) (behind 0x3A (x.0.1)) refl y.1 in
    record {
      front = b ++ (q.front ++ r.front);
      parts = slice_parts b q.front r.front rest t (after_run is_blank t) (x.0.1) (run_parts is_blank t) q.parts (r.parts ∙ ap (λ (v : Text). r.front ++ v) p.1);
      is = subst (λ (z : tree.Selector). Trailed Slice (a ++ (0x3A ∷ (b ++ (q.front ++ r.front)))) z) p.0 (whole_slice a b q.front r.front start (x.0.0) (y.0.0) ha (run_passes is_blank t) q.is r.is);
    }

trailed_wider : {X : Type 0} (R S : Text → X → Type 0) (t : Text) (x : X) → ((u : Text) → R u x → S u x) → Trailed R t x → Trailed S t x
trailed_wider R S t x h p = record { front = p.front; blanks = p.blanks; parts = p.parts; are_blank = p.are_blank; is = h p.front p.is }

finds_selector : Finds next_selector (Behind (0x2C ∷ []))
unfolding next_selector
finds_selector t u e =
    let x = bind_some (behind 0x2C t) (λ v. Some (after_run is_blank v)) u e in
    let c = front_run is_blank (x.0) in
    (0x2C ∷ c, behind_reads 0x2C t (x.0) x.1 ∙ ap (λ (v : Text). 0x2C ∷ v) (run_parts is_blank (x.0) ∙ ap (λ (v : Text). c ++ v) (some_is (after_run is_blank (x.0)) u x.2)), (c, refl, run_passes is_blank (x.0)))

bracket_parts : (b u c rest t t1 t2 : Text) → t ≡ b ++ t1 → t1 ≡ (u ++ c) ++ t2 → t2 ≡ 0x5D ∷ rest → t ≡ (b ++ (u ++ (c ++ (0x5D ∷ [])))) ++ rest
bracket_parts b u c rest t t1 t2 p q r = rw (p, q, r) (simp append_assoc)

is_shorthand : (c : ℕ) (t : Text) → is_first c ≡ true → Shorthand (front_run is_name (c ∷ t))
is_shorthand c t e = rw (e, e, run_passes is_name t) refl

dotted_name : (c : ℕ) (t rest : Text) (s : tree.Selector) → cond (is_first c) (found (tree.name (front_run is_name (c ∷ t))) (after_run is_name (c ∷ t))) None ≡ found s rest → Reads Dotted (c ∷ t) s rest
dotted_name c t rest s e =
    let g = guarded (is_first c) (found (tree.name (front_run is_name (c ∷ t))) (after_run is_name (c ∷ t))) (s, rest) e in
    let p = same_pair (tree.name (front_run is_name (c ∷ t))) s (after_run is_name (c ∷ t)) rest g.1 in
    reads_run Dotted is_name (c ∷ t) rest _ s p.0 p.1 (dot_name (front_run is_name (c ∷ t)) (is_shorthand c t g.0))

dotted_reads : ReadsOne dotted_at Dotted
unfolding dotted_at
dotted_reads [] rest s e = absurd cc
dotted_reads (c ∷ t) rest s e = elim (picked (c == 0x2A) _ _ _ _ _ e) [
  | inl h ↦ reads_one Dotted c 0x2A t rest tree.wild s (eqb-true c 0x2A h.0) h.1.0 h.1.1 dot_every
  | inr h ↦ dotted_name c t rest s h.1
]

abbrev segment_from : Bool → List tree.Selector → OneSegment
segment_from d ss = record { descend = d; selectors = selectors_of ss }

-- how the text begins
data Opens : Text → Bool → Text → Type 0 where
  with_bracket : {u : Text} → Opens (0x5B ∷ u) false (0x5B ∷ u)
  with_dot : {c : ℕ} {u : Text} → (c == 0x5B) ≡ false → Opens (0x2E ∷ c ∷ u) false (c ∷ u)
  with_dots : {u : Text} → Opens (0x2E ∷ 0x2E ∷ u) true u

dots_open : (t u : Text) (d : Bool) → dots_at t ≡ found d u → Opens (0x2E ∷ t) d u
unfolding dots_at
dots_open [] u d e = absurd cc
dots_open (c ∷ t) u d e = elim (picked (c == 0x2E) _ _ _ _ _ e) [
  | inl h ↦ subst (λ (x : ℕ). Opens (0x2E ∷ x ∷ t) d u) (sym (eqb-true c 0x2E h.0)) (subst (λ (x : Bool). Opens (0x2E ∷ 0x2E ∷ t) x u) h.1.0 (subst (λ (x : Text). Opens (0x2E ∷ 0x2E ∷ t) true x) h.1.1 with_dots))
  | inr h ↦ one_dot (c == 0x5B) refl h.1
]
  where
    one_dot : (b : Bool) → (c == 0x5B) ≡ b → cond b None (found false (c ∷ t)) ≡ found d u → Opens (0x2E ∷ c ∷ t) d u
    one_dot true k g = absurd cc
    one_dot false k g =
        let p = same_pair false d (c ∷ t) u g in
        subst (λ (x : Bool). Opens (0x2E ∷ c ∷ t) x u) p.0 (subst (λ (x : Text). Opens (0x2E ∷ c ∷ t) false x) p.1 (with_dot k))

opening_opens : (t u : Text) (d : Bool) → opening_at t ≡ found d u → Opens t d u
unfolding opening_at
opening_opens [] u d e = absurd cc
opening_opens (c ∷ t) u d e = elim (picked (c == 0x5B) _ _ _ _ _ e) [
  | inl h ↦ (
      let k = eqb-true c 0x5B h.0 in
      let p : 0x5B ∷ t ≡ u = ap (λ (x : ℕ). x ∷ t) (sym k) ∙ h.1.1 in
      subst (λ (x : ℕ). Opens (x ∷ t) d u) (sym k) (subst (λ (x : Bool). Opens (0x5B ∷ t) x u) h.1.0 (subst (λ (x : Text). Opens (0x5B ∷ t) false x) p with_bracket)))
  | inr h ↦ (
      let g = guarded (c == 0x2E) (dots_at t) (pair d u) h.1 in
      subst (λ (x : ℕ). Opens (x ∷ t) d u) (sym (eqb-true c 0x2E g.0)) (dots_open t u d g.1))
]

clash : (c : ℕ) → c ≡ 0x5B → (c == 0x5B) ≡ false → ⊥
clash c k n = let m : (c == 0x5B) ≡ true = eq-eqb c 0x5B k in absurd cc

bracket_first : (c : ℕ) → is_first c ≡ true → (c == 0x5B) ≡ false
bracket_first c e = grind (arith, nat_tests)

bracket_star : (0x2A == 0x5B) ≡ false
bracket_star = refl

same_head : (c k : ℕ) (t u : Text) → c ∷ t ≡ k ∷ u → c ≡ k
same_head c k t u e = cc

-- what stands behind one dot begins with no bracket
dotted_head : (c : ℕ) (u v rest : Text) (s : tree.Selector) → c ∷ v ≡ u ++ rest → Dotted u s → (c == 0x5B) ≡ false
dotted_head c _ v rest _ e dot_every = rw (same_head c 0x2A v rest e) bracket_star
dotted_head c [] v rest _ e (dot_name _ h) = absurd cc
dotted_head c (d ∷ t) v rest _ e (dot_name _ h) = rw (same_head c d v (t ++ rest) e) (bracket_first d (and_parts (is_first d) (list_all (λ x. is_first x || is_digit x) t) h).0)

no_dotted : (u : Text) (s : tree.Selector) (v rest : Text) → 0x5B ∷ v ≡ u ++ rest → Dotted u s → ⊥
no_dotted u s v rest e d = clash 0x5B refl (dotted_head 0x5B u v rest s e d)

segment_found : (t u v : Text) → t ≡ v → at_segment t ≡ Some u → v ≡ u
unfolding at_segment
segment_found [] u v k e = absurd cc
segment_found (c ∷ t) u v k e = sym k ∙ some_is (c ∷ t) u (guarded (begins_segment c) (Some (c ∷ t)) u e).1

finds_segment : Finds next_segment Blanks
unfolding next_segment
finds_segment t u e = (front_run is_blank t, run_parts is_blank t ∙ ap (λ (v : Text). front_run is_blank t ++ v) (segment_found (after_run is_blank t) u (after_run is_blank t) refl e), run_passes is_blank t)

filter_parts : (b f d rest t t1 u : Text) → t ≡ b ++ t1 → t1 ≡ f ++ u → u ≡ d ++ rest → t ≡ (b ++ (f ++ d)) ++ rest
filter_parts b f d rest t t1 u p q r = rw (p, q, r) (simp append_assoc)

-- ---- where `condition` reads what stands in a filter

module _ (condition : Reader tree.Expr) (P : Text → tree.Expr → Type 0) (reads : ReadsOne condition P) where
  bound_index : (a : Text) (o : Option IntLit) (i : IntLit) → o ≡ Some i → Bound a o → Trailed (Selector P) a (tree.index i)
  bound_index _ _ i e no_bound = absurd cc
  bound_index _ _ i e (bound {t} {i = j} b p hb) =
      let k : j ≡ i = some_is j i e in
      record { front = t; blanks = b; parts = refl; are_blank = hb; is = at (subst (λ (x : IntLit). Int t x) k p) }

  index_cases : (a t u rest : Text) (o : Option IntLit) (s : tree.Selector) (k : Option Text) → t ≡ a ++ u → Bound a o → behind 0x3A u ≡ k → index_from o u k ≡ found s rest → Reads (Trailed (Selector P)) t s rest
  unfolding index_from
  index_cases a t u rest o s (Some v) e ha h r =
      let q = slice_reads a o ha v rest s r in
      record {
        front = a ++ (0x3A ∷ q.front);
        parts = e ∙ ap (λ (w : Text). a ++ w) (behind_reads 0x3A u v h ∙ ap (λ (w : Text). 0x3A ∷ w) q.parts) ∙ sym (append_assoc a (0x3A ∷ q.front) rest);
        is = trailed_wider Slice (Selector P) (a ++ (0x3A ∷ q.front)) s (λ w d. sliced d) q.is;
      }
  index_cases a t u rest (Some i) s None e ha h r =
      let p = same_pair (tree.index i) s u rest r in
      record { front = a; parts = e ∙ ap (λ (w : Text). a ++ w) p.1; is = subst (λ (z : tree.Selector). Trailed (Selector P) a z) p.0 (bound_index a (Some i) i refl ha) }
  index_cases a t u rest None s None e ha h r = absurd cc

  index_reads : ReadsOne index_at (Trailed (Selector P))
  unfolding index_at
  index_reads t rest s e =
      let x = bind_some (part_at t) (λ x. index_from x.0 x.1 (behind 0x3A x.1)) (pair s rest) e in
      let q = part_reads t (x.0.1) (x.0.0) x.1 in
      index_cases q.front t (x.0.1) rest (x.0.0) s (behind 0x3A (x.0.1)) q.parts q.is refl x.2

  name_reads : ReadsOne name_at (Trailed (Selector P))
  unfolding name_at
  name_reads t rest s e = reads_trimmed StringLiteral (Selector P) tree.name string_at t rest s string_reads (λ u cs p. quoted p) e

  wild_reads : (c : ℕ) (t rest : Text) (s : tree.Selector) → c ≡ 0x2A → tree.wild ≡ s → after_run is_blank t ≡ rest → Reads (Trailed (Selector P)) (c ∷ t) s rest
  wild_reads c t rest s k w e = record {
    front = 0x2A ∷ front_run is_blank t;
    parts = rw k (ap (λ (u : Text). 0x2A ∷ u) (run_parts is_blank t ∙ ap (λ (u : Text). front_run is_blank t ++ u) e));
    is = record { front = 0x2A ∷ []; blanks = front_run is_blank t; parts = refl; are_blank = run_passes is_blank t; is = subst (λ (z : tree.Selector). Selector P (0x2A ∷ []) z) w every };
  }

  -- a filter and the blanks behind it
  filter_reads : (c : ℕ) (t rest : Text) (s : tree.Selector) → c ≡ 0x3F → filter_at condition t ≡ found s rest → Reads (Trailed (Selector P)) (c ∷ t) s rest
  unfolding filter_at
  filter_reads c t rest s ck e =
      let x = bind_some (condition (after_run is_blank t)) (λ x. found (tree.filter x.0) (after_run is_blank x.1)) (pair s rest) e in
      let u = x.0.1 in
      let p = same_pair (tree.filter (x.0.0)) s (after_run is_blank u) rest x.2 in
      let r = reads (after_run is_blank t) u (x.0.0) x.1 in
      let b = front_run is_blank t in
      record {
        front = 0x3F ∷ (b ++ (r.front ++ front_run is_blank u));
        parts = rw ck (ap (λ (v : Text). 0x3F ∷ v) (filter_parts b r.front (front_run is_blank u) rest t (after_run is_blank t) u (run_parts is_blank t) r.parts (run_parts is_blank u ∙ ap (λ (v : Text). front_run is_blank u ++ v) p.1)));
        is = record {
          front = 0x3F ∷ (b ++ r.front);
          blanks = front_run is_blank u;
          parts = ap (λ (v : Text). 0x3F ∷ v) (sym (append_assoc b r.front (front_run is_blank u)));
          are_blank = run_passes is_blank u;
          is = subst (λ (z : tree.Selector). Selector P (0x3F ∷ (b ++ r.front)) z) p.0 (those b (run_passes is_blank t) r.is);
        };
      }

  selector_reads : ReadsOne (selector_at condition) (Trailed (Selector P))
  unfolding selector_at
  selector_reads [] rest s e = absurd cc
  selector_reads (c ∷ t) rest s e = elim (picked (c == 0x2A) _ _ _ _ _ e) [
    | inl h ↦ wild_reads c t rest s (eqb-true c 0x2A h.0) h.1.0 h.1.1
    | inr h ↦ elim (chosen (c == 0x22 || c == 0x27) _ _ _ h.1) [
      | inl k ↦ name_reads (c ∷ t) rest s k.1
      | inr k ↦ elim (chosen (c == 0x3F) _ _ _ k.1) [
        | inl m ↦ filter_reads c t rest s (eqb-true c 0x3F m.0) m.1
        | inr m ↦ index_reads (c ∷ t) rest s m.1
      ]
    ]
  ]

  bracketed_reads : ReadsOne (bracketed_at condition) (λ u ss. Bracketed P (0x5B ∷ u) ss)
  unfolding bracketed_at selectors_at
  bracketed_reads t rest ss e =
      let x = bind_some (list_at next_selector (selector_at condition) (after_run is_blank t)) (λ x. behind 0x5D x.1 >>= λ r. found x.0 r) (pair ss rest) e in
      let y = bind_some (behind 0x5D (x.0.1)) (λ r. found (x.0.0) r) (pair ss rest) x.2 in
      let p = same_pair (x.0.0) ss (y.0) rest y.2 in
      let b = front_run is_blank t in
      let r = list_reads next_selector (selector_at condition) (Behind (0x2C ∷ [])) (Trailed (Selector P)) finds_selector selector_reads (after_run is_blank t) (x.0.1) (x.0.0) x.1 in
      let l = list_tight (0x2C ∷ []) (Selector P) r.front (x.0.0) r.is in
      record {
        front = b ++ (l.front ++ (l.blanks ++ (0x5D ∷ [])));
        parts = bracket_parts b l.front l.blanks rest t (after_run is_blank t) (x.0.1) (run_parts is_blank t) (r.parts ∙ ap (λ (u : Text). u ++ x.0.1) l.parts) (behind_reads 0x5D (x.0.1) (y.0) y.1 ∙ ap (λ (u : Text). 0x5D ∷ u) p.1);
        is = subst (λ (z : List tree.Selector). Bracketed P (0x5B ∷ (b ++ (l.front ++ (l.blanks ++ (0x5D ∷ []))))) z) p.0 (bracketed b l.blanks (run_passes is_blank t) l.are_blank l.is);
      }

  -- selectors in brackets or alone
  data Body : Text → List tree.Selector → Type 0 where
    in_brackets : {t : Text} {ss : List tree.Selector} → Bracketed P t ss → Body t ss
    alone : {t : Text} {s : tree.Selector} → Dotted t s → Body t (s ∷ [])

  from_reads : (t rest : Text) (ss : List tree.Selector) (k : Option Text) → behind 0x5B t ≡ k → selectors_from condition t k ≡ found ss rest → Reads Body t ss rest
  unfolding selectors_from
  from_reads t rest ss (Some u) h e =
      let r = bracketed_reads u rest ss e in
      record { front = 0x5B ∷ r.front; parts = behind_reads 0x5B t u h ∙ ap (λ (v : Text). 0x5B ∷ v) r.parts; is = in_brackets r.is }
  from_reads t rest ss None h e = reads_mapped Dotted Body (λ s. s ∷ []) dotted_at t rest ss dotted_reads (λ u s p. alone p) e

  no_bracketed : (u : Text) (ss : List tree.Selector) (c : ℕ) (v rest : Text) → (c == 0x5B) ≡ false → c ∷ v ≡ u ++ rest → Bracketed P u ss → ⊥
  no_bracketed _ _ c v rest n e (bracketed {t} b d hb hd p) = clash c (same_head c 0x5B v ((b ++ (t ++ (d ++ (0x5D ∷ [])))) ++ rest) e) n

  segment_is : (t u rest : Text) (d : Bool) (ss : List tree.Selector) → Opens t d u → Reads Body u ss rest → Reads (Segment P) t (segment_from d ss) rest
  segment_is _ _ rest _ ss (with_bracket {u}) r = bracket_is r.front ss r.parts r.is
    where
      bracket_is : (f : Text) (xs : List tree.Selector) → 0x5B ∷ u ≡ f ++ rest → Body f xs → Reads (Segment P) (0x5B ∷ u) (segment_from false xs) rest
      bracket_is f xs e (in_brackets p) = record { front = f; parts = e; is = child_bracketed p }
      bracket_is f xs e (alone {s = s} p) = absurd (no_dotted f s u rest e p)
  segment_is _ _ rest _ ss (with_dot {c} {u} n) r = dot_is r.front ss r.parts r.is
    where
      dot_is : (f : Text) (xs : List tree.Selector) → c ∷ u ≡ f ++ rest → Body f xs → Reads (Segment P) (0x2E ∷ c ∷ u) (segment_from false xs) rest
      dot_is f xs e (in_brackets {ss = ys} p) = absurd (no_bracketed f ys c u rest n e p)
      dot_is f xs e (alone p) = record { front = 0x2E ∷ f; parts = ap (λ (v : Text). 0x2E ∷ v) e; is = child_dotted p }
  segment_is _ _ rest _ ss (with_dots {u}) r = dots_is r.front ss r.parts r.is
    where
      dots_is : (f : Text) (xs : List tree.Selector) → u ≡ f ++ rest → Body f xs → Reads (Segment P) (0x2E ∷ 0x2E ∷ u) (segment_from true xs) rest
      dots_is f xs e (in_brackets p) = record { front = 0x2E ∷ 0x2E ∷ f; parts = ap (λ (v : Text). 0x2E ∷ 0x2E ∷ v) e; is = descendant_bracketed p }
      dots_is f xs e (alone p) = record { front = 0x2E ∷ 0x2E ∷ f; parts = ap (λ (v : Text). 0x2E ∷ 0x2E ∷ v) e; is = descendant_dotted p }

  segment_reads : ReadsOne (segment_at condition) (Segment P)
  unfolding segment_at
  segment_reads t rest s e =
      let x = bind_some (opening_at t) (λ x. selectors_from condition x.1 (behind 0x5B x.1) >>= λ ss. found (segment_from x.0 ss.0) ss.1) (pair s rest) e in
      let y = bind_some (selectors_from condition (x.0.1) (behind 0x5B (x.0.1))) (λ ss. found (segment_from (x.0.0) ss.0) ss.1) (pair s rest) x.2 in
      let p = same_pair (segment_from (x.0.0) (y.0.0)) s (y.0.1) rest y.2 in
      let u = from_reads (x.0.1) (y.0.1) (y.0.0) (behind 0x5B (x.0.1)) refl y.1 in
      let r = segment_is t (x.0.1) (y.0.1) (x.0.0) (y.0.0) (opening_opens t (x.0.1) (x.0.0) x.1) u in
      record { front = r.front; parts = r.parts ∙ ap (λ (v : Text). r.front ++ v) p.1; is = subst (λ (z : OneSegment). Segment P r.front z) p.0 r.is }

  pub segments_read : ReadsOne (segments_at condition) (Repeated (Segment P))
  unfolding segments_at
  segments_read t rest ss e = many_reads next_segment (segment_at condition) Blanks (Segment P) finds_segment segment_reads (length t) t rest ss e

  nested_reads : (c k : ℕ) (from_root : Bool) (t rest : Text) (q : tree.Nested) → c ≡ k → ((u : Text) (ss : List OneSegment) → Repeated (Segment P) u ss → SubQuery P (k ∷ u) (tree.nested from_root (segments_of ss)))
      → (segments_at condition t >>= λ x. found (tree.nested from_root (segments_of x.0)) x.1) ≡ found q rest → Reads (SubQuery P) (c ∷ t) q rest
  nested_reads c k from_root t rest q ck make e =
      reads_behind (λ u x. SubQuery P (k ∷ u) x) (SubQuery P) c k t rest q ck (λ u d. d) (reads_mapped (Repeated (Segment P)) (λ u x. SubQuery P (k ∷ u) x) (λ ss. tree.nested from_root (segments_of ss)) (segments_at condition) t rest q segments_read make e)

  begins_with : (c : ℕ) (t rest : Text) (q : tree.Nested) (a b : Bool) → (c == 0x24) ≡ a → (c == 0x40) ≡ b
      → cond (a || b) (segments_at condition t >>= λ x. found (tree.nested a (segments_of x.0)) x.1) None ≡ found q rest → Reads (SubQuery P) (c ∷ t) q rest
  begins_with c t rest q true b h k e = nested_reads c 0x24 true t rest q (eqb-true c 0x24 h) (λ u ss r. root_query r) e
  begins_with c t rest q false true h k e = nested_reads c 0x40 false t rest q (eqb-true c 0x40 k) (λ u ss r. child_query r) e
  begins_with c t rest q false false h k e = absurd cc

  pub sub_query_reads : ReadsOne (sub_query_at condition) (SubQuery P)
  unfolding sub_query_at
  sub_query_reads [] rest q e = absurd cc
  sub_query_reads (c ∷ t) rest q e = begins_with c t rest q (c == 0x24) (c == 0x40) refl refl e
