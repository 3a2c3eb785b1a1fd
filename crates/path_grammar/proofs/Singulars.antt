-- Singular queries, by their texts and by their trees.
use Rattle.std.proofs.Common.{◌≡◌, ◌≤◌, true, false, List, [], ◌∷◌, ◌++◌, length, refl, sym, subst, arith}
use Rattle.std.proofs.lemmas.Bool.{and_parts}
use Rattle.std.proofs.lemmas.List.{append-nil}
use Rattle.path_grammar.specs.Tree as tree
use Rattle.path_grammar.specs.Tree.{OneSegment, segments_of, selectors_of}
use Rattle.path_grammar.specs.Characters.{Text, Blanks}
use Rattle.path_grammar.specs.Lists.{Many, none, next, first, Separated, Repeated}
use Rattle.path_grammar.specs.Grammar.{Selector, quoted, every, sliced, at, those, two_parts, three_parts, Dotted, dot_every, dot_name, Bracketed, bracketed, Segment, child_bracketed, child_dotted, descendant_bracketed, descendant_dotted, SubQuery, root_query, child_query, of_children, SingularSegment, shorthand_segment, name_segment, index_segment, SingularQuery, from_root, from_child}
use Rattle.path_grammar.specs.Singular.{is_one, is_singular, is_singular_query}
use Rattle.path_grammar.specs.View.{selectors_view, selector_view}
use Rattle.path_grammar.specs.declared.ast.Selector as ast

not_one : (s t : tree.Selector) (ss : tree.Selectors) → false ≡ is_one (tree.selector s (tree.selector t ss))
not_one (tree.name scalars) t ss = refl
not_one tree.wild t ss = refl
not_one (tree.index i) t ss = refl
not_one (tree.filter e) t ss = refl
not_one (tree.slice start stop step) t ss = refl

pub more_selectors : (ss : List ast.Selector) → 2 ≤ length ss → false ≡ is_one (selectors_view ss)
more_selectors [] h = absurd (omega arith)
more_selectors (s ∷ []) h = absurd (omega arith)
more_selectors (s ∷ t ∷ ss) h = not_one (selector_view s) (selector_view t) (selectors_view ss)

-- ---- lists of one

pub one_item : {X : Type 0} (s : Text) (R : Text → X → Type 0) (t : Text) (x : X) → R t x → Separated s R t (x ∷ [])
one_item s R t x p = subst (λ (u : Text). Separated s R u (x ∷ [])) (append-nil t) (first p none)

pub only_item : {X : Type 0} (s : Text) (R : Text → X → Type 0) (t : Text) (x : X) → Separated s R t (x ∷ []) → R t x
only_item s R _ x (first {t} p none) = subst (λ (u : Text). R u x) (sym (append-nil t)) p

pub many_mapped : {X : Type 0} (Gap : Text → Type 0) (R S : Text → X → Type 0) (t : Text) (xs : List X) → ((u : Text) (x : X) → R u x → S u x) → Many Gap R t xs → Many Gap S t xs
many_mapped Gap R S _ _ h none = none
many_mapped Gap R S _ _ h (next {t} {u} {x} {xs} g k p more) = next g k (h t x p) (many_mapped Gap R S u xs h more)

-- ---- a singular query is a query, and its tree says that it is singular

module _ (P : Text → tree.Expr → Type 0) where
  bracketed_one : (b t c : Text) (s : tree.Selector) → Blanks b → Blanks c → Selector P t s → Bracketed P (0x5B ∷ (b ++ (t ++ (c ++ (0x5D ∷ []))))) (s ∷ [])
  bracketed_one b t c s hb hc p = bracketed b c hb hc (one_item (0x2C ∷ []) (Selector P) t s p)

  one_segment : (t : Text) (s : OneSegment) → SingularSegment t s → Segment P t s
  one_segment _ _ (shorthand_segment t h) = child_dotted (dot_name t h)
  one_segment _ _ (name_segment {t} {cs} b c hb hc p) = child_bracketed (bracketed_one b t c (tree.name cs) hb hc (quoted p))
  one_segment _ _ (index_segment {t} {i} b c hb hc p) = child_bracketed (bracketed_one b t c (tree.index i) hb hc (at p))

  pub singular_is_query : (t : Text) (q : tree.Nested) → SingularQuery t q → SubQuery P t q
  singular_is_query _ _ (from_root {t} {ss} r) = root_query (many_mapped Blanks SingularSegment (Segment P) t ss one_segment r)
  singular_is_query _ _ (from_child {t} {ss} r) = child_query (many_mapped Blanks SingularSegment (Segment P) t ss one_segment r)

singular_step : (t : Text) (s : OneSegment) (ss : tree.Segments) → SingularSegment t s → is_singular ss ≡ true → is_singular (tree.segment s.descend s.selectors ss) ≡ true
singular_step _ _ ss (shorthand_segment t h) e = e
singular_step _ _ ss (name_segment b c hb hc p) e = e
singular_step _ _ ss (index_segment b c hb hc p) e = e

are_singular : (t : Text) (ss : List OneSegment) → Repeated SingularSegment t ss → is_singular (segments_of ss) ≡ true
are_singular _ _ none = refl
are_singular _ _ (next {t} {u} {x} {xs} g hg p more) = singular_step t x (segments_of xs) p (are_singular u xs more)

pub singular_says_so : (t : Text) (q : tree.Nested) → SingularQuery t q → is_singular_query q ≡ true
singular_says_so _ _ (from_root {t} {ss} r) = are_singular t ss r
singular_says_so _ _ (from_child {t} {ss} r) = are_singular t ss r

-- ---- and a query whose tree says that it is singular is a singular query

module _ (P : Text → tree.Expr → Type 0) where
  one_in_brackets : (b t c : Text) (s : tree.Selector) → Blanks b → Blanks c → Selector P t s → is_one (selectors_of (s ∷ [])) ≡ true → SingularSegment (0x5B ∷ (b ++ (t ++ (c ++ (0x5D ∷ []))))) (of_children (s ∷ []))
  one_in_brackets b t c _ hb hc (quoted p) h = name_segment b c hb hc p
  one_in_brackets b _ c _ hb hc every h = absurd cc
  one_in_brackets b t c _ hb hc (sliced (two_parts d x y z)) h = absurd cc
  one_in_brackets b t c _ hb hc (sliced (three_parts d x y z w)) h = absurd cc
  one_in_brackets b t c _ hb hc (at p) h = index_segment b c hb hc p
  one_in_brackets b _ c _ hb hc (those d hd p) h = absurd cc

  two_clash : (s u : tree.Selector) (ss : tree.Selectors) → is_one (tree.selector s (tree.selector u ss)) ≡ true → ⊥
  two_clash s u ss h = let n = not_one s u ss in absurd cc

  all_in_brackets : (b t c : Text) (ss : List tree.Selector) → Blanks b → Blanks c → Separated (0x2C ∷ []) (Selector P) t ss → is_one (selectors_of ss) ≡ true → SingularSegment (0x5B ∷ (b ++ (t ++ (c ++ (0x5D ∷ []))))) (of_children ss)
  all_in_brackets b t c [] hb hc p h = absurd cc
  all_in_brackets b t c (s ∷ []) hb hc p h = one_in_brackets b t c s hb hc (only_item (0x2C ∷ []) (Selector P) t s p) h
  all_in_brackets b t c (s ∷ u ∷ ss) hb hc p h = absurd (two_clash s u (selectors_of ss) h)

  one_alone : (t : Text) (s : tree.Selector) → Dotted t s → is_one (selectors_of (s ∷ [])) ≡ true → SingularSegment (0x2E ∷ t) (of_children (s ∷ []))
  one_alone _ _ dot_every h = absurd cc
  one_alone _ _ (dot_name t h) k = shorthand_segment t h

  singular_parts : (t : Text) (s : OneSegment) (ss : tree.Segments) → Segment P t s → is_singular (tree.segment s.descend s.selectors ss) ≡ true → SingularSegment t s × (is_singular ss ≡ true)
  singular_parts _ _ ss (child_bracketed (bracketed {t} {ss = xs} b c hb hc p)) h =
      let k = and_parts (is_one (selectors_of xs)) (is_singular ss) h in
      (all_in_brackets b t c xs hb hc p k.0, k.1)
  singular_parts _ _ ss (child_dotted {t} {s} d) h =
      let k = and_parts (is_one (selectors_of (s ∷ []))) (is_singular ss) h in
      (one_alone t s d k.0, k.1)
  singular_parts _ _ ss (descendant_bracketed p) h = absurd cc
  singular_parts _ _ ss (descendant_dotted d) h = absurd cc

  segments_singular : (t : Text) (ss : List OneSegment) → Repeated (Segment P) t ss → is_singular (segments_of ss) ≡ true → Repeated SingularSegment t ss
  segments_singular _ _ none h = none
  segments_singular _ _ (next {t} {u} {x} {xs} g hg p more) h =
      let k = singular_parts t x (segments_of xs) p h in
      next g hg k.0 (segments_singular u xs more k.1)

  pub query_singular : (t : Text) (q : tree.Nested) → SubQuery P t q → is_singular_query q ≡ true → SingularQuery t q
  query_singular _ _ (root_query {t} {ss} r) h = from_root (segments_singular t ss r h)
  query_singular _ _ (child_query {t} {ss} r) h = from_child (segments_singular t ss r h)
