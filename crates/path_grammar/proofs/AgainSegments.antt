-- Selectors, segments and queries in filters that are spelled are read again, whatever follows them that may follow.
use Rattle.std.proofs.Common.{◌≡◌, ℕ, ◌<◌, Bool, true, false, ◌&&◌, ◌||◌, ◌==◌, List, [], ◌∷◌, ◌++◌, length, Option, Some, None, refl, sym, ap, ◌∙◌, append_assoc, length-append, arith}
use Rattle.std.proofs.lemmas.Bool.{and_parts}
use Rattle.std.proofs.lemmas.Bool.Decides.{nat_tests}
use Rattle.std.specs.List.{list_all}
use Rattle.path_grammar.specs.Tree as tree
use Rattle.path_grammar.specs.Tree.{OneSegment}
use Rattle.path_grammar.specs.Characters.{Text, is_blank, is_digit, is_first, Blanks}
use Rattle.path_grammar.specs.Lists.{Repeated, Separated, first}
use Rattle.path_grammar.specs.Numbers.{Int}
use Rattle.path_grammar.specs.Grammar.{Bound, no_bound, bound, Step, no_step, step, Slice, two_parts, three_parts, Selector, quoted, every, sliced, at, those, bracketed, Shorthand, Dotted, dot_every, dot_name, of_children, of_descendants, Segment, child_bracketed, child_dotted, descendant_bracketed, descendant_dotted, SubQuery, root_query, child_query}
use Rattle.path_grammar.specs.Reading.{Reader, is_name, front_run, after_run, behind, list_at}
use Rattle.path_grammar.specs.ReadingNumbers.{begins_int, part_at}
use Rattle.path_grammar.specs.ReadingStrings.{string_at}
use Rattle.path_grammar.specs.ReadingSegments.{step_from, step_at, slice_at, index_from, index_at, name_at, filter_at, selector_at, next_selector, selectors_at, bracketed_at, dotted_at, dots_at, opening_at, selectors_from, segment_at, at_segment, begins_segment, next_segment, segments_at, begins_query, sub_query_at}
use Rattle.path_grammar.specs.declared.ast.IntLit.{IntLit}
use Rattle.path_grammar.proofs.Read.{found, Trailed}
use Rattle.path_grammar.proofs.ReadLists.{Behind, list_loose}
use Rattle.path_grammar.proofs.Again.{Stops, Starts, front_again, after_again, starts_stops, stops_at, starts_wider, append_starts, starts_not_empty, blanks_stop, behind_same, behind_other, two_tests, many_again, list_again}
use Rattle.path_grammar.proofs.AgainNumbers.{ends_part, blank_int, int_starts, int_part, bound_again, bound_between}
use Rattle.path_grammar.proofs.AgainStrings.{string_again, string_starts}
use Rattle.path_grammar.proofs.AgainLiterals.{begins_expression, blank_expression}
use Rattle.path_grammar.proofs.Followed.{Followed, ends_or, ends_side, follows, starts_closes, name_stops, no_segment}

-- what may follow a selector
abbrev ends_selector : ℕ → Bool
ends_selector c = c == 0x2C || c == 0x5D

selector_part : (c : ℕ) → ends_selector c ≡ true → ends_part c ≡ true
selector_part c e = grind (arith, nat_tests)

blank_ends : (c : ℕ) → ends_selector c ≡ true → is_blank c ≡ false
blank_ends c e = grind (arith, nat_tests)

no_colon : (c : ℕ) → ends_selector c ≡ true → (c == 0x3A) ≡ false
no_colon c e = grind (arith, nat_tests)

part_end : (rest : Text) → Starts ends_selector rest → Starts ends_part rest
part_end rest s = starts_wider ends_selector ends_part rest selector_part s

no_second : (rest : Text) → Starts ends_selector rest → behind 0x3A rest ≡ None
no_second rest s = rw s.is (behind_other 0x3A s.head s.tail (no_colon s.head s.passes))

trimmed : (c rest : Text) → Blanks c → Starts ends_selector rest → after_run is_blank (c ++ rest) ≡ rest
trimmed c rest hc s = after_again is_blank c rest hc (stops_at ends_selector is_blank rest blank_ends s)

colon_starts : (t : Text) → Starts ends_part (0x3A ∷ t)
colon_starts t = record { head = 0x3A; tail = t; is = refl; passes = refl }

step_part : (v c rest : Text) (o : Option IntLit) → Step v o → Blanks c → Starts ends_part rest → part_at (after_run is_blank (v ++ (c ++ rest))) ≡ found o rest
step_part _ c rest _ no_step hc s = bound_between [] [] c rest None refl no_bound hc s
step_part _ c rest _ (step {t} {i} b hb p) hc s =
    let e : (b ++ t) ++ (c ++ rest) ≡ b ++ (t ++ (c ++ rest)) = append_assoc b t (c ++ rest) in
    let a : after_run is_blank (b ++ (t ++ (c ++ rest))) ≡ t ++ (c ++ rest) = after_again is_blank b (t ++ (c ++ rest)) hb (starts_stops begins_int is_blank t (c ++ rest) blank_int (int_starts t i p)) in
    rw (e, a) (int_part t c rest i p hc s)

two_again : (b u c rest : Text) (start stop : Option IntLit) → Blanks b → Bound u stop → Blanks c → Starts ends_selector rest → slice_at start (b ++ (u ++ (c ++ rest))) ≡ found (tree.slice start stop None) rest
unfolding slice_at step_at step_from
two_again b u c rest start stop hb hu hc s = rw (bound_between b u c rest stop hb hu hc (part_end rest s), no_second rest s) refl

three_again : (b u v c rest : Text) (start stop by : Option IntLit) → Blanks b → Bound u stop → Step v by → Blanks c → Starts ends_selector rest → slice_at start (b ++ (u ++ (0x3A ∷ (v ++ (c ++ rest))))) ≡ found (tree.slice start stop by) rest
unfolding slice_at step_at step_from
three_again b u v c rest start stop by hb hu hv hc s =
    rw (bound_between b u [] (0x3A ∷ (v ++ (c ++ rest))) stop hb hu refl (colon_starts (v ++ (c ++ rest))), behind_same 0x3A (v ++ (c ++ rest)) refl, step_part v c rest by hv hc (part_end rest s)) refl

slice_from : (a t rest : Text) (start : Option IntLit) (s : tree.Selector) → Bound a start → slice_at start t ≡ found s rest → index_at (a ++ (0x3A ∷ t)) ≡ found s rest
unfolding index_at index_from
slice_from a t rest start s ha e = rw (bound_again a (0x3A ∷ t) start ha (colon_starts t), behind_same 0x3A t refl) e

sliced_again : (t c rest : Text) (s : tree.Selector) → Slice t s → Blanks c → Starts ends_selector rest → index_at (t ++ (c ++ rest)) ≡ found s rest
sliced_again _ c rest _ (two_parts {t} {u} {start} {stop} b ha hb hu) hc s =
    let e : (t ++ (0x3A ∷ (b ++ u))) ++ (c ++ rest) ≡ t ++ (0x3A ∷ (b ++ (u ++ (c ++ rest)))) = simp append_assoc in
    rw e (slice_from t (b ++ (u ++ (c ++ rest))) rest start (tree.slice start stop None) ha (two_again b u c rest start stop hb hu hc s))
sliced_again _ c rest _ (three_parts {t} {u} {v} {start} {stop} {step = by} b ha hb hu hv) hc s =
    let e : (t ++ (0x3A ∷ (b ++ (u ++ (0x3A ∷ v))))) ++ (c ++ rest) ≡ t ++ (0x3A ∷ (b ++ (u ++ (0x3A ∷ (v ++ (c ++ rest)))))) = simp append_assoc in
    rw e (slice_from t (b ++ (u ++ (0x3A ∷ (v ++ (c ++ rest))))) rest start (tree.slice start stop by) ha (three_again b u v c rest start stop by hb hu hv hc s))

index_again : (t c rest : Text) (i : IntLit) → Int t i → Blanks c → Starts ends_selector rest → index_at (t ++ (c ++ rest)) ≡ found (tree.index i) rest
unfolding index_at index_from
index_again t c rest i p hc s = rw (int_part t c rest i p hc (part_end rest s), no_second rest s) refl

-- where an index or a slice begins
abbrev begins_index : ℕ → Bool
begins_index c = begins_int c || c == 0x3A

abbrev begins_selector : ℕ → Bool
begins_selector c = begins_index c || c == 0x2A || c == 0x22 || c == 0x27 || c == 0x3F

blank_selector : (c : ℕ) → begins_selector c ≡ true → is_blank c ≡ false
blank_selector c e = grind (arith, nat_tests)

index_selector : (c : ℕ) → begins_index c ≡ true → begins_selector c ≡ true
index_selector c e = grind (arith, nat_tests)

int_index : (c : ℕ) → begins_int c ≡ true → begins_index c ≡ true
int_index c e = grind (arith, nat_tests)

no_star : (c : ℕ) → begins_index c ≡ true → (c == 0x2A) ≡ false
no_star c e = grind (arith, nat_tests)

no_question : (c : ℕ) → begins_index c ≡ true → (c == 0x3F) ≡ false
no_question c e = grind (arith, nat_tests)

no_quote : (c : ℕ) → begins_index c ≡ true → (c == 0x22 || c == 0x27) ≡ false
no_quote c e = grind (arith, nat_tests)

bound_colon : (a t : Text) (o : Option IntLit) → Bound a o → Starts begins_index (a ++ (0x3A ∷ t))
bound_colon _ t _ no_bound = record { head = 0x3A; tail = t; is = refl; passes = refl }
bound_colon _ t _ (bound {t = u} {i} b p hb) = rw (append_assoc u b (0x3A ∷ t)) (append_starts begins_index u (b ++ (0x3A ∷ t)) (starts_wider begins_int begins_index u int_index (int_starts u i p)))

slice_starts : (t : Text) (s : tree.Selector) → Slice t s → Starts begins_index t
slice_starts _ _ (two_parts {t} {u} {start} {stop} b ha hb hu) = bound_colon t (b ++ u) start ha
slice_starts _ _ (three_parts {t} {u} {v} {start} {stop} b ha hb hu hv) = bound_colon t (b ++ (u ++ (0x3A ∷ v))) start ha

quote_selector : (c : ℕ) → (c == 0x22 || c == 0x27) ≡ true → begins_selector c ≡ true
quote_selector c e = grind (arith, nat_tests)

quote_star : (c : ℕ) → (c == 0x22 || c == 0x27) ≡ true → (c == 0x2A) ≡ false
quote_star c e = grind (arith, nat_tests)

no_comma : (rest : Text) → next_selector (0x5D ∷ rest) ≡ None
unfolding next_selector
no_comma rest = rw (behind_other 0x2C 0x5D rest refl) refl

bracket_ends : (b t c rest : Text) → (b ++ (t ++ (c ++ (0x5D ∷ [])))) ++ rest ≡ b ++ ((t ++ c) ++ (0x5D ∷ rest))
bracket_ends b t c rest = simp append_assoc

star_first : (c : ℕ) → is_first c ≡ true → (c == 0x2A) ≡ false
star_first c e = grind (arith, nat_tests)

dot_first : (c : ℕ) → is_first c ≡ true → (c == 0x2E) ≡ false
dot_first c e = grind (arith, nat_tests)

bracket_first : (c : ℕ) → is_first c ≡ true → (c == 0x5B) ≡ false
bracket_first c e = grind (arith, nat_tests)

name_picked : (c : ℕ) (t name rest : Text) → (c == 0x2A) ≡ false → is_first c ≡ true → front_run is_name (c ∷ t) ≡ name → after_run is_name (c ∷ t) ≡ rest → dotted_at (c ∷ t) ≡ found (tree.name name) rest
unfolding dotted_at
name_picked c t name rest h k f a = sym (rw (← f, ← a) (sym (two_tests (c == 0x2A) (is_first c) _ (found (tree.name (front_run is_name (c ∷ t))) (after_run is_name (c ∷ t))) _ h k)))

name_again : (c : ℕ) (cs rest : Text) → (is_first c && list_all is_name cs) ≡ true → Stops is_name rest → dotted_at (c ∷ cs ++ rest) ≡ found (tree.name (c ∷ cs)) rest
name_again c cs rest h s =
    let k = and_parts (is_first c) (list_all is_name cs) h in
    let m : list_all is_name (c ∷ cs) ≡ true = rw (k.0, k.1) refl in
    let f : front_run is_name (c ∷ cs ++ rest) ≡ c ∷ cs = front_again is_name (c ∷ cs) rest m s in
    let a : after_run is_name (c ∷ cs ++ rest) ≡ rest = after_again is_name (c ∷ cs) rest m s in
    name_picked c (cs ++ rest) (c ∷ cs) rest (star_first c (k.0)) (k.0) f a

dotted_name_again : (t rest : Text) → Shorthand t → Stops is_name rest → dotted_at (t ++ rest) ≡ found (tree.name t) rest
dotted_name_again [] rest h s = absurd cc
dotted_name_again (c ∷ cs) rest h s = name_again c cs rest h s

dotted_again : (t rest : Text) (s : tree.Selector) → Dotted t s → Stops is_name rest → dotted_at (t ++ rest) ≡ found s rest
unfolding dotted_at
dotted_again _ rest _ dot_every s = refl
dotted_again _ rest _ (dot_name t h) s = dotted_name_again t rest h s

abbrev begins_dotted : ℕ → Bool
begins_dotted c = is_first c || c == 0x2A

shorthand_starts : (t : Text) → Shorthand t → Starts begins_dotted t
shorthand_starts [] h = absurd cc
shorthand_starts (c ∷ cs) h = let k = (and_parts (is_first c) (list_all (λ d. is_first d || is_digit d) cs) h).0 in record { head = c; tail = cs; is = refl; passes = rw k refl }

dotted_starts : (t : Text) (s : tree.Selector) → Dotted t s → Starts begins_dotted t
dotted_starts _ _ dot_every = record { head = 0x2A; tail = []; is = refl; passes = refl }
dotted_starts _ _ (dot_name t h) = shorthand_starts t h

dotted_dot : (c : ℕ) → begins_dotted c ≡ true → (c == 0x2E) ≡ false
dotted_dot c e = grind (arith, nat_tests)

dotted_bracket : (c : ℕ) → begins_dotted c ≡ true → (c == 0x5B) ≡ false
dotted_bracket c e = grind (arith, nat_tests)

blank_segment : (c : ℕ) → begins_segment c ≡ true → is_blank c ≡ false
blank_segment c e = grind (arith, nat_tests)

name_segment : (c : ℕ) → begins_segment c ≡ true → is_name c ≡ false
name_segment c e = grind (arith, nat_tests)

no_name : (c : ℕ) → is_blank c ≡ true → is_name c ≡ false
no_name c e = grind (arith, nat_tests)

next_from : (g u : Text) → Blanks g → Starts begins_segment u → next_segment (g ++ u) ≡ Some u
unfolding next_segment at_segment
next_from g u hg h =
    let a : after_run is_blank (g ++ u) ≡ u = after_again is_blank g u hg (stops_at begins_segment is_blank u blank_segment h) in
    let k : u ≡ h.head ∷ h.tail = h.is in
    rw (a, k, h.passes) refl

or_selector : (c : ℕ) → ends_selector c ≡ true → ends_or c ≡ true
or_selector c e = grind (arith, nat_tests)

-- ---- where `condition` reads what stands in a filter

module _ (condition : Reader tree.Expr) (P : Text → tree.Expr → Type 0)
    (condition_again : (t rest : Text) (e : tree.Expr) → P t e → Followed ends_or rest → condition (t ++ rest) ≡ found e rest)
    (condition_starts : (t : Text) (e : tree.Expr) → P t e → Starts begins_expression t) where
  selector_starts : (t : Text) (s : tree.Selector) → Selector P t s → Starts begins_selector t
  selector_starts t _ (quoted {cs = cs} p) = starts_wider (λ c. c == 0x22 || c == 0x27) begins_selector t quote_selector (string_starts t cs p)
  selector_starts _ _ every = record { head = 0x2A; tail = []; is = refl; passes = refl }
  selector_starts t s (sliced p) = starts_wider begins_index begins_selector t index_selector (slice_starts t s p)
  selector_starts t _ (at {i = i} p) = starts_wider begins_index begins_selector t index_selector (starts_wider begins_int begins_index t int_index (int_starts t i p))
  selector_starts _ _ (those {t} b hb p) = record { head = 0x3F; tail = b ++ t; is = refl; passes = refl }

  by_index : (t u rest : Text) (s : tree.Selector) → Starts begins_index t → index_at (t ++ u) ≡ found s rest → selector_at condition (t ++ u) ≡ found s rest
  unfolding selector_at
  by_index t u rest s h e =
      let k : t ++ u ≡ h.head ∷ h.tail ++ u = rw h.is refl in
      let d : index_at (h.head ∷ h.tail ++ u) ≡ found s rest = rw k at e in
      rw (k, no_star h.head h.passes, no_quote h.head h.passes, no_question h.head h.passes) d

  by_name : (t u rest : Text) (cs : List ℕ) → Starts (λ c. c == 0x22 || c == 0x27) t → string_at (t ++ u) ≡ found cs u → after_run is_blank u ≡ rest → selector_at condition (t ++ u) ≡ found (tree.name cs) rest
  unfolding selector_at name_at
  by_name t u rest cs h e a =
      let k : t ++ u ≡ h.head ∷ h.tail ++ u = rw h.is refl in
      let d : string_at (h.head ∷ h.tail ++ u) ≡ found cs u = rw k at e in
      rw (k, quote_star h.head h.passes, h.passes, d, a) refl

  filter_again : (b t c rest : Text) (e : tree.Expr) → Blanks b → P t e → Blanks c → Starts ends_selector rest → selector_at condition (0x3F ∷ ((b ++ t) ++ (c ++ rest))) ≡ found (tree.filter e) rest
  unfolding selector_at filter_at
  filter_again b t c rest e hb p hc s =
      let k : (b ++ t) ++ (c ++ rest) ≡ b ++ (t ++ (c ++ rest)) = append_assoc b t (c ++ rest) in
      let a : after_run is_blank (b ++ (t ++ (c ++ rest))) ≡ t ++ (c ++ rest) = after_again is_blank b (t ++ (c ++ rest)) hb (starts_stops begins_expression is_blank t (c ++ rest) blank_expression (condition_starts t e p)) in
      let f : Followed ends_or (c ++ rest) = follows ends_or c rest hc (starts_closes ends_or rest (starts_wider ends_selector ends_or rest or_selector s)) in
      rw (k, a, condition_again t (c ++ rest) e p f, trimmed c rest hc s) refl

  star_again : (u rest : Text) → after_run is_blank u ≡ rest → selector_at condition (0x2A ∷ u) ≡ found tree.wild rest
  unfolding selector_at
  star_again u rest a = rw a refl

  selector_again : (t c rest : Text) (s : tree.Selector) → Selector P t s → Blanks c → Starts ends_selector rest → selector_at condition (t ++ (c ++ rest)) ≡ found s rest
  selector_again t c rest _ (quoted {cs = cs} p) hc s = by_name t (c ++ rest) rest cs (string_starts t cs p) (string_again t (c ++ rest) cs p) (trimmed c rest hc s)
  selector_again _ c rest _ every hc s = star_again (c ++ rest) rest (trimmed c rest hc s)
  selector_again t c rest x (sliced p) hc s = by_index t (c ++ rest) rest x (slice_starts t x p) (sliced_again t c rest x p hc s)
  selector_again t c rest _ (at {i = i} p) hc s = by_index t (c ++ rest) rest (tree.index i) (starts_wider begins_int begins_index t int_index (int_starts t i p)) (index_again t c rest i p hc s)
  selector_again _ c rest _ (those {t} {e} b hb p) hc s = filter_again b t c rest e hb p hc s

  trailed_again : (t rest : Text) (s : tree.Selector) → Trailed (Selector P) t s → Starts ends_selector rest → selector_at condition (t ++ rest) ≡ found s rest
  trailed_again t rest s p f =
      let e : t ++ rest ≡ p.front ++ (p.blanks ++ rest) = ap (λ (v : Text). v ++ rest) p.parts ∙ append_assoc p.front p.blanks rest in
      rw e (selector_again p.front p.blanks rest s p.is p.are_blank f)

  trailed_starts : (t : Text) (s : tree.Selector) → Trailed (Selector P) t s → Starts begins_selector t
  trailed_starts t s p = rw p.parts (append_starts begins_selector p.front p.blanks (selector_starts p.front s p.is))

  comma_next : (g t rest : Text) (s : tree.Selector) → Behind (0x2C ∷ []) g → Trailed (Selector P) t s → next_selector (g ++ (t ++ rest)) ≡ Some (t ++ rest)
  unfolding next_selector
  comma_next g t rest s h p =
      let c = h.0 in
      let e : g ++ (t ++ rest) ≡ 0x2C ∷ (c ++ (t ++ rest)) = ap (λ (v : Text). v ++ (t ++ rest)) h.1 in
      let a : after_run is_blank (c ++ (t ++ rest)) ≡ t ++ rest = after_again is_blank c (t ++ rest) h.2 (starts_stops begins_selector is_blank t rest blank_selector (trailed_starts t s p)) in
      rw (e, behind_same 0x2C (c ++ (t ++ rest)) refl, a) refl

  comma_stops : (g t rest : Text) (s : tree.Selector) → Behind (0x2C ∷ []) g → Trailed (Selector P) t s → Starts ends_selector (g ++ (t ++ rest))
  comma_stops g t rest s h p = record { head = 0x2C; tail = h.0 ++ (t ++ rest); is = ap (λ (v : Text). v ++ (t ++ rest)) h.1; passes = refl }

  trailed_not_empty : (t : Text) (s : tree.Selector) → Trailed (Selector P) t s → 0 < length t
  trailed_not_empty t s p = starts_not_empty begins_selector t (trailed_starts t s p)

  list_starts : (t : Text) (ss : List tree.Selector) → Separated (0x2C ∷ []) (Selector P) t ss → Starts begins_selector t
  list_starts _ _ (first {t} {u} {x} {xs} p m) = append_starts begins_selector t u (selector_starts t x p)

  closed_again : (all tail rest : Text) (ss : List tree.Selector) → after_run is_blank all ≡ tail → list_at next_selector (selector_at condition) tail ≡ found ss (0x5D ∷ rest) → bracketed_at condition all ≡ found ss rest
  unfolding bracketed_at selectors_at
  closed_again all tail rest ss a e = rw (a, e, behind_same 0x5D rest refl) refl

  inside_again : (b t c rest : Text) (ss : List tree.Selector) → Blanks b → Blanks c → Separated (0x2C ∷ []) (Selector P) t ss → bracketed_at condition ((b ++ (t ++ (c ++ (0x5D ∷ [])))) ++ rest) ≡ found ss rest
  inside_again b t c rest ss hb hc p =
      let ending : Starts ends_selector (0x5D ∷ rest) = record { head = 0x5D; tail = rest; is = refl; passes = refl } in
      let l : list_at next_selector (selector_at condition) ((t ++ c) ++ (0x5D ∷ rest)) ≡ found ss (0x5D ∷ rest) =
      list_again next_selector (selector_at condition) (Behind (0x2C ∷ [])) (Trailed (Selector P)) (Starts ends_selector) trailed_again comma_next comma_stops trailed_not_empty (t ++ c) (0x5D ∷ rest) ss (list_loose (0x2C ∷ []) (Selector P) t c ss p hc) ending (no_comma rest) in
      let a : after_run is_blank (b ++ ((t ++ c) ++ (0x5D ∷ rest))) ≡ (t ++ c) ++ (0x5D ∷ rest) =
      after_again is_blank b ((t ++ c) ++ (0x5D ∷ rest)) hb (starts_stops begins_selector is_blank (t ++ c) (0x5D ∷ rest) blank_selector (append_starts begins_selector t c (list_starts t ss p))) in
      rw (bracket_ends b t c rest) (closed_again (b ++ ((t ++ c) ++ (0x5D ∷ rest))) ((t ++ c) ++ (0x5D ∷ rest)) rest ss a l)

  bracket_segment : (u rest : Text) (ss : List tree.Selector) → bracketed_at condition u ≡ found ss rest → segment_at condition (0x5B ∷ u) ≡ found (of_children ss) rest
  unfolding segment_at opening_at selectors_from
  bracket_segment u rest ss e = rw (behind_same 0x5B u refl, e) refl

  dots_bracket : (u rest : Text) (ss : List tree.Selector) → bracketed_at condition u ≡ found ss rest → segment_at condition (0x2E ∷ 0x2E ∷ 0x5B ∷ u) ≡ found (of_descendants ss) rest
  unfolding segment_at opening_at dots_at selectors_from
  dots_bracket u rest ss e = rw (behind_same 0x5B u refl, e) refl

  dot_segment : (t u rest : Text) (s : tree.Selector) → Starts begins_dotted t → dotted_at (t ++ u) ≡ found s rest → segment_at condition (0x2E ∷ t ++ u) ≡ found (of_children (s ∷ [])) rest
  unfolding segment_at opening_at dots_at selectors_from
  dot_segment t u rest s h e =
      let k : t ++ u ≡ h.head ∷ h.tail ++ u = rw h.is refl in
      let d : dotted_at (h.head ∷ h.tail ++ u) ≡ found s rest = rw k at e in
      let b = dotted_bracket h.head h.passes in
      rw (k, dotted_dot h.head h.passes, b, behind_other 0x5B h.head (h.tail ++ u) b, d) refl

  dots_segment : (t u rest : Text) (s : tree.Selector) → Starts begins_dotted t → dotted_at (t ++ u) ≡ found s rest → segment_at condition (0x2E ∷ 0x2E ∷ t ++ u) ≡ found (of_descendants (s ∷ [])) rest
  unfolding segment_at opening_at dots_at selectors_from
  dots_segment t u rest s h e =
      let k : t ++ u ≡ h.head ∷ h.tail ++ u = rw h.is refl in
      let d : dotted_at (h.head ∷ h.tail ++ u) ≡ found s rest = rw k at e in
      rw (k, behind_other 0x5B h.head (h.tail ++ u) (dotted_bracket h.head h.passes), d) refl

  segment_again : (t rest : Text) (s : OneSegment) → Segment P t s → Stops is_name rest → segment_at condition (t ++ rest) ≡ found s rest
  segment_again _ rest _ (child_bracketed (bracketed {t} {ss} b c hb hc p)) k = bracket_segment ((b ++ (t ++ (c ++ (0x5D ∷ [])))) ++ rest) rest ss (inside_again b t c rest ss hb hc p)
  segment_again _ rest _ (child_dotted {t} {s} d) k = dot_segment t rest rest s (dotted_starts t s d) (dotted_again t rest s d k)
  segment_again _ rest _ (descendant_bracketed (bracketed {t} {ss} b c hb hc p)) k = dots_bracket ((b ++ (t ++ (c ++ (0x5D ∷ [])))) ++ rest) rest ss (inside_again b t c rest ss hb hc p)
  segment_again _ rest _ (descendant_dotted {t} {s} d) k = dots_segment t rest rest s (dotted_starts t s d) (dotted_again t rest s d k)

  segment_starts : (t : Text) (s : OneSegment) → Segment P t s → Starts begins_segment t
  segment_starts _ _ (child_bracketed (bracketed {t} b c hb hc p)) = record { head = 0x5B; tail = b ++ (t ++ (c ++ (0x5D ∷ []))); is = refl; passes = refl }
  segment_starts _ _ (child_dotted {t} d) = record { head = 0x2E; tail = t; is = refl; passes = refl }
  segment_starts _ _ (descendant_bracketed {t} p) = record { head = 0x2E; tail = 0x2E ∷ t; is = refl; passes = refl }
  segment_starts _ _ (descendant_dotted {t} d) = record { head = 0x2E; tail = 0x2E ∷ t; is = refl; passes = refl }

  segment_next : (g t rest : Text) (s : OneSegment) → Blanks g → Segment P t s → next_segment (g ++ (t ++ rest)) ≡ Some (t ++ rest)
  segment_next g t rest s hg p = next_from g (t ++ rest) hg (append_starts begins_segment t rest (segment_starts t s p))

  gap_stops : (g t rest : Text) (s : OneSegment) → Blanks g → Segment P t s → Stops is_name (g ++ (t ++ rest))
  gap_stops g t rest s hg p = blanks_stop is_name g (t ++ rest) no_name hg (starts_stops begins_segment is_name t rest name_segment (segment_starts t s p))

  segment_not_empty : (t : Text) (s : OneSegment) → Segment P t s → 0 < length t
  segment_not_empty t s p = starts_not_empty begins_segment t (segment_starts t s p)

  pub segments_again : (t rest : Text) (ss : List OneSegment) → Repeated (Segment P) t ss → Stops is_name rest → next_segment rest ≡ None → segments_at condition (t ++ rest) ≡ found ss rest
  unfolding segments_at
  segments_again t rest ss r s f =
      many_again next_segment (segment_at condition) Blanks (Segment P) (Stops is_name) segment_again segment_next gap_stops segment_not_empty (length (t ++ rest)) t rest ss r s f (omega (arith, length-append t rest))

  pub sub_query_again : (t rest : Text) (q : tree.Nested) → SubQuery P t q → Followed ends_side rest → sub_query_at condition (t ++ rest) ≡ found q rest
  unfolding sub_query_at
  sub_query_again _ rest _ (root_query {t} {ss} r) f = rw (segments_again t rest ss r (name_stops rest f) (no_segment rest f)) refl
  sub_query_again _ rest _ (child_query {t} {ss} r) f = rw (segments_again t rest ss r (name_stops rest f) (no_segment rest f)) refl

pub sub_query_starts : (P : Text → tree.Expr → Type 0) (t : Text) (q : tree.Nested) → SubQuery P t q → Starts begins_query t
sub_query_starts P _ _ (root_query {t} r) = record { head = 0x24; tail = t; is = refl; passes = refl }
sub_query_starts P _ _ (child_query {t} r) = record { head = 0x40; tail = t; is = refl; passes = refl }
