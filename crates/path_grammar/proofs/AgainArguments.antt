-- Arguments that are spelled are read again; and so is what stands on each level.
use Rattle.std.proofs.Common.{◌≡◌, ℕ, zero, suc, ◌<◌, Bool, true, false, ◌||◌, ◌==◌, List, [], ◌∷◌, ◌++◌, length, Option, Some, None, refl, sym, ap, subst, ◌∙◌, append_assoc, ◌⊎◌, inl, inr, arith}
use Rattle.std.proofs.lemmas.Bool.Decides.{nat_tests}
use Rattle.path_grammar.specs.Tree as tree
use Rattle.path_grammar.specs.Characters.{Text, is_blank, Blanks}
use Rattle.path_grammar.specs.Lists.{Between, between, first, Separated}
use Rattle.path_grammar.specs.Grammar.{SubQuery, Call, joined, Negatable, parentheses, query_test, call_test, Basic, plain, negated, comparison, AndExpr, and_expr, OrExpr, or_expr, Argument, literal_argument, query_argument, call_argument, logical_argument, Arguments, no_arguments, arguments, Condition, ArgumentList}
use Rattle.path_grammar.specs.Reading.{Reader, front_run, after_run}
use Rattle.path_grammar.specs.ReadingLiterals.{literal_at}
use Rattle.path_grammar.specs.ReadingFilters.{next_argument, ends_argument, is_parenthesis, argument_of, or_at, expression_argument_at, argument_from, argument_at, some_arguments_at, arguments_at, condition_in, arguments_in}
use Rattle.path_grammar.proofs.Read.{found, run_parts, run_passes}
use Rattle.path_grammar.proofs.ReadLiterals.{literal_reads}
use Rattle.path_grammar.proofs.Singulars.{one_item, only_item}
use Rattle.path_grammar.proofs.Again.{Stops, Starts, blanks_joined, after_again, starts_stops, starts_wider, append_starts, starts_not_empty, behind_same, behind_other, list_again}
use Rattle.path_grammar.proofs.Followed.{Followed, Closes, ends_or, ends_basic, ends_side, follows, wider, or_and, and_basic, basic_side}
use Rattle.path_grammar.proofs.AgainLiterals.{begins_literal, begins_expression, blank_expression, literal_again, literal_starts}
use Rattle.path_grammar.proofs.AgainFilters.{IsReadAgain, begins_side, side_expression, side_parenthesis, query_side_starts, call_side_starts, or_again, or_starts, no_expression}

-- ---- a bare test or call, and the text of it

abbrev pub is_bare : tree.Expr → Bool
is_bare (tree.test q) = true
is_bare (tree.test_call c) = true
is_bare _ = false

module _ (P : Text → tree.Expr → Type 0) (A : Text → List tree.Argument → Type 0) where
  bare_and : (t : Text) (es : List tree.Expr) → Separated (0x7C ∷ 0x7C ∷ []) (AndExpr P A) t es → is_bare (joined tree.any es) ≡ true → AndExpr P A t (joined tree.any es)
  bare_and t [] s h = absurd cc
  bare_and t (e ∷ []) s h = only_item (0x7C ∷ 0x7C ∷ []) (AndExpr P A) t e s
  bare_and t (e ∷ f ∷ es) s h = absurd cc

  bare_basic : (t : Text) (es : List tree.Expr) → Separated (0x26 ∷ 0x26 ∷ []) (Basic P A) t es → is_bare (joined tree.each es) ≡ true → Basic P A t (joined tree.each es)
  bare_basic t [] s h = absurd cc
  bare_basic t (e ∷ []) s h = only_item (0x26 ∷ 0x26 ∷ []) (Basic P A) t e s
  bare_basic t (e ∷ f ∷ es) s h = absurd cc

  or_bare : (t : Text) (e : tree.Expr) → OrExpr P A t e → is_bare e ≡ true → AndExpr P A t e
  or_bare t _ (or_expr {es = es} s) h = bare_and t es s h

  and_bare : (t : Text) (e : tree.Expr) → AndExpr P A t e → is_bare e ≡ true → Basic P A t e
  and_bare t _ (and_expr {es = es} s) h = bare_basic t es s h

  basic_bare : (t : Text) (e : tree.Expr) → Basic P A t e → is_bare e ≡ true → Negatable P A t e
  basic_bare t e (plain p) h = p
  basic_bare _ _ (negated b hb p) h = absurd cc
  basic_bare _ _ (comparison b c px hb po hc py) h = absurd cc

  opens_with : (b t c rest : Text) → is_parenthesis (0x28 ∷ ((b ++ (t ++ (c ++ (0x29 ∷ [])))) ++ rest)) ≡ true
  unfolding is_parenthesis
  opens_with b t c rest = refl

  clash : (x : Bool) → x ≡ true → x ≡ false → ⊥
  clash x h k = absurd cc

  no_bare_negatable : (t rest : Text) (e : tree.Expr) → Negatable P A t e → is_parenthesis (t ++ rest) ≡ false → ((q : tree.Nested) → SubQuery P t q → ⊥) → ((c : tree.Call) → Call A t c → ⊥) → ⊥
  no_bare_negatable _ rest _ (parentheses {t} b c hb hc p) h nq nc = clash (is_parenthesis (0x28 ∷ ((b ++ (t ++ (c ++ (0x29 ∷ [])))) ++ rest))) (opens_with b t c rest) h
  no_bare_negatable t rest _ (query_test {q = q} p) h nq nc = nq q p
  no_bare_negatable t rest _ (call_test {c = c} p) h nq nc = nc c p

  pub bare_negatable : (t : Text) (e : tree.Expr) → OrExpr P A t e → is_bare e ≡ true → Negatable P A t e
  bare_negatable t e p b = basic_bare t e (and_bare t e (or_bare t e p b) b) b

  -- an expression that is a bare test or call, and does not begin with a parenthesis, is a query or a call
  pub no_bare : (t rest : Text) (e : tree.Expr) → OrExpr P A t e → is_parenthesis (t ++ rest) ≡ false → ((q : tree.Nested) → SubQuery P t q → ⊥) → ((c : tree.Call) → Call A t c → ⊥) → is_bare e ≡ true → ⊥
  no_bare t rest e p h nq nc b = no_bare_negatable t rest e (bare_negatable t e p b) h nq nc

  -- which of the two it is
  pub bare_is : (t rest : Text) (e : tree.Expr) → Negatable P A t e → is_parenthesis (t ++ rest) ≡ false
      → ((q : tree.Nested) × (e ≡ tree.test q) × SubQuery P t q) ⊎ ((c : tree.Call) × (e ≡ tree.test_call c) × Call A t c)
  bare_is _ rest _ (parentheses {t} b c hb hc p) h = absurd (clash (is_parenthesis (0x28 ∷ ((b ++ (t ++ (c ++ (0x29 ∷ [])))) ++ rest))) (opens_with b t c rest) h)
  bare_is t rest _ (query_test {q = q} p) h = inl (q, refl, p)
  bare_is t rest _ (call_test {c = c} p) h = inr (c, refl, p)

  pub bare_expression : (t : Text) (e : tree.Expr) → Negatable P A t e → OrExpr P A t e
  bare_expression t e p = or_expr (one_item (0x7C ∷ 0x7C ∷ []) (AndExpr P A) t e (and_expr (one_item (0x26 ∷ 0x26 ∷ []) (Basic P A) t e (plain p))))

pub argument_logical : (p : Bool) (e : tree.Expr) → (p ≡ false → is_bare e ≡ true → ⊥) → argument_of p e ≡ tree.logical_argument e
argument_logical true (tree.any es) h = refl
argument_logical true (tree.each es) h = refl
argument_logical true (tree.not e) h = refl
argument_logical true (tree.compare x op y) h = refl
argument_logical true (tree.test q) h = refl
argument_logical true (tree.test_call c) h = refl
argument_logical false (tree.any es) h = refl
argument_logical false (tree.each es) h = refl
argument_logical false (tree.not e) h = refl
argument_logical false (tree.compare x op y) h = refl
argument_logical false (tree.test q) h = absurd (h refl refl)
argument_logical false (tree.test_call c) h = absurd (h refl refl)

pub not_parenthesis : (w : Text) → Starts begins_side w → is_parenthesis w ≡ false
unfolding is_parenthesis
not_parenthesis w s = rw s.is (side_parenthesis s.head s.passes)

-- ---- where a literal is the whole argument

abbrev pub ends_list : ℕ → Bool
ends_list c = c == 0x2C || c == 0x29

list_or : (c : ℕ) → ends_list c ≡ true → ends_or c ≡ true
list_or c e = grind (arith, nat_tests)

list_closes : (t : Text) → ends_argument t ≡ true → Closes ends_or t
unfolding ends_argument
list_closes [] h = absurd cc
list_closes (c ∷ t) h = list_or c h

pub ends_followed : (v : Text) → ends_argument (after_run is_blank v) ≡ true → Followed ends_or v
ends_followed v h = record { blanks = front_run is_blank v; tail = after_run is_blank v; parts = run_parts is_blank v; are_blank = run_passes is_blank v; closes = list_closes (after_run is_blank v) h }

pub or_basic : (c : ℕ) → ends_or c ≡ true → ends_basic c ≡ true
or_basic c e = and_basic c (or_and c e)

-- what follows an argument
pub record Ended (rest : Text) : Type 0 where
  pub followed : Followed ends_or rest
  pub ends : ends_argument (after_run is_blank rest) ≡ true

ended_by : (k : ℕ) (b u : Text) → is_blank k ≡ false → ends_list k ≡ true → Blanks b → Ended (b ++ (k ∷ u))
unfolding ends_argument
ended_by k b u n h hb =
    let a : after_run is_blank (b ++ (k ∷ u)) ≡ k ∷ u = after_again is_blank b (k ∷ u) hb n in
    record { followed = follows ends_or b (k ∷ u) hb (list_or k h); ends = rw a h }

or_side : (c : ℕ) → ends_or c ≡ true → ends_side c ≡ true
or_side c e = basic_side c (or_basic c e)

literal_expression : (c : ℕ) → begins_literal c ≡ true → begins_expression c ≡ true
literal_expression c e = grind (arith, nat_tests)

no_closing : (c : ℕ) → begins_expression c ≡ true → (c == 0x29) ≡ false
no_closing c e = grind (arith, nat_tests)

no_comma : (w rest : Text) → after_run is_blank w ≡ 0x29 ∷ rest → next_argument w ≡ None
unfolding next_argument
no_comma w rest e = rw (e, behind_other 0x2C 0x29 rest refl) refl

blanks_skipped : (b d u : Text) → Blanks b → Blanks d → Stops is_blank u → after_run is_blank (b ++ (d ++ u)) ≡ u
blanks_skipped b d u hb hd s = ap (after_run is_blank) (sym (append_assoc b d u)) ∙ after_again is_blank (b ++ d) u (blanks_joined b d hb hd) s

module _ (condition : Reader tree.Expr) (list : Reader (List tree.Argument)) (P : Text → tree.Expr → Type 0) (A : Text → List tree.Argument → Type 0) (laws : IsReadAgain condition list P A) where
  -- a literal at the front that ends as an argument does leaves no expression to be read
  pub no_literal : (w v : Text) (l : tree.Literal) → literal_at w ≡ found l v → ends_argument (after_run is_blank v) ≡ true → or_at condition list w ≡ None
  no_literal w v l e h =
      let r = literal_reads w v l e in
      let n : or_at condition list (r.front ++ v) ≡ None = no_expression condition list P A laws r.front v l r.is (wider ends_or ends_basic v or_basic (ends_followed v h)) in
      ap (or_at condition list) r.parts ∙ n

  clashes : {X : Type 0} (o : Option X) (x : X) → o ≡ Some x → o ≡ None → ⊥
  clashes o x h k = absurd cc

  test_false : (b : Bool) → (b ≡ true → ⊥) → b ≡ false
  test_false true h = absurd (h refl)
  test_false false h = refl

  from_expression : (w : Text) (e : tree.Expr) (rest : Text) (a : tree.Argument) (o : Option (tree.Literal × Text)) → literal_at w ≡ o → or_at condition list w ≡ found e rest → expression_argument_at condition list w ≡ found a rest → argument_from condition list w o ≡ found a rest
  unfolding argument_from
  from_expression w e rest a (Some x) l h k =
      let n : ends_argument (after_run is_blank x.1) ≡ false = test_false (ends_argument (after_run is_blank x.1)) (λ y. clashes (or_at condition list w) (e, rest) h (no_literal w (x.1) (x.0) l y)) in
      rw n k
  from_expression w e rest a None l h k = k

  turned : (w rest : Text) (e : tree.Expr) (a : tree.Argument) → or_at condition list w ≡ found e rest → argument_of (is_parenthesis w) e ≡ a → expression_argument_at condition list w ≡ found a rest
  unfolding expression_argument_at
  turned w rest e a h k = rw (h, k) refl

  expression_argument : (w rest : Text) (e : tree.Expr) (a : tree.Argument) → or_at condition list w ≡ found e rest → argument_of (is_parenthesis w) e ≡ a → argument_at condition list w ≡ found a rest
  unfolding argument_at
  expression_argument w rest e a h k = from_expression w e rest a (literal_at w) refl h (turned w rest e a h k)

  literal_found : (w rest : Text) (l : tree.Literal) → literal_at w ≡ found l rest → ends_argument (after_run is_blank rest) ≡ true → argument_at condition list w ≡ found (tree.lit_argument l) rest
  unfolding argument_at argument_from
  literal_found w rest l e h = rw (e, h) refl

  argument_again : (t rest : Text) (a : tree.Argument) → Argument P A t a → Ended rest → argument_at condition list (t ++ rest) ≡ found a rest
  argument_again t rest _ (literal_argument {l = l} p) f = literal_found (t ++ rest) rest l (literal_again t rest l p (wider ends_or ends_side rest or_side f.followed)) f.ends
  argument_again t rest _ (query_argument {q = q} nl p) f =
      let s = append_starts begins_side t rest (query_side_starts condition list P A laws t q p) in
      expression_argument (t ++ rest) rest (tree.test q) (tree.nodes_argument q) (or_again condition list P A laws t rest (tree.test q) (bare_expression P A t (tree.test q) (query_test p)) f.followed) (rw (not_parenthesis (t ++ rest) s) refl)
  argument_again t rest _ (call_argument {c = c} nl nq p) f =
      let s = append_starts begins_side t rest (call_side_starts condition list P A laws t c p) in
      expression_argument (t ++ rest) rest (tree.test_call c) (tree.func_argument c) (or_again condition list P A laws t rest (tree.test_call c) (bare_expression P A t (tree.test_call c) (call_test p)) f.followed) (rw (not_parenthesis (t ++ rest) s) refl)
  argument_again t rest _ (logical_argument {e = e} nl nq nc p) f =
      expression_argument (t ++ rest) rest e (tree.logical_argument e) (or_again condition list P A laws t rest e p f.followed) (argument_logical (is_parenthesis (t ++ rest)) e (λ h b. no_bare P A t rest e p h nq nc b))

  argument_starts : (t : Text) (a : tree.Argument) → Argument P A t a → Starts begins_expression t
  argument_starts t _ (literal_argument {l = l} p) = starts_wider begins_literal begins_expression t literal_expression (literal_starts t l p)
  argument_starts t _ (query_argument {q = q} nl p) = starts_wider begins_side begins_expression t side_expression (query_side_starts condition list P A laws t q p)
  argument_starts t _ (call_argument {c = c} nl nq p) = starts_wider begins_side begins_expression t side_expression (call_side_starts condition list P A laws t c p)
  argument_starts t _ (logical_argument {e = e} nl nq nc p) = or_starts condition list P A laws t e p

  -- ---- lists of arguments

  comma_next : (g t rest : Text) (a : tree.Argument) → Between (0x2C ∷ []) g → Argument P A t a → next_argument (g ++ (t ++ rest)) ≡ Some (t ++ rest)
  unfolding next_argument
  comma_next _ t rest a (between b c hb hc) p =
      let tail = c ++ (t ++ rest) in
      let k : (b ++ (0x2C ∷ c)) ++ (t ++ rest) ≡ b ++ (0x2C ∷ tail) = append_assoc b (0x2C ∷ c) (t ++ rest) in
      let x : after_run is_blank (b ++ (0x2C ∷ tail)) ≡ 0x2C ∷ tail = after_again is_blank b (0x2C ∷ tail) hb refl in
      let y : after_run is_blank tail ≡ t ++ rest = after_again is_blank c (t ++ rest) hc (starts_stops begins_expression is_blank t rest blank_expression (argument_starts t a p)) in
      rw (k, x, behind_same 0x2C tail refl, y) refl

  comma_ends : (g t rest : Text) (a : tree.Argument) → Between (0x2C ∷ []) g → Argument P A t a → Ended (g ++ (t ++ rest))
  comma_ends _ t rest a (between b c hb hc) p = subst Ended (sym (append_assoc b (0x2C ∷ c) (t ++ rest))) (ended_by 0x2C b (c ++ (t ++ rest)) refl refl hb)

  argument_not_empty : (t : Text) (a : tree.Argument) → Argument P A t a → 0 < length t
  argument_not_empty t a p = starts_not_empty begins_expression t (argument_starts t a p)

  some_again : (t rest : Text) (xs : List tree.Argument) → Separated (0x2C ∷ []) (Argument P A) t xs → Ended rest → next_argument rest ≡ None → some_arguments_at condition list (t ++ rest) ≡ found xs rest
  unfolding some_arguments_at
  some_again t rest xs s f n = list_again next_argument (argument_at condition list) (Between (0x2C ∷ [])) (Argument P A) Ended argument_again comma_next comma_ends argument_not_empty t rest xs s f n

  some_start : (t : Text) (xs : List tree.Argument) → Separated (0x2C ∷ []) (Argument P A) t xs → Starts begins_expression t
  some_start _ _ (first {t} {u} {x} {xs} p more) = append_starts begins_expression t u (argument_starts t x p)

  some_list : (w : Text) (o : Option (List tree.Argument × Text)) → Starts begins_expression w → some_arguments_at condition list w ≡ o → arguments_at condition list w ≡ o
  unfolding arguments_at
  some_list w o s e =
      let d : some_arguments_at condition list (s.head ∷ s.tail) ≡ o = rw s.is at e in
      rw (s.is, no_closing s.head s.passes) d

  empty_list : (rest : Text) → arguments_at condition list (0x29 ∷ rest) ≡ found [] (0x29 ∷ rest)
  unfolding arguments_at
  empty_list rest = refl

  -- what is found between the parentheses of a call
  abbrev Found : Text → List tree.Argument → Text → Type 0
  Found all xs rest = (v : Text) × (arguments_at condition list (after_run is_blank all) ≡ found xs v) × (after_run is_blank v ≡ 0x29 ∷ rest)

  list_again_at : (t : Text) (xs : List tree.Argument) → Arguments P A t xs → (b d rest : Text) → Blanks b → Blanks d → Found (b ++ (t ++ (d ++ (0x29 ∷ rest)))) xs rest
  list_again_at _ _ no_arguments b d rest hb hd =
      let y : after_run is_blank (b ++ (d ++ (0x29 ∷ rest))) ≡ 0x29 ∷ rest = blanks_skipped b d (0x29 ∷ rest) hb hd refl in
      (0x29 ∷ rest, ap (arguments_at condition list) y ∙ empty_list rest, refl)
  list_again_at t xs (arguments s) b d rest hb hd =
      let tail = d ++ (0x29 ∷ rest) in
      let st = some_start t xs s in
      let x : after_run is_blank (b ++ (t ++ tail)) ≡ t ++ tail = after_again is_blank b (t ++ tail) hb (starts_stops begins_expression is_blank t tail blank_expression st) in
      let y : after_run is_blank tail ≡ 0x29 ∷ rest = after_again is_blank d (0x29 ∷ rest) hd refl in
      (tail, ap (arguments_at condition list) x ∙ some_list (t ++ tail) (found xs tail) (append_starts begins_expression t tail st) (some_again t tail xs s (ended_by 0x29 d rest refl refl hd) (no_comma tail rest y)), y)

-- ---- each level

pub is_read_again : (n : ℕ) → IsReadAgain (condition_in n) (arguments_in n) (Condition n) (ArgumentList n)
unfolding condition_in
is_read_again zero = record { condition_again = λ t rest e p f. absurd p; condition_starts = λ t e p. absurd p; arguments_again = λ t xs p b d rest hb hd. absurd p }
is_read_again (suc n) =
    let laws = is_read_again n in
    record {
      condition_again = or_again (condition_in n) (arguments_in n) (Condition n) (ArgumentList n) laws;
      condition_starts = or_starts (condition_in n) (arguments_in n) (Condition n) (ArgumentList n) laws;
      arguments_again = list_again_at (condition_in n) (arguments_in n) (Condition n) (ArgumentList n) laws;
    }
