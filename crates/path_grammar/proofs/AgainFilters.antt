-- Logical expressions and calls that are spelled are read again, whatever follows them that may follow: one level, by what stands
-- a level deeper.
use Rattle.std.proofs.Common.{◌≡◌, ℕ, ◌<◌, Bool, true, false, cond, ◌&&◌, ◌||◌, ◌==◌, List, [], ◌∷◌, ◌++◌, length, Some, None, refl, sym, ap, subst, ◌∙◌, append_assoc, arith}
use Rattle.std.proofs.lemmas.Bool.{and_parts}
use Rattle.std.proofs.lemmas.Bool.Decides.{nat_tests}
use Rattle.std.specs.List.{list_all}
use Rattle.path_grammar.specs.Tree as tree
use Rattle.path_grammar.specs.Tree.{arguments_of}
use Rattle.path_grammar.specs.Characters.{Text, is_blank, is_lower, is_function, Blanks}
use Rattle.path_grammar.specs.Lists.{Between, between, first, Separated}
use Rattle.path_grammar.specs.Grammar.{Literal, Operator, SubQuery, Call, call, Comparable, of_literal, of_query, of_call, Negatable, parentheses, query_test, call_test, Basic, plain, negated, comparison, AndExpr, and_expr, OrExpr, or_expr}
use Rattle.path_grammar.specs.Reading.{Reader, ◌>>=◌, front_run, after_run, behind, closing, list_at}
use Rattle.path_grammar.specs.ReadingLiterals.{literal_at, operator_at}
use Rattle.path_grammar.specs.ReadingSegments.{begins_query, sub_query_at}
use Rattle.path_grammar.specs.ReadingFilters.{next_operand, opens_call, test_of, tested, is_comparable, parentheses_at, call_at, side_from, side_at, negatable_at, compared_at, basic_from, basic_at, basics_at, and_at, ands_at, or_at}
use Rattle.path_grammar.specs.declared.ast.Op.{Op}
use Rattle.path_grammar.proofs.Read.{found}
use Rattle.path_grammar.proofs.Singulars.{singular_is_query, singular_says_so}
use Rattle.path_grammar.proofs.Again.{Stops, Starts, front_again, after_again, starts_stops, starts_wider, append_starts, starts_not_empty, blanks_stop, behind_same, list_again}
use Rattle.path_grammar.proofs.Followed.{Followed, ends_or, ends_and, ends_basic, ends_side, begins_operator, follows, starts_closes, wider, or_and, and_basic, basic_side, operator_side, no_operator, no_and, no_or}
use Rattle.path_grammar.proofs.AgainLiterals.{begins_literal, begins_expression, blank_expression, literal_again, literal_starts, no_call, operator_again, operator_starts}
use Rattle.path_grammar.proofs.AgainSegments.{sub_query_again, sub_query_starts}

-- ---- where a side begins, and what may stand behind an exclamation mark

abbrev pub begins_side : ℕ → Bool
begins_side c = begins_query c || begins_literal c

abbrev pub begins_negatable : ℕ → Bool
begins_negatable c = c == 0x28 || begins_side c

query_side : (c : ℕ) → begins_query c ≡ true → begins_side c ≡ true
query_side c e = rw e refl

literal_side : (c : ℕ) → begins_literal c ≡ true → begins_side c ≡ true
literal_side c e = grind (arith, nat_tests)

lower_side : (c : ℕ) → is_lower c ≡ true → begins_side c ≡ true
lower_side c e = grind (arith, nat_tests)

pub side_expression : (c : ℕ) → begins_side c ≡ true → begins_expression c ≡ true
side_expression c e = grind (arith, nat_tests)

side_negatable : (c : ℕ) → begins_side c ≡ true → begins_negatable c ≡ true
side_negatable c e = grind (arith, nat_tests)

negatable_expression : (c : ℕ) → begins_negatable c ≡ true → begins_expression c ≡ true
negatable_expression c e = grind (arith, nat_tests)

blank_side : (c : ℕ) → begins_side c ≡ true → is_blank c ≡ false
blank_side c e = grind (arith, nat_tests)

blank_negatable : (c : ℕ) → begins_negatable c ≡ true → is_blank c ≡ false
blank_negatable c e = grind (arith, nat_tests)

no_equals : (c : ℕ) → begins_side c ≡ true → (c == 0x3D) ≡ false
no_equals c e = grind (arith, nat_tests)

blank_equals : (c : ℕ) → is_blank c ≡ true → (c == 0x3D) ≡ false
blank_equals c e = grind (arith, nat_tests)

blank_operator : (c : ℕ) → begins_operator c ≡ true → is_blank c ≡ false
blank_operator c e = grind (arith, nat_tests)

pub side_parenthesis : (c : ℕ) → begins_side c ≡ true → (c == 0x28) ≡ false
side_parenthesis c e = grind (arith, nat_tests)

side_mark : (c : ℕ) → begins_side c ≡ true → (c == 0x21) ≡ false
side_mark c e = grind (arith, nat_tests)

literal_query : (c : ℕ) → begins_literal c ≡ true → begins_query c ≡ false
literal_query c e = grind (arith, nat_tests)

lower_query : (c : ℕ) → is_lower c ≡ true → begins_query c ≡ false
lower_query c e = grind (arith, nat_tests)

lower_function : (c : ℕ) → is_lower c ≡ true → is_function c ≡ true
lower_function c e = grind (arith, nat_tests)

-- ---- calls

opened : (b : Bool) (t name u : Text) → b ≡ true → front_run is_function t ≡ name → after_run is_function t ≡ 0x28 ∷ u → cond b (behind 0x28 (after_run is_function t) >>= λ v. Some (front_run is_function t, v)) None ≡ found name u
opened b t name u e f a = rw (e, a, behind_same 0x28 u refl, f) refl

opens_again : (c : ℕ) (cs u : Text) → (is_lower c && list_all is_function cs) ≡ true → opens_call (c ∷ cs ++ (0x28 ∷ u)) ≡ found (c ∷ cs) u
unfolding opens_call
opens_again c cs u h =
    let k = and_parts (is_lower c) (list_all is_function cs) h in
    let m : list_all is_function (c ∷ cs) ≡ true = rw (lower_function c k.0, k.1) refl in
    opened (is_lower c) (c ∷ cs ++ (0x28 ∷ u)) (c ∷ cs) u k.0 (front_again is_function (c ∷ cs) (0x28 ∷ u) m refl) (after_again is_function (c ∷ cs) (0x28 ∷ u) m refl)

call_parts : (cs b t d rest : Text) → (cs ++ (0x28 ∷ (b ++ (t ++ (d ++ (0x29 ∷ [])))))) ++ rest ≡ cs ++ (0x28 ∷ (b ++ (t ++ (d ++ (0x29 ∷ rest)))))
call_parts cs b t d rest = simp append_assoc

pub enclosed : (b t c : Text) (k : ℕ) (rest : Text) → (b ++ (t ++ (c ++ (k ∷ [])))) ++ rest ≡ b ++ (t ++ (c ++ (k ∷ rest)))
enclosed b t c k rest = simp append_assoc

-- ---- operands

pub operand_next : (k : ℕ) (g t rest : Text) → is_blank k ≡ false → (k == k) ≡ true → Between (k ∷ k ∷ []) g → Starts begins_expression t → next_operand k (g ++ (t ++ rest)) ≡ Some (t ++ rest)
unfolding next_operand
operand_next k _ t rest hk e (between b c hb hc) s =
    let tail = c ++ (t ++ rest) in
    let p : (b ++ (k ∷ k ∷ c)) ++ (t ++ rest) ≡ b ++ (k ∷ k ∷ tail) = append_assoc b (k ∷ k ∷ c) (t ++ rest) in
    let a : after_run is_blank (b ++ (k ∷ k ∷ tail)) ≡ k ∷ k ∷ tail = after_again is_blank b (k ∷ k ∷ tail) hb hk in
    let d : after_run is_blank tail ≡ t ++ rest = after_again is_blank c (t ++ rest) hc (starts_stops begins_expression is_blank t rest blank_expression s) in
    rw (p, a, behind_same k (k ∷ tail) e, behind_same k tail e, d) refl

pub operand_follows : (p : ℕ → Bool) (k : ℕ) (g rest : Text) → p k ≡ true → Between (k ∷ k ∷ []) g → Followed p (g ++ rest)
operand_follows p k _ rest h (between b c hb hc) = subst (Followed p) (sym (append_assoc b (k ∷ k ∷ c) rest)) (follows p b (k ∷ k ∷ (c ++ rest)) hb h)

-- ---- the laws of what stands a level deeper

pub record IsReadAgain (condition : Reader tree.Expr) (arguments : Reader (List tree.Argument)) (P : Text → tree.Expr → Type 0) (A : Text → List tree.Argument → Type 0) : Type 0 where
  pub condition_again : (t rest : Text) (e : tree.Expr) → P t e → Followed ends_or rest → condition (t ++ rest) ≡ found e rest
  pub condition_starts : (t : Text) (e : tree.Expr) → P t e → Starts begins_expression t
  pub arguments_again : (t : Text) (xs : List tree.Argument) → A t xs → (b d rest : Text) → Blanks b → Blanks d
      → (v : Text) × (arguments (after_run is_blank (b ++ (t ++ (d ++ (0x29 ∷ rest))))) ≡ found xs v) × (after_run is_blank v ≡ 0x29 ∷ rest)

module _ (condition : Reader tree.Expr) (arguments : Reader (List tree.Argument)) (P : Text → tree.Expr → Type 0) (A : Text → List tree.Argument → Type 0) (laws : IsReadAgain condition arguments P A) where
  parentheses_again : (b t c rest : Text) (e : tree.Expr) → Blanks b → P t e → Blanks c → parentheses_at condition arguments (b ++ (t ++ (c ++ (0x29 ∷ rest)))) ≡ found e rest
  unfolding parentheses_at closing
  parentheses_again b t c rest e hb p hc =
      let tail = c ++ (0x29 ∷ rest) in
      let a : after_run is_blank (b ++ (t ++ tail)) ≡ t ++ tail = after_again is_blank b (t ++ tail) hb (starts_stops begins_expression is_blank t tail blank_expression (laws.condition_starts t e p)) in
      let d : after_run is_blank tail ≡ 0x29 ∷ rest = after_again is_blank c (0x29 ∷ rest) hc refl in
      rw (a, laws.condition_again t tail e p (follows ends_or c (0x29 ∷ rest) hc refl), d, behind_same 0x29 rest refl) refl

  call_found : (name b t d rest : Text) (xs : List tree.Argument) → Blanks b → A t xs → Blanks d → call_at condition arguments name (b ++ (t ++ (d ++ (0x29 ∷ rest)))) ≡ found (tree.call name (arguments_of xs)) rest
  unfolding call_at closing
  call_found name b t d rest xs hb p hd = let m = laws.arguments_again t xs p b d rest hb hd in rw (m.1, m.2, behind_same 0x29 rest refl) refl

  -- ---- sides

  side_by_call : (c : ℕ) (u name inside rest : Text) (k : tree.Call) → begins_query c ≡ false → opens_call (c ∷ u) ≡ found name inside → call_at condition arguments name inside ≡ found k rest → side_at condition arguments (c ∷ u) ≡ found (tree.func k) rest
  unfolding side_at side_from
  side_by_call c u name inside rest k q o e = rw (q, o, e) refl

  pub side_call : (t rest : Text) (k : tree.Call) → Call A t k → side_at condition arguments (t ++ rest) ≡ found (tree.func k) rest
  side_call _ rest _ (call {t} {xs} c cs b d h hb hd p) =
      let inside = b ++ (t ++ (d ++ (0x29 ∷ rest))) in
      rw (call_parts cs b t d rest) (side_by_call c (cs ++ (0x28 ∷ inside)) (c ∷ cs) inside rest (tree.call (c ∷ cs) (arguments_of xs)) (lower_query c (and_parts (is_lower c) (list_all is_function cs) h).0) (opens_again c cs inside h) (call_found (c ∷ cs) b t d rest xs hb p hd))

  pub side_by_literal : (w rest : Text) (l : tree.Literal) → Starts begins_literal w → opens_call w ≡ None → literal_at w ≡ found l rest → side_at condition arguments w ≡ found (tree.lit l) rest
  unfolding side_at side_from
  side_by_literal w rest l s o e =
      let n : opens_call (s.head ∷ s.tail) ≡ None = rw s.is at o in
      let d : literal_at (s.head ∷ s.tail) ≡ found l rest = rw s.is at e in
      rw (s.is, literal_query s.head s.passes, n, d) refl

  side_literal : (t rest : Text) (l : tree.Literal) → Literal t l → Followed ends_side rest → side_at condition arguments (t ++ rest) ≡ found (tree.lit l) rest
  side_literal t rest l p f = side_by_literal (t ++ rest) rest l (append_starts begins_literal t rest (literal_starts t l p)) (no_call t rest l p f) (literal_again t rest l p f)

  side_by_query : (w rest : Text) (q : tree.Nested) → Starts begins_query w → sub_query_at condition w ≡ found q rest → side_at condition arguments w ≡ found (tree.single q) rest
  unfolding side_at
  side_by_query w rest q s e =
      let d : sub_query_at condition (s.head ∷ s.tail) ≡ found q rest = rw s.is at e in
      rw (s.is, s.passes, d) refl

  pub side_query : (t rest : Text) (q : tree.Nested) → SubQuery P t q → Followed ends_side rest → side_at condition arguments (t ++ rest) ≡ found (tree.single q) rest
  side_query t rest q p f = side_by_query (t ++ rest) rest q (append_starts begins_query t rest (sub_query_starts P t q p)) (sub_query_again condition P laws.condition_again laws.condition_starts t rest q p f)

  comparable_again : (t rest : Text) (x : tree.Comparable) → Comparable A t x → Followed ends_side rest → (side_at condition arguments (t ++ rest) ≡ found x rest) × (is_comparable x ≡ true)
  comparable_again t rest _ (of_literal {l = l} p) f = (side_literal t rest l p f, refl)
  comparable_again t rest _ (of_query {q = q} p) f = (side_query t rest q (singular_is_query P t q p) f, singular_says_so t q p)
  comparable_again t rest _ (of_call {c = k} p) f = (side_call t rest k p, refl)

  pub call_starts : (t : Text) (k : tree.Call) → Call A t k → Starts is_lower t
  call_starts _ _ (call {t} c cs b d h hb hd p) = record { head = c; tail = cs ++ (0x28 ∷ (b ++ (t ++ (d ++ (0x29 ∷ []))))); is = refl; passes = (and_parts (is_lower c) (list_all is_function cs) h).0 }

  pub call_side_starts : (t : Text) (k : tree.Call) → Call A t k → Starts begins_side t
  call_side_starts t k p = starts_wider is_lower begins_side t lower_side (call_starts t k p)

  pub query_side_starts : (t : Text) (q : tree.Nested) → SubQuery P t q → Starts begins_side t
  query_side_starts t q p = starts_wider begins_query begins_side t query_side (sub_query_starts P t q p)

  comparable_starts : (t : Text) (x : tree.Comparable) → Comparable A t x → Starts begins_side t
  comparable_starts t _ (of_literal {l = l} p) = starts_wider begins_literal begins_side t literal_side (literal_starts t l p)
  comparable_starts t _ (of_query {q = q} p) = query_side_starts t q (singular_is_query P t q p)
  comparable_starts t _ (of_call {c = k} p) = call_side_starts t k p

  -- ---- what may stand behind an exclamation mark

  negatable_by_side : (w rest : Text) (x : tree.Comparable) (e : tree.Expr) → Starts begins_side w → side_at condition arguments w ≡ found x rest → test_of x ≡ Some e → negatable_at condition arguments w ≡ found e rest
  unfolding negatable_at tested
  negatable_by_side w rest x e s h t =
      let d : side_at condition arguments (s.head ∷ s.tail) ≡ found x rest = rw s.is at h in
      rw (s.is, side_parenthesis s.head s.passes, d, t) refl

  negatable_parentheses : (u rest : Text) (e : tree.Expr) → parentheses_at condition arguments u ≡ found e rest → negatable_at condition arguments (0x28 ∷ u) ≡ found e rest
  unfolding negatable_at
  negatable_parentheses u rest e h = h

  negatable_again : (t rest : Text) (e : tree.Expr) → Negatable P A t e → Followed ends_basic rest → negatable_at condition arguments (t ++ rest) ≡ found e rest
  negatable_again _ rest e (parentheses {t} b c hb hc p) f = negatable_parentheses ((b ++ (t ++ (c ++ (0x29 ∷ [])))) ++ rest) rest e (rw (enclosed b t c 0x29 rest) (parentheses_again b t c rest e hb p hc))
  negatable_again t rest _ (query_test {q = q} p) f = negatable_by_side (t ++ rest) rest (tree.single q) (tree.test q) (append_starts begins_side t rest (query_side_starts t q p)) (side_query t rest q p (wider ends_basic ends_side rest basic_side f)) refl
  negatable_again t rest _ (call_test {c = k} p) f = negatable_by_side (t ++ rest) rest (tree.func k) (tree.test_call k) (append_starts begins_side t rest (call_side_starts t k p)) (side_call t rest k p) refl

  negatable_starts : (t : Text) (e : tree.Expr) → Negatable P A t e → Starts begins_negatable t
  negatable_starts _ e (parentheses {t} b c hb hc p) = record { head = 0x28; tail = b ++ (t ++ (c ++ (0x29 ∷ []))); is = refl; passes = refl }
  negatable_starts t _ (query_test {q = q} p) = starts_wider begins_side begins_negatable t side_negatable (query_side_starts t q p)
  negatable_starts t _ (call_test {c = k} p) = starts_wider begins_side begins_negatable t side_negatable (call_side_starts t k p)

  -- ---- basic expressions

  basic_by_side : (w rest : Text) (x : tree.Comparable) (e : tree.Expr) → Starts begins_side w → side_at condition arguments w ≡ found x rest → operator_at (after_run is_blank rest) ≡ None → test_of x ≡ Some e → basic_at condition arguments w ≡ found e rest
  unfolding basic_at basic_from tested
  basic_by_side w rest x e s h o t =
      let d : side_at condition arguments (s.head ∷ s.tail) ≡ found x rest = rw s.is at h in
      rw (s.is, side_mark s.head s.passes, side_parenthesis s.head s.passes, d, o, t) refl

  basic_by_operator : (w v z rest : Text) (x y : tree.Comparable) (op : Op) → Starts begins_side w → side_at condition arguments w ≡ found x v → operator_at (after_run is_blank v) ≡ found op z → side_at condition arguments (after_run is_blank z) ≡ found y rest → is_comparable x ≡ true → is_comparable y ≡ true → basic_at condition arguments w ≡ found (tree.compare x op y) rest
  unfolding basic_at basic_from compared_at
  basic_by_operator w v z rest x y op s h o r cx cy =
      let d : side_at condition arguments (s.head ∷ s.tail) ≡ found x v = rw s.is at h in
      rw (s.is, side_mark s.head s.passes, side_parenthesis s.head s.passes, d, o, r, cx, cy) refl

  basic_parentheses : (u rest : Text) (e : tree.Expr) → parentheses_at condition arguments u ≡ found e rest → basic_at condition arguments (0x28 ∷ u) ≡ found e rest
  unfolding basic_at
  basic_parentheses u rest e h = h

  basic_negated : (u v rest : Text) (e : tree.Expr) → after_run is_blank u ≡ v → negatable_at condition arguments v ≡ found e rest → basic_at condition arguments (0x21 ∷ u) ≡ found (tree.not e) rest
  unfolding basic_at
  basic_negated u v rest e a h = rw (a, h) refl

  basic_plain : (t rest : Text) (e : tree.Expr) → Negatable P A t e → Followed ends_basic rest → basic_at condition arguments (t ++ rest) ≡ found e rest
  basic_plain _ rest e (parentheses {t} b c hb hc p) f = basic_parentheses ((b ++ (t ++ (c ++ (0x29 ∷ [])))) ++ rest) rest e (rw (enclosed b t c 0x29 rest) (parentheses_again b t c rest e hb p hc))
  basic_plain t rest _ (query_test {q = q} p) f = basic_by_side (t ++ rest) rest (tree.single q) (tree.test q) (append_starts begins_side t rest (query_side_starts t q p)) (side_query t rest q p (wider ends_basic ends_side rest basic_side f)) (no_operator rest f) refl
  basic_plain t rest _ (call_test {c = k} p) f = basic_by_side (t ++ rest) rest (tree.func k) (tree.test_call k) (append_starts begins_side t rest (call_side_starts t k p)) (side_call t rest k p) (no_operator rest f) refl

  compared_parts : (t b o c u rest : Text) → (t ++ (b ++ (o ++ (c ++ u)))) ++ rest ≡ t ++ (b ++ (o ++ (c ++ (u ++ rest))))
  compared_parts t b o c u rest = simp append_assoc

  compared_again : (t b o c u rest : Text) (x y : tree.Comparable) (op : Op) → Comparable A t x → Blanks b → Operator o op → Blanks c → Comparable A u y → Followed ends_side rest → basic_at condition arguments (t ++ (b ++ (o ++ (c ++ (u ++ rest))))) ≡ found (tree.compare x op y) rest
  compared_again t b o c u rest x y op px hb po hc py f =
      let right = u ++ rest in
      let tail = o ++ (c ++ right) in
      let su = comparable_starts u y py in
      let so = append_starts begins_operator o (c ++ right) (operator_starts o op po) in
      let fx : Followed ends_side (b ++ tail) = follows ends_side b tail hb (starts_closes ends_side tail (starts_wider begins_operator ends_side tail operator_side so)) in
      let l = comparable_again t (b ++ tail) x px fx in
      let r = comparable_again u rest y py f in
      let a : after_run is_blank (b ++ tail) ≡ tail = after_again is_blank b tail hb (starts_stops begins_operator is_blank o (c ++ right) blank_operator (operator_starts o op po)) in
      let n : Stops (λ k. k == 0x3D) (c ++ right) = blanks_stop (λ k. k == 0x3D) c right blank_equals hc (starts_stops begins_side (λ k. k == 0x3D) u rest no_equals su) in
      let z : after_run is_blank (c ++ right) ≡ right = after_again is_blank c right hc (starts_stops begins_side is_blank u rest blank_side su) in
      basic_by_operator (t ++ (b ++ tail)) (b ++ tail) (c ++ right) rest x y op (append_starts begins_side t (b ++ tail) (comparable_starts t x px)) l.0 (ap operator_at a ∙ operator_again o (c ++ right) op po n) (ap (side_at condition arguments) z ∙ r.0) l.1 r.1

  basic_again : (t rest : Text) (e : tree.Expr) → Basic P A t e → Followed ends_basic rest → basic_at condition arguments (t ++ rest) ≡ found e rest
  basic_again t rest e (plain p) f = basic_plain t rest e p f
  basic_again _ rest _ (negated {t} {e} b hb p) f =
      let k : (b ++ t) ++ rest ≡ b ++ (t ++ rest) = append_assoc b t rest in
      let a : after_run is_blank (b ++ (t ++ rest)) ≡ t ++ rest = after_again is_blank b (t ++ rest) hb (starts_stops begins_negatable is_blank t rest blank_negatable (negatable_starts t e p)) in
      basic_negated ((b ++ t) ++ rest) (t ++ rest) rest e (ap (after_run is_blank) k ∙ a) (negatable_again t rest e p f)
  basic_again _ rest _ (comparison {t} {u} {o} {op} {x} {y} b c px hb po hc py) f = rw (compared_parts t b o c u rest) (compared_again t b o c u rest x y op px hb po hc py (wider ends_basic ends_side rest basic_side f))

  basic_starts : (t : Text) (e : tree.Expr) → Basic P A t e → Starts begins_expression t
  basic_starts t e (plain p) = starts_wider begins_negatable begins_expression t negatable_expression (negatable_starts t e p)
  basic_starts _ _ (negated {t} b hb p) = record { head = 0x21; tail = b ++ t; is = refl; passes = refl }
  basic_starts _ _ (comparison {t} {u} {o} {op} {x} b c px hb po hc py) = append_starts begins_expression t (b ++ (o ++ (c ++ u))) (starts_wider begins_side begins_expression t side_expression (comparable_starts t x px))

  -- ---- operands of `&&`, and of `||`

  and_next : (g t rest : Text) (e : tree.Expr) → Between (0x26 ∷ 0x26 ∷ []) g → Basic P A t e → next_operand 0x26 (g ++ (t ++ rest)) ≡ Some (t ++ rest)
  and_next g t rest e h p = operand_next 0x26 g t rest refl refl h (basic_starts t e p)

  and_follows : (g t rest : Text) (e : tree.Expr) → Between (0x26 ∷ 0x26 ∷ []) g → Basic P A t e → Followed ends_basic (g ++ (t ++ rest))
  and_follows g t rest e h p = operand_follows ends_basic 0x26 g (t ++ rest) refl h

  basic_not_empty : (t : Text) (e : tree.Expr) → Basic P A t e → 0 < length t
  basic_not_empty t e p = starts_not_empty begins_expression t (basic_starts t e p)

  basics_again : (t rest : Text) (es : List tree.Expr) → Separated (0x26 ∷ 0x26 ∷ []) (Basic P A) t es → Followed ends_and rest → basics_at condition arguments (t ++ rest) ≡ found es rest
  unfolding basics_at
  basics_again t rest es s f = list_again (next_operand 0x26) (basic_at condition arguments) (Between (0x26 ∷ 0x26 ∷ [])) (Basic P A) (Followed ends_basic) basic_again and_next and_follows basic_not_empty t rest es s (wider ends_and ends_basic rest and_basic f) (no_and rest f)

  and_again : (t rest : Text) (e : tree.Expr) → AndExpr P A t e → Followed ends_and rest → and_at condition arguments (t ++ rest) ≡ found e rest
  unfolding and_at
  and_again t rest _ (and_expr {es = es} s) f = rw (basics_again t rest es s f) refl

  basics_start : (t : Text) (es : List tree.Expr) → Separated (0x26 ∷ 0x26 ∷ []) (Basic P A) t es → Starts begins_expression t
  basics_start _ _ (first {t} {u} {x} {xs} p more) = append_starts begins_expression t u (basic_starts t x p)

  and_starts : (t : Text) (e : tree.Expr) → AndExpr P A t e → Starts begins_expression t
  and_starts t _ (and_expr {es = es} s) = basics_start t es s

  or_next : (g t rest : Text) (e : tree.Expr) → Between (0x7C ∷ 0x7C ∷ []) g → AndExpr P A t e → next_operand 0x7C (g ++ (t ++ rest)) ≡ Some (t ++ rest)
  or_next g t rest e h p = operand_next 0x7C g t rest refl refl h (and_starts t e p)

  or_follows : (g t rest : Text) (e : tree.Expr) → Between (0x7C ∷ 0x7C ∷ []) g → AndExpr P A t e → Followed ends_and (g ++ (t ++ rest))
  or_follows g t rest e h p = operand_follows ends_and 0x7C g (t ++ rest) refl h

  and_not_empty : (t : Text) (e : tree.Expr) → AndExpr P A t e → 0 < length t
  and_not_empty t e p = starts_not_empty begins_expression t (and_starts t e p)

  ands_again : (t rest : Text) (es : List tree.Expr) → Separated (0x7C ∷ 0x7C ∷ []) (AndExpr P A) t es → Followed ends_or rest → ands_at condition arguments (t ++ rest) ≡ found es rest
  unfolding ands_at
  ands_again t rest es s f = list_again (next_operand 0x7C) (and_at condition arguments) (Between (0x7C ∷ 0x7C ∷ [])) (AndExpr P A) (Followed ends_and) and_again or_next or_follows and_not_empty t rest es s (wider ends_or ends_and rest or_and f) (no_or rest f)

  pub or_again : (t rest : Text) (e : tree.Expr) → OrExpr P A t e → Followed ends_or rest → or_at condition arguments (t ++ rest) ≡ found e rest
  unfolding or_at
  or_again t rest _ (or_expr {es = es} s) f = rw (ands_again t rest es s f) refl

  ands_start : (t : Text) (es : List tree.Expr) → Separated (0x7C ∷ 0x7C ∷ []) (AndExpr P A) t es → Starts begins_expression t
  ands_start _ _ (first {t} {u} {x} {xs} p more) = append_starts begins_expression t u (and_starts t x p)

  pub or_starts : (t : Text) (e : tree.Expr) → OrExpr P A t e → Starts begins_expression t
  or_starts t _ (or_expr {es = es} s) = ands_start t es s

  -- ---- a literal that no operator follows is no expression

  no_basic : (w rest : Text) (l : tree.Literal) → Starts begins_side w → side_at condition arguments w ≡ found (tree.lit l) rest → operator_at (after_run is_blank rest) ≡ None → basic_at condition arguments w ≡ None
  unfolding basic_at basic_from tested
  no_basic w rest l s h o =
      let d : side_at condition arguments (s.head ∷ s.tail) ≡ found (tree.lit l) rest = rw s.is at h in
      rw (s.is, side_mark s.head s.passes, side_parenthesis s.head s.passes, d, o) refl

  no_or_at : (w : Text) → basic_at condition arguments w ≡ None → or_at condition arguments w ≡ None
  unfolding or_at ands_at and_at basics_at list_at
  no_or_at w e = rw e refl

  pub no_expression : (t rest : Text) (l : tree.Literal) → Literal t l → Followed ends_basic rest → or_at condition arguments (t ++ rest) ≡ None
  no_expression t rest l p f =
      let s = append_starts begins_side t rest (starts_wider begins_literal begins_side t literal_side (literal_starts t l p)) in
      no_or_at (t ++ rest) (no_basic (t ++ rest) rest l s (side_literal t rest l p (wider ends_basic ends_side rest basic_side f)) (no_operator rest f))
