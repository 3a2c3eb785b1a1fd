-- Logical expressions and calls that are read are spelled so: one level, by what stands a level deeper.
use Rattle.std.proofs.Common.{◌≡◌, ℕ, Bool, true, false, cond, ◌&&◌, ◌==◌, List, [], ◌∷◌, ◌++◌, Option, Some, None, refl, sym, ap, subst, ◌∙◌, append_assoc, inl, inr, arith}
use Rattle.std.proofs.lemmas.Bool.{eqb-true, and_parts}
use Rattle.std.proofs.lemmas.Bool.Decides.{nat_tests}
use Rattle.std.specs.List.{list_all}
use Rattle.path_grammar.specs.Tree as tree
use Rattle.path_grammar.specs.Tree.{arguments_of}
use Rattle.path_grammar.specs.Characters.{Text, is_blank, is_lower, is_function}
use Rattle.path_grammar.specs.Lists.{Between, between, Separated}
use Rattle.path_grammar.specs.Grammar.{Literal, SubQuery, Call, call, Comparable, of_literal, of_query, of_call, joined, Negatable, parentheses, query_test, call_test, Basic, plain, negated, comparison, AndExpr, and_expr, OrExpr, or_expr}
use Rattle.path_grammar.specs.Reading.{Reader, ◌>>=◌, front_run, after_run, behind, closing}
use Rattle.path_grammar.specs.ReadingLiterals.{literal_at, operator_at}
use Rattle.path_grammar.specs.ReadingSegments.{begins_query, sub_query_at}
use Rattle.path_grammar.specs.ReadingFilters.{next_operand, opens_call, test_of, tested, is_comparable, parentheses_at, call_at, side_from, side_at, negatable_at, compared_at, basic_from, basic_at, basics_at, and_at, ands_at, or_at}
use Rattle.path_grammar.specs.declared.ast.Op.{Op}
use Rattle.path_grammar.proofs.Read.{found, pair, same_pair, some_is, bind_some, chosen, guarded, behind_reads, run_parts, run_passes, Reads, ReadsOne, reads_behind, reads_mapped, reads_wider}
use Rattle.path_grammar.proofs.ReadLists.{Finds, list_reads}
use Rattle.path_grammar.proofs.ReadLiterals.{literal_reads, operator_reads}
use Rattle.path_grammar.proofs.ReadSegments.{sub_query_reads}
use Rattle.path_grammar.proofs.Singulars.{query_singular}

-- ---- what closes, and where an operand begins

closing_reads : {X : Type 0} (k : ℕ) (x y : X) (t rest : Text) → closing k x t ≡ found y rest → (t ≡ front_run is_blank t ++ (k ∷ rest)) × (x ≡ y)
unfolding closing
closing_reads k x y t rest e =
    let b = bind_some (behind k (after_run is_blank t)) (λ r. found x r) (pair y rest) e in
    let p = same_pair x y (b.0) rest b.2 in
    let q = behind_reads k (after_run is_blank t) (b.0) b.1 in
    (run_parts is_blank t ∙ ap (λ (u : Text). front_run is_blank t ++ u) (q ∙ ap (λ (u : Text). k ∷ u) p.1), p.0)

doubled : (k : ℕ) (b c u t t1 t2 t3 : Text) → t ≡ b ++ t1 → t1 ≡ k ∷ t2 → t2 ≡ k ∷ t3 → t3 ≡ c ++ u → t ≡ (b ++ (k ∷ k ∷ c)) ++ u
doubled k b c u t t1 t2 t3 p q r s = rw (p, q, r, s) (simp append_assoc)

finds_operand : (k : ℕ) → Finds (next_operand k) (Between (k ∷ k ∷ []))
unfolding next_operand
finds_operand k t u e =
    let x = bind_some (behind k (after_run is_blank t)) (λ v. behind k v >>= λ w. Some (after_run is_blank w)) u e in
    let y = bind_some (behind k (x.0)) (λ w. Some (after_run is_blank w)) u x.2 in
    let b = front_run is_blank t in
    let c = front_run is_blank (y.0) in (
      b ++ (k ∷ k ∷ c),
      doubled k b c u t (after_run is_blank t) (x.0) (y.0) (run_parts is_blank t) (behind_reads k (after_run is_blank t) (x.0) x.1) (behind_reads k (x.0) (y.0) y.1)
          (run_parts is_blank (y.0) ∙ ap (λ (v : Text). c ++ v) (some_is (after_run is_blank (y.0)) u y.2)),
      between b c (run_passes is_blank t) (run_passes is_blank (y.0)),
    )

-- blanks before, a character behind
closed_parts : (b f d : Text) (k : ℕ) (rest t t1 v : Text) → t ≡ b ++ t1 → t1 ≡ f ++ v → v ≡ d ++ (k ∷ rest) → t ≡ (b ++ (f ++ (d ++ (k ∷ [])))) ++ rest
closed_parts b f d k rest t t1 v p q r = rw (p, q, r) (simp append_assoc)

-- ---- names of calls

pub record Opened (t name u : Text) : Type 0 where
  pub head : ℕ
  pub tail : Text
  pub is : name ≡ head ∷ tail
  pub passes : (is_lower head && list_all is_function tail) ≡ true
  pub parts : t ≡ name ++ (0x28 ∷ u)

lower_function : (c : ℕ) → is_lower c ≡ true → is_function c ≡ true
lower_function c e = grind (arith, nat_tests)

cond_true : {X : Type 0} (b : Bool) (x y : X) → b ≡ true → cond b x y ≡ x
cond_true true x y e = refl
cond_true false x y e = absurd cc

both : (a b : Bool) → a ≡ true → b ≡ true → (a && b) ≡ true
both a b h k = rw (h, k) refl

opens_reads : (t name u : Text) → opens_call t ≡ found name u → Opened t name u
unfolding opens_call
opens_reads [] name u e = absurd cc
opens_reads (c ∷ t) name u e =
    let g = guarded (is_lower c) (behind 0x28 (after_run is_function (c ∷ t)) >>= λ v. Some (front_run is_function (c ∷ t), v)) (pair name u) e in
    let b = bind_some (behind 0x28 (after_run is_function (c ∷ t))) (λ v. Some (front_run is_function (c ∷ t), v)) (pair name u) g.1 in
    let p = same_pair (front_run is_function (c ∷ t)) name (b.0) u b.2 in
    let n : front_run is_function (c ∷ t) ≡ c ∷ front_run is_function t = cond_true (is_function c) (c ∷ front_run is_function t) [] (lower_function c g.0) in
    record {
      head = c;
      tail = front_run is_function t;
      is = sym p.0 ∙ n;
      passes = both (is_lower c) (list_all is_function (front_run is_function t)) g.0 (run_passes is_function t);
      parts = run_parts is_function (c ∷ t) ∙ ap (λ (v : Text). front_run is_function (c ∷ t) ++ v) (behind_reads 0x28 (after_run is_function (c ∷ t)) (b.0) b.1 ∙ ap (λ (v : Text). 0x28 ∷ v) p.1) ∙ ap (λ (v : Text). v ++ (0x28 ∷ u)) p.0;
    }

tested_reads : (x : tree.Comparable) (e : tree.Expr) (t rest : Text) → tested x t ≡ found e rest → (test_of x ≡ Some e) × (t ≡ rest)
unfolding tested
tested_reads x e t rest h =
    let b = bind_some (test_of x) (λ y. found y t) (pair e rest) h in
    let p = same_pair (b.0) e t rest b.2 in
    (b.1 ∙ ap (λ (y : tree.Expr). Some y) p.0, p.1)

compared_parts : (f b o c g rest t v w z y : Text) → t ≡ f ++ v → v ≡ b ++ w → w ≡ o ++ z → z ≡ c ++ y → y ≡ g ++ rest → t ≡ (f ++ (b ++ (o ++ (c ++ g)))) ++ rest
compared_parts f b o c g rest t v w z y p q r s u = rw (p, q, r, s, u) (simp append_assoc)

negated_parts : (b f rest t t1 : Text) → t ≡ b ++ t1 → t1 ≡ f ++ rest → t ≡ (b ++ f) ++ rest
negated_parts b f rest t t1 p q = rw (p, q) (simp append_assoc)

module _ (condition : Reader tree.Expr) (list : Reader (List tree.Argument)) (P : Text → tree.Expr → Type 0) (A : Text → List tree.Argument → Type 0) (condition_reads : ReadsOne condition P) (arguments_read : ReadsOne list A) where
  parentheses_read : (t rest : Text) (e : tree.Expr) → parentheses_at condition list t ≡ found e rest → Reads (λ u x. Negatable P A (0x28 ∷ u) x) t e rest
  unfolding parentheses_at
  parentheses_read t rest e h =
      let x = bind_some (condition (after_run is_blank t)) (λ x. closing 0x29 x.0 x.1) (pair e rest) h in
      let v = x.0.1 in
      let r = condition_reads (after_run is_blank t) v (x.0.0) x.1 in
      let k = closing_reads 0x29 (x.0.0) e v rest x.2 in
      let b = front_run is_blank t in
      let d = front_run is_blank v in
      record {
        front = b ++ (r.front ++ (d ++ (0x29 ∷ [])));
        parts = closed_parts b r.front d 0x29 rest t (after_run is_blank t) v (run_parts is_blank t) r.parts k.0;
        is = subst (λ (y : tree.Expr). Negatable P A (0x28 ∷ (b ++ (r.front ++ (d ++ (0x29 ∷ []))))) y) k.1 (parentheses b d (run_passes is_blank t) (run_passes is_blank v) r.is);
      }

  call_reads : (c : ℕ) (cs : Text) → (is_lower c && list_all is_function cs) ≡ true → (t rest : Text) (k : tree.Call) → call_at condition list (c ∷ cs) t ≡ found k rest → Reads (λ u x. Call A (c ∷ (cs ++ (0x28 ∷ u))) x) t k rest
  unfolding call_at
  call_reads c cs n t rest k h =
      let x = bind_some (list (after_run is_blank t)) (λ x. closing 0x29 (tree.call (c ∷ cs) (arguments_of x.0)) x.1) (pair k rest) h in
      let v = x.0.1 in
      let r = arguments_read (after_run is_blank t) v (x.0.0) x.1 in
      let m = closing_reads 0x29 (tree.call (c ∷ cs) (arguments_of (x.0.0))) k v rest x.2 in
      let b = front_run is_blank t in
      let d = front_run is_blank v in
      record {
        front = b ++ (r.front ++ (d ++ (0x29 ∷ [])));
        parts = closed_parts b r.front d 0x29 rest t (after_run is_blank t) v (run_parts is_blank t) r.parts m.0;
        is = subst (λ (y : tree.Call). Call A (c ∷ (cs ++ (0x28 ∷ (b ++ (r.front ++ (d ++ (0x29 ∷ []))))))) y) m.1 (call c cs b d n (run_passes is_blank t) (run_passes is_blank v) r.is);
      }

  -- ---- sides: a query may be one that is not singular

  data Side : Text → tree.Comparable → Type 0 where
    side_literal : {t : Text} {l : tree.Literal} → Literal t l → Side t (tree.lit l)
    side_query : {t : Text} {q : tree.Nested} → SubQuery P t q → Side t (tree.single q)
    side_call : {t : Text} {k : tree.Call} → Call A t k → Side t (tree.func k)

  call_side : (c : ℕ) (cs t u rest : Text) (x : tree.Comparable) → (is_lower c && list_all is_function cs) ≡ true → t ≡ c ∷ (cs ++ (0x28 ∷ u)) → (call_at condition list (c ∷ cs) u >>= λ y. found (tree.func y.0) y.1) ≡ found x rest → Reads Side t x rest
  call_side c cs t u rest x n w h =
      let b = bind_some (call_at condition list (c ∷ cs) u) (λ y. found (tree.func y.0) y.1) (pair x rest) h in
      let p = same_pair (tree.func (b.0.0)) x (b.0.1) rest b.2 in
      let r = call_reads c cs n u (b.0.1) (b.0.0) b.1 in
      record {
        front = c ∷ (cs ++ (0x28 ∷ r.front));
        parts = w ∙ ap (λ (v : Text). c ∷ v) (ap (λ (v : Text). cs ++ (0x28 ∷ v)) (r.parts ∙ ap (λ (v : Text). r.front ++ v) p.1) ∙ sym (append_assoc cs (0x28 ∷ r.front) rest));
        is = subst (λ (y : tree.Comparable). Side (c ∷ (cs ++ (0x28 ∷ r.front))) y) p.0 (side_call r.is);
      }

  named_side : (t name u rest : Text) (x : tree.Comparable) → Opened t name u → (call_at condition list name u >>= λ y. found (tree.func y.0) y.1) ≡ found x rest → Reads Side t x rest
  named_side t name u rest x o h =
      call_side o.head o.tail t u rest x o.passes (o.parts ∙ ap (λ (v : Text). v ++ (0x28 ∷ u)) o.is) (subst (λ (n : Text). (call_at condition list n u >>= λ y. found (tree.func y.0) y.1) ≡ found x rest) o.is h)

  side_from_reads : (t rest : Text) (x : tree.Comparable) (o : Option (Text × Text)) → opens_call t ≡ o → side_from condition list t o ≡ found x rest → Reads Side t x rest
  unfolding side_from
  side_from_reads t rest x (Some p) o e = named_side t (p.0) (p.1) rest x (opens_reads t (p.0) (p.1) o) e
  side_from_reads t rest x None o e = reads_mapped Literal Side tree.lit literal_at t rest x literal_reads (λ u l p. side_literal p) e

  side_reads : ReadsOne (side_at condition list) Side
  unfolding side_at
  side_reads [] rest x e = absurd cc
  side_reads (c ∷ t) rest x e = elim (chosen (begins_query c) _ _ _ e) [
    | inl h ↦ reads_mapped (SubQuery P) Side tree.single (sub_query_at condition) (c ∷ t) rest x (sub_query_reads condition P condition_reads) (λ u q p. side_query p) h.1
    | inr h ↦ side_from_reads (c ∷ t) rest x (opens_call (c ∷ t)) refl h.1
  ]

  test_is : (u : Text) (x : tree.Comparable) (e : tree.Expr) → Side u x → test_of x ≡ Some e → Negatable P A u e
  test_is u _ e (side_literal {l = l} p) h = absurd cc
  test_is u _ e (side_query {q = q} p) h = subst (λ (y : tree.Expr). Negatable P A u y) (some_is (tree.test q) e h) (query_test p)
  test_is u _ e (side_call {k = k} p) h = subst (λ (y : tree.Expr). Negatable P A u y) (some_is (tree.test_call k) e h) (call_test p)

  side_is : (u : Text) (x : tree.Comparable) → Side u x → is_comparable x ≡ true → Comparable A u x
  side_is u _ (side_literal p) h = of_literal p
  side_is u _ (side_query {q = q} p) h = of_query (query_singular P u q p h)
  side_is u _ (side_call p) h = of_call p

  side_tested : (t v rest : Text) (x : tree.Comparable) (e : tree.Expr) → Reads Side t x v → tested x v ≡ found e rest → Reads (Negatable P A) t e rest
  side_tested t v rest x e r h =
      let k = tested_reads x e v rest h in
      record { front = r.front; parts = r.parts ∙ ap (λ (u : Text). r.front ++ u) k.1; is = test_is r.front x e r.is k.0 }

  -- ---- what may stand behind an exclamation mark

  test_reads : (t rest : Text) (e : tree.Expr) → (side_at condition list t >>= λ x. tested x.0 x.1) ≡ found e rest → Reads (Negatable P A) t e rest
  test_reads t rest e h =
      let b = bind_some (side_at condition list t) (λ x. tested x.0 x.1) (pair e rest) h in
      side_tested t (b.0.1) rest (b.0.0) e (side_reads t (b.0.1) (b.0.0) b.1) b.2

  negatable_reads : ReadsOne (negatable_at condition list) (Negatable P A)
  unfolding negatable_at
  negatable_reads [] rest e h = absurd cc
  negatable_reads (c ∷ t) rest e h = elim (chosen (c == 0x28) _ _ _ h) [
    | inl k ↦ reads_behind (λ u x. Negatable P A (0x28 ∷ u) x) (Negatable P A) c 0x28 t rest e (eqb-true c 0x28 k.0) (λ u d. d) (parentheses_read t rest e k.1)
    | inr k ↦ test_reads (c ∷ t) rest e k.1
  ]

  -- ---- basic expressions

  negated_reads : (c : ℕ) (t rest : Text) (e : tree.Expr) → c ≡ 0x21 → (negatable_at condition list (after_run is_blank t) >>= λ x. found (tree.not x.0) x.1) ≡ found e rest → Reads (Basic P A) (c ∷ t) e rest
  negated_reads c t rest e ck h =
      let b = bind_some (negatable_at condition list (after_run is_blank t)) (λ x. found (tree.not x.0) x.1) (pair e rest) h in
      let p = same_pair (tree.not (b.0.0)) e (b.0.1) rest b.2 in
      let r = negatable_reads (after_run is_blank t) (b.0.1) (b.0.0) b.1 in
      let f = front_run is_blank t in
      record {
        front = 0x21 ∷ (f ++ r.front);
        parts = rw ck (ap (λ (v : Text). 0x21 ∷ v) (negated_parts f r.front rest t (after_run is_blank t) (run_parts is_blank t) (r.parts ∙ ap (λ (v : Text). r.front ++ v) p.1)));
        is = subst (λ (y : tree.Expr). Basic P A (0x21 ∷ (f ++ r.front)) y) p.0 (negated f (run_passes is_blank t) r.is);
      }

  compared_reads : (t v w rest : Text) (x : tree.Comparable) (op : Op) (e : tree.Expr) → Reads Side t x v → operator_at (after_run is_blank v) ≡ found op w → compared_at condition list x op (after_run is_blank w) ≡ found e rest → Reads (Basic P A) t e rest
  unfolding compared_at
  compared_reads t v w rest x op e r o h =
      let b = bind_some (side_at condition list (after_run is_blank w)) (λ y. cond (is_comparable x && is_comparable y.0) (found (tree.compare x op y.0) y.1) None) (pair e rest) h in
      let y = b.0.0 in
      let g = guarded (is_comparable x && is_comparable y) (found (tree.compare x op y) (b.0.1)) (pair e rest) b.2 in
      let p = same_pair (tree.compare x op y) e (b.0.1) rest g.1 in
      let k = and_parts (is_comparable x) (is_comparable y) g.0 in
      let q = operator_reads (after_run is_blank v) w op o in
      let s = side_reads (after_run is_blank w) (b.0.1) y b.1 in
      let f = front_run is_blank v in
      let d = front_run is_blank w in
      record {
        front = r.front ++ (f ++ (q.front ++ (d ++ s.front)));
        parts = compared_parts r.front f q.front d s.front rest t v (after_run is_blank v) w (after_run is_blank w) r.parts (run_parts is_blank v) q.parts (run_parts is_blank w) (s.parts ∙ ap (λ (u : Text). s.front ++ u) p.1);
        is = subst (λ (z : tree.Expr). Basic P A (r.front ++ (f ++ (q.front ++ (d ++ s.front)))) z) p.0 (comparison f d (side_is r.front x r.is k.0) (run_passes is_blank v) q.is (run_passes is_blank w) (side_is s.front y s.is k.1));
      }

  basic_from_reads : (t v rest : Text) (x : tree.Comparable) (e : tree.Expr) (o : Option (Op × Text)) → Reads Side t x v → operator_at (after_run is_blank v) ≡ o → basic_from condition list x v o ≡ found e rest → Reads (Basic P A) t e rest
  unfolding basic_from
  basic_from_reads t v rest x e (Some p) r o h = compared_reads t v (p.1) rest x (p.0) e r o h
  basic_from_reads t v rest x e None r o h = reads_wider (Negatable P A) (Basic P A) t rest e (λ u d. plain d) (side_tested t v rest x e r h)

  side_basic : (t rest : Text) (e : tree.Expr) → (side_at condition list t >>= λ x. basic_from condition list x.0 x.1 (operator_at (after_run is_blank x.1))) ≡ found e rest → Reads (Basic P A) t e rest
  side_basic t rest e h =
      let b = bind_some (side_at condition list t) (λ x. basic_from condition list x.0 x.1 (operator_at (after_run is_blank x.1))) (pair e rest) h in
      basic_from_reads t (b.0.1) rest (b.0.0) e (operator_at (after_run is_blank (b.0.1))) (side_reads t (b.0.1) (b.0.0) b.1) refl b.2

  basic_reads : ReadsOne (basic_at condition list) (Basic P A)
  unfolding basic_at
  basic_reads [] rest e h = absurd cc
  basic_reads (c ∷ t) rest e h = elim (chosen (c == 0x21) _ _ _ h) [
    | inl k ↦ negated_reads c t rest e (eqb-true c 0x21 k.0) k.1
    | inr k ↦ elim (chosen (c == 0x28) _ _ _ k.1) [
      | inl m ↦ reads_behind (λ u x. Negatable P A (0x28 ∷ u) x) (Basic P A) c 0x28 t rest e (eqb-true c 0x28 m.0) (λ u d. plain d) (parentheses_read t rest e m.1)
      | inr m ↦ side_basic (c ∷ t) rest e m.1
    ]
  ]

  -- ---- operands of `&&`, and of `||`

  basics_read : ReadsOne (basics_at condition list) (Separated (0x26 ∷ 0x26 ∷ []) (Basic P A))
  unfolding basics_at
  basics_read t rest es e = list_reads (next_operand 0x26) (basic_at condition list) (Between (0x26 ∷ 0x26 ∷ [])) (Basic P A) (finds_operand 0x26) basic_reads t rest es e

  and_reads : ReadsOne (and_at condition list) (AndExpr P A)
  unfolding and_at
  and_reads t rest e h = reads_mapped (Separated (0x26 ∷ 0x26 ∷ []) (Basic P A)) (AndExpr P A) (joined tree.each) (basics_at condition list) t rest e basics_read (λ u es s. and_expr s) h

  ands_read : ReadsOne (ands_at condition list) (Separated (0x7C ∷ 0x7C ∷ []) (AndExpr P A))
  unfolding ands_at
  ands_read t rest es e = list_reads (next_operand 0x7C) (and_at condition list) (Between (0x7C ∷ 0x7C ∷ [])) (AndExpr P A) (finds_operand 0x7C) and_reads t rest es e

  pub or_reads : ReadsOne (or_at condition list) (OrExpr P A)
  unfolding or_at
  or_reads t rest e h = reads_mapped (Separated (0x7C ∷ 0x7C ∷ []) (AndExpr P A)) (OrExpr P A) (joined tree.any) (ands_at condition list) t rest e ands_read (λ u es s. or_expr s) h
