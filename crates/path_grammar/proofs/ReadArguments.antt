-- Arguments that are read are spelled so, by the first of the alternatives that reads them whole; and so is what stands on each
-- level.
use Rattle.std.proofs.Common.{◌≡◌, ℕ, zero, suc, Bool, true, false, ◌==◌, List, [], ◌∷◌, ◌++◌, Option, Some, None, refl, sym, ap, subst, ◌∙◌, append_assoc, inl, inr, arith}
use Rattle.std.proofs.lemmas.Bool.Decides.{nat_tests}
use Rattle.path_grammar.specs.Tree as tree
use Rattle.path_grammar.specs.Characters.{Text, is_blank, is_lower}
use Rattle.path_grammar.specs.Lists.{Between, between, Separated}
use Rattle.path_grammar.specs.Grammar.{Literal, SubQuery, Call, query_test, call_test, OrExpr, Argument, literal_argument, query_argument, call_argument, logical_argument, Arguments, no_arguments, arguments, Condition, ArgumentList}
use Rattle.path_grammar.specs.Reading.{Reader, front_run, after_run, behind}
use Rattle.path_grammar.specs.ReadingLiterals.{literal_at}
use Rattle.path_grammar.specs.ReadingSegments.{begins_query}
use Rattle.path_grammar.specs.ReadingFilters.{next_argument, ends_argument, is_parenthesis, argument_of, or_at, expression_argument_at, argument_from, argument_at, some_arguments_at, arguments_at, condition_in, arguments_in}
use Rattle.path_grammar.proofs.Read.{found, pair, same_pair, some_is, bind_some, chosen, behind_reads, run_parts, run_passes, Reads, ReadsOne, reads_wider}
use Rattle.path_grammar.proofs.ReadLists.{Finds, list_reads}
use Rattle.path_grammar.proofs.ReadLiterals.{literal_reads}
use Rattle.path_grammar.proofs.ReadFilters.{or_reads}
use Rattle.path_grammar.proofs.Again.{Starts}
use Rattle.path_grammar.proofs.Followed.{ends_or, ends_basic, nothing_follows}
use Rattle.path_grammar.proofs.AgainLiterals.{begins_expression}
use Rattle.path_grammar.proofs.AgainSegments.{sub_query_starts}
use Rattle.path_grammar.proofs.AgainFilters.{IsReadAgain, call_starts, or_again, or_starts, no_expression}
use Rattle.path_grammar.proofs.AgainArguments.{is_bare, bare_negatable, bare_is, bare_expression, argument_logical, is_read_again}

comma_parts : (b c u t t1 t2 : Text) → t ≡ b ++ t1 → t1 ≡ 0x2C ∷ t2 → t2 ≡ c ++ u → t ≡ (b ++ (0x2C ∷ c)) ++ u
comma_parts b c u t t1 t2 p q r = rw (p, q, r) (simp append_assoc)

finds_argument : Finds next_argument (Between (0x2C ∷ []))
unfolding next_argument
finds_argument t u e =
    let x = bind_some (behind 0x2C (after_run is_blank t)) (λ v. Some (after_run is_blank v)) u e in
    let b = front_run is_blank t in
    let c = front_run is_blank (x.0) in (
      b ++ (0x2C ∷ c),
      comma_parts b c u t (after_run is_blank t) (x.0) (run_parts is_blank t) (behind_reads 0x2C (after_run is_blank t) (x.0) x.1) (run_parts is_blank (x.0) ∙ ap (λ (v : Text). c ++ v) (some_is (after_run is_blank (x.0)) u x.2)),
      between b c (run_passes is_blank t) (run_passes is_blank (x.0)),
    )

-- ---- texts that begin with different characters

head_of : (p : ℕ → Bool) (c : ℕ) (t u : Text) → u ≡ c ∷ t → Starts p u → p c ≡ true
head_of p c t u e s = let k : s.head ≡ c = same_head s.head c s.tail t (sym s.is ∙ e) in subst (λ (x : ℕ). p x ≡ true) k s.passes
  where
    same_head : (a b : ℕ) (x y : Text) → a ∷ x ≡ b ∷ y → a ≡ b
    same_head a b x y e = cc

two_heads : (p q : ℕ → Bool) (t : Text) → ((c : ℕ) → p c ≡ true → q c ≡ false) → Starts p t → Starts q t → ⊥
two_heads p q t h s k = absurd_test (q s.head) (head_of q s.head s.tail t s.is k) (h s.head s.passes)
  where
    absurd_test : (b : Bool) → b ≡ true → b ≡ false → ⊥
    absurd_test b e f = absurd cc

query_lower : (c : ℕ) → begins_query c ≡ true → is_lower c ≡ false
query_lower c e = grind (arith, nat_tests)

parenthesis_query : (c : ℕ) → (c == 0x28) ≡ true → begins_query c ≡ false
parenthesis_query c e = grind (arith, nat_tests)

parenthesis_lower : (c : ℕ) → (c == 0x28) ≡ true → is_lower c ≡ false
parenthesis_lower c e = grind (arith, nat_tests)

is_opened : (c : ℕ) (t : Text) → is_parenthesis (c ∷ t) ≡ true → (c == 0x28) ≡ true
unfolding is_parenthesis
is_opened c t e = e

opened_start : (u v : Text) → Starts begins_expression u → is_parenthesis (u ++ v) ≡ true → Starts (λ c. c == 0x28) u
opened_start u v s e =
    let k : is_parenthesis (s.head ∷ s.tail ++ v) ≡ true = ap (λ (x : Text). is_parenthesis (x ++ v)) (sym s.is) ∙ e in
    record { head = s.head; tail = s.tail; is = s.is; passes = is_opened s.head (s.tail ++ v) k }

clash : {X : Type 0} (o : Option X) (x : X) → o ≡ Some x → o ≡ None → ⊥
clash o x h k = absurd cc

test_clash : (b : Bool) → b ≡ true → b ≡ false → ⊥
test_clash b h k = absurd cc

same_found : (o : Option (tree.Expr × Text)) (x y : tree.Expr) (t : Text) → o ≡ found x t → o ≡ found y t → x ≡ y
same_found o x y t h k = (same_pair x y t t (sym h ∙ k)).0

query_is : (p q : tree.Nested) → tree.test p ≡ tree.test q → p ≡ q
query_is p q e = cc

call_is : (p q : tree.Call) → tree.test_call p ≡ tree.test_call q → p ≡ q
call_is p q e = cc

no_test_call : (p : tree.Nested) (c : tree.Call) → tree.test p ≡ tree.test_call c → ⊥
no_test_call p c e = absurd cc

no_call_test : (c : tree.Call) (p : tree.Nested) → tree.test_call c ≡ tree.test p → ⊥
no_call_test c p e = absurd cc

module _ (condition : Reader tree.Expr) (list : Reader (List tree.Argument)) (P : Text → tree.Expr → Type 0) (A : Text → List tree.Argument → Type 0) (laws : IsReadAgain condition list P A) (condition_reads : ReadsOne condition P) (arguments_read : ReadsOne list A) where
  -- a text is no two expressions
  one_expression : (u : Text) (x y : tree.Expr) → OrExpr P A u x → OrExpr P A u y → x ≡ y
  one_expression u x y p q =
      same_found (or_at condition list (u ++ [])) x y [] (or_again condition list P A laws u [] x p (nothing_follows ends_or)) (or_again condition list P A laws u [] y q (nothing_follows ends_or))

  no_literal : (u : Text) (e : tree.Expr) → OrExpr P A u e → (l : tree.Literal) → Literal u l → ⊥
  no_literal u e p l q =
      clash (or_at condition list (u ++ [])) (e, []) (or_again condition list P A laws u [] e p (nothing_follows ends_or)) (no_expression condition list P A laws u [] l q (nothing_follows ends_basic))

  no_query_call : (u : Text) (q : tree.Nested) (c : tree.Call) → SubQuery P u q → Call A u c → ⊥
  no_query_call u q c p k = two_heads begins_query is_lower u query_lower (sub_query_starts P u q p) (call_starts condition list P A laws u c k)

  -- an expression that is not bare, or begins with a parenthesis
  no_query_here : (u v : Text) (e : tree.Expr) → OrExpr P A u e → (is_parenthesis (u ++ v) ≡ false → is_bare e ≡ true → ⊥) → (b : Bool) → is_parenthesis (u ++ v) ≡ b → (q : tree.Nested) → SubQuery P u q → ⊥
  no_query_here u v e p h true k q s = two_heads (λ c. c == 0x28) begins_query u parenthesis_query (opened_start u v (or_starts condition list P A laws u e p) k) (sub_query_starts P u q s)
  no_query_here u v e p h false k q s =
      let same : tree.test q ≡ e = one_expression u (tree.test q) e (bare_expression P A u (tree.test q) (query_test s)) p in
      h k (ap is_bare (sym same))

  no_call_here : (u v : Text) (e : tree.Expr) → OrExpr P A u e → (is_parenthesis (u ++ v) ≡ false → is_bare e ≡ true → ⊥) → (b : Bool) → is_parenthesis (u ++ v) ≡ b → (c : tree.Call) → Call A u c → ⊥
  no_call_here u v e p h true k c s = two_heads (λ c. c == 0x28) is_lower u parenthesis_lower (opened_start u v (or_starts condition list P A laws u e p) k) (call_starts condition list P A laws u c s)
  no_call_here u v e p h false k c s =
      let same : tree.test_call c ≡ e = one_expression u (tree.test_call c) e (bare_expression P A u (tree.test_call c) (call_test s)) p in
      h k (ap is_bare (sym same))

  logical_is : (u v : Text) (e : tree.Expr) → OrExpr P A u e → (is_parenthesis (u ++ v) ≡ false → is_bare e ≡ true → ⊥) → Argument P A u (argument_of (is_parenthesis (u ++ v)) e)
  logical_is u v e p h =
      subst (Argument P A u) (sym (argument_logical (is_parenthesis (u ++ v)) e h))
      (logical_argument (no_literal u e p) (no_query_here u v e p h (is_parenthesis (u ++ v)) refl) (no_call_here u v e p h (is_parenthesis (u ++ v)) refl) p)

  test_argument : (u v : Text) (q : tree.Nested) → OrExpr P A u (tree.test q) → is_parenthesis (u ++ v) ≡ false → Argument P A u (tree.nodes_argument q)
  test_argument u v q p h = elim (bare_is P A u v (tree.test q) (bare_negatable P A u (tree.test q) p refl) h) [
    | inl k ↦ query_argument (no_literal u (tree.test q) p) (subst (λ (x : tree.Nested). SubQuery P u x) (sym (query_is q (k.0) k.1)) k.2)
    | inr k ↦ absurd (no_test_call q (k.0) k.1)
  ]

  call_is_argument : (u v : Text) (c : tree.Call) → OrExpr P A u (tree.test_call c) → is_parenthesis (u ++ v) ≡ false → Argument P A u (tree.func_argument c)
  call_is_argument u v c p h = elim (bare_is P A u v (tree.test_call c) (bare_negatable P A u (tree.test_call c) p refl) h) [
    | inl k ↦ absurd (no_call_test c (k.0) k.1)
    | inr k ↦ (
        let s : Call A u c = subst (λ (x : tree.Call). Call A u x) (sym (call_is c (k.0) k.1)) k.2 in
        call_argument (no_literal u (tree.test_call c) p) (λ q r. no_query_call u q c r s) s)
  ]

  argument_is : (u v : Text) (e : tree.Expr) (b : Bool) → is_parenthesis (u ++ v) ≡ b → OrExpr P A u e → Argument P A u (argument_of (is_parenthesis (u ++ v)) e)
  argument_is u v (tree.test q) false k p = subst (λ (x : Bool). Argument P A u (argument_of x (tree.test q))) (sym k) (test_argument u v q p k)
  argument_is u v (tree.test_call c) false k p = subst (λ (x : Bool). Argument P A u (argument_of x (tree.test_call c))) (sym k) (call_is_argument u v c p k)
  argument_is u v (tree.test q) true k p = logical_is u v (tree.test q) p (λ f n. test_clash (is_parenthesis (u ++ v)) k f)
  argument_is u v (tree.test_call c) true k p = logical_is u v (tree.test_call c) p (λ f n. test_clash (is_parenthesis (u ++ v)) k f)
  argument_is u v (tree.any es) b k p = logical_is u v (tree.any es) p (λ f n. absurd cc)
  argument_is u v (tree.each es) b k p = logical_is u v (tree.each es) p (λ f n. absurd cc)
  argument_is u v (tree.not e) b k p = logical_is u v (tree.not e) p (λ f n. absurd cc)
  argument_is u v (tree.compare x op y) b k p = logical_is u v (tree.compare x op y) p (λ f n. absurd cc)

  expression_reads : ReadsOne (expression_argument_at condition list) (Argument P A)
  unfolding expression_argument_at
  expression_reads t rest a h =
      let b = bind_some (or_at condition list t) (λ x. found (argument_of (is_parenthesis t) x.0) x.1) (pair a rest) h in
      let p = same_pair (argument_of (is_parenthesis t) (b.0.0)) a (b.0.1) rest b.2 in
      let r = or_reads condition list P A condition_reads arguments_read t (b.0.1) (b.0.0) b.1 in
      let g : Argument P A r.front (argument_of (is_parenthesis (r.front ++ b.0.1)) (b.0.0)) = argument_is r.front (b.0.1) (b.0.0) (is_parenthesis (r.front ++ b.0.1)) refl r.is in
      record {
        front = r.front;
        parts = r.parts ∙ ap (λ (v : Text). r.front ++ v) p.1;
        is = subst (Argument P A r.front) (ap (λ (x : Text). argument_of (is_parenthesis x) (b.0.0)) (sym r.parts) ∙ p.0) g;
      }

  argument_from_reads : (t rest : Text) (a : tree.Argument) (o : Option (tree.Literal × Text)) → literal_at t ≡ o → argument_from condition list t o ≡ found a rest → Reads (Argument P A) t a rest
  unfolding argument_from
  argument_from_reads t rest a (Some x) l h = elim (chosen (ends_argument (after_run is_blank x.1)) _ _ _ h) [
    | inl k ↦ (
        let p = same_pair (tree.lit_argument x.0) a (x.1) rest k.1 in
        let r = literal_reads t (x.1) (x.0) l in
        record { front = r.front; parts = r.parts ∙ ap (λ (v : Text). r.front ++ v) p.1; is = subst (Argument P A r.front) p.0 (literal_argument r.is) })
    | inr k ↦ expression_reads t rest a k.1
  ]
  argument_from_reads t rest a None l h = expression_reads t rest a h

  argument_reads : ReadsOne (argument_at condition list) (Argument P A)
  unfolding argument_at
  argument_reads t rest a h = argument_from_reads t rest a (literal_at t) refl h

  some_read : ReadsOne (some_arguments_at condition list) (Separated (0x2C ∷ []) (Argument P A))
  unfolding some_arguments_at
  some_read t rest xs h = list_reads next_argument (argument_at condition list) (Between (0x2C ∷ [])) (Argument P A) finds_argument argument_reads t rest xs h

  pub list_read : ReadsOne (arguments_at condition list) (Arguments P A)
  unfolding arguments_at
  list_read [] rest xs h = absurd cc
  list_read (c ∷ t) rest xs h = elim (chosen (c == 0x29) _ _ _ h) [
    | inl k ↦ (
        let p = same_pair [] xs (c ∷ t) rest k.1 in
        record { front = []; parts = p.1; is = subst (Arguments P A []) p.0 no_arguments })
    | inr k ↦ reads_wider (Separated (0x2C ∷ []) (Argument P A)) (Arguments P A) (c ∷ t) rest xs (λ u s. arguments s) (some_read (c ∷ t) rest xs k.1)
  ]

-- ---- each level

pub record IsRead (n : ℕ) : Type 0 where
  pub condition_reads : ReadsOne (condition_in n) (Condition n)
  pub arguments_read : ReadsOne (arguments_in n) (ArgumentList n)

nothing_reads : {X : Type 0} (R : Text → X → Type 0) (t rest : Text) (x : X) → None ≡ found x rest → Reads R t x rest
nothing_reads R t rest x e = absurd cc

pub is_read : (n : ℕ) → IsRead n
unfolding condition_in
is_read zero = record { condition_reads = λ t rest e h. nothing_reads (Condition 0) t rest e h; arguments_read = λ t rest xs h. nothing_reads (ArgumentList 0) t rest xs h }
is_read (suc n) =
    let m = is_read n in
    record {
      condition_reads = or_reads (condition_in n) (arguments_in n) (Condition n) (ArgumentList n) m.condition_reads m.arguments_read;
      arguments_read = list_read (condition_in n) (arguments_in n) (Condition n) (ArgumentList n) (is_read_again n) m.condition_reads m.arguments_read;
    }
