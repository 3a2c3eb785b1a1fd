-- Lists of operands in parts.
use Rattle.std.proofs.Common.{◌≡◌, ℕ, zero, suc, ◌+◌, ◌<◌, ◌≤◌, Bool, true, false, ◌&&◌, ◌||◌, List, [], ◌∷◌, ◌++◌, map, length, drop, get_or, Option, Some, None, refl, sym, ap, subst, ◌∙◌, arith}
use Rattle.std.specs.Prelude.{IsTrue, nat_eq}
use Rattle.std.specs.List.{All}
use Rattle.std.proofs.lemmas.Bool.Decides.{nat_tests}
use Rattle.std.proofs.lemmas.List.Elements.{All-head, All-rest}
use Rattle.path_grammar.specs.Tree as tree
use Rattle.path_grammar.specs.Tree.{Expr, Exprs, exprs_of}
use Rattle.path_grammar.specs.View.{expr_view}
use Rattle.path_grammar.specs.declared.ast.Expr.{Expr as Source}
use Rattle.path_types.specs.Validity.{is_valid_expr, are_valid_exprs}
use Rattle.json_text.specs.Nodes.{Node}
use Rattle.decisions.specs.Tree.{listed}
use Rattle.condition_reader.specs.Turns.{dealt}
use Rattle.path_meaning.specs.Charge.{charge_expr, charge_exprs}
use Rattle.path_meaning.specs.Evaluation.{holds, some_hold, all_hold}
use Rattle.query_plan.specs.Planned.{trees, operands_of, append_exprs, appended, first_of, behind_of, put_first, woven, joined, condition_view}
use Rattle.query_plan.specs.declared.plan.Condition.{Condition}
use Rattle.query_plan.proofs.Makings.{push_tree, both_true}

-- ---- What is put together of the operands of lists, in whatever order

module _ {M : Type 0} (with : M → M → M) (nothing : M) (of : Expr → M) (of_all : Exprs → M)
    (left : (a : M) → with nothing a ≡ a) (turn : (a b c : M) → with a (with b c) ≡ with b (with a c)) (more : (a b c : M) → with a (with b c) ≡ with (with a b) c)
    (none : of_all tree.no_exprs ≡ nothing) (next : (e : Expr) (es : Exprs) → of_all (tree.expr e es) ≡ with (of e) (of_all es)) where
  abbrev of_lists : List Exprs → M
  of_lists [] = nothing
  of_lists (xs ∷ xss) = with (of_all xs) (of_lists xss)

  abbrev of_first : Option Expr → M → M
  of_first None a = a
  of_first (Some e) a = with (of e) a

  in_append : (xs ys : Exprs) → of_all (append_exprs xs ys) ≡ with (of_all xs) (of_all ys)
  in_append tree.no_exprs ys = sym (left (of_all ys)) ∙ ap (λ a. with a (of_all ys)) (sym none)
  in_append (tree.expr e xs) ys =
      next e (append_exprs xs ys)
      ∙ ap (with (of e)) (in_append xs ys)
      ∙ more (of e) (of_all xs) (of_all ys)
      ∙ ap (λ a. with a (of_all ys)) (sym (next e xs))

  in_appended : (xss : List Exprs) → of_all (appended xss) ≡ of_lists xss
  in_appended [] = none
  in_appended (xs ∷ xss) = in_append xs (appended xss) ∙ ap (with (of_all xs)) (in_appended xss)

  turn_first : (o : Option Expr) (a b : M) → with a (of_first o b) ≡ of_first o (with a b)
  turn_first None a b = refl
  turn_first (Some e) a b = turn a (of e) b

  taken : (k : ℕ) (xss : List Exprs) → of_lists xss ≡ of_first (first_of k xss) (of_lists (behind_of k xss))
  taken zero [] = refl
  taken zero (tree.no_exprs ∷ xss) = refl
  taken zero (tree.expr e es ∷ xss) = ap (λ a. with a (of_lists xss)) (next e es) ∙ sym (more (of e) (of_all es) (of_lists xss))
  taken (suc k) [] = refl
  taken (suc k) (xs ∷ xss) = ap (with (of_all xs)) (taken k xss) ∙ turn_first (first_of k xss) (of_all xs) (of_lists (behind_of k xss))

  in_front : (o : Option Expr) (es : Exprs) → of_all (put_first o es) ≡ of_first o (of_all es)
  in_front None es = refl
  in_front (Some e) es = next e es

  in_woven : (ks : List ℕ) (xss : List Exprs) → of_all (woven ks xss) ≡ of_lists xss
  in_woven [] xss = in_appended xss
  in_woven (k ∷ ks) xss =
      in_front (first_of k xss) (woven ks (behind_of k xss))
      ∙ ap (of_first (first_of k xss)) (in_woven ks (behind_of k xss))
      ∙ sym (taken k xss)

  in_joined : (is_any : Bool) (own : (e : Expr) → of_all (operands_of is_any e) ≡ of e) (ks : List ℕ) (es : List Expr) → of_all (joined is_any ks es) ≡ of_all (exprs_of es)
  in_joined is_any own ks es = in_woven ks (map (operands_of is_any) es) ∙ each es
    where
      each : (xs : List Expr) → of_lists (map (operands_of is_any) xs) ≡ of_all (exprs_of xs)
      each [] = sym none
      each (x ∷ xs) = (λ i. with (own x i) (each xs i)) ∙ sym (next x (exprs_of xs))

or_more : (a b c : Bool) → (a || (b || c)) ≡ ((a || b) || c)
or_more true b c = refl
or_more false b c = refl

or_turn : (a b c : Bool) → (a || (b || c)) ≡ (b || (a || c))
or_turn true true c = refl
or_turn true false c = refl
or_turn false true c = refl
or_turn false false c = refl

and_more : (a b c : Bool) → (a && (b && c)) ≡ ((a && b) && c)
and_more true b c = refl
and_more false b c = refl

and_turn : (a b c : Bool) → (a && (b && c)) ≡ (b && (a && c))
and_turn true true c = refl
and_turn true false c = refl
and_turn false true c = refl
and_turn false false c = refl

or_none : (a : Bool) → (a || false) ≡ a
or_none true = refl
or_none false = refl

and_all : (a : Bool) → (a && true) ≡ a
and_all true = refl
and_all false = refl

module _ (root n : Node) where
  some_own : (e : Expr) → some_hold root (operands_of true e) n ≡ holds root e n
  some_own (tree.any es) = refl
  some_own (tree.each es) = or_none (holds root (tree.each es) n)
  some_own (tree.not e) = or_none (holds root (tree.not e) n)
  some_own (tree.compare a op b) = or_none (holds root (tree.compare a op b) n)
  some_own (tree.test q) = or_none (holds root (tree.test q) n)
  some_own (tree.test_call c) = refl

  all_own : (e : Expr) → all_hold root (operands_of false e) n ≡ holds root e n
  all_own (tree.any es) = and_all (holds root (tree.any es) n)
  all_own (tree.each es) = refl
  all_own (tree.not e) = and_all (holds root (tree.not e) n)
  all_own (tree.compare a op b) = and_all (holds root (tree.compare a op b) n)
  all_own (tree.test q) = and_all (holds root (tree.test q) n)
  all_own (tree.test_call c) = refl

  charge_own : (is_any : Bool) (e : Expr) → charge_exprs root (operands_of is_any e) n ≡ charge_expr root e n
  charge_own true (tree.any es) = refl
  charge_own false (tree.any es) = let c : charge_exprs root es n + 0 ≡ charge_exprs root es n = omega arith in c
  charge_own true (tree.each es) = let c : charge_exprs root es n + 0 ≡ charge_exprs root es n = omega arith in c
  charge_own false (tree.each es) = refl
  charge_own true (tree.not e) = let c : charge_expr root (tree.not e) n + 0 ≡ charge_expr root (tree.not e) n = omega arith in c
  charge_own false (tree.not e) = let c : charge_expr root (tree.not e) n + 0 ≡ charge_expr root (tree.not e) n = omega arith in c
  charge_own true (tree.compare a op b) = let c : charge_expr root (tree.compare a op b) n + 0 ≡ charge_expr root (tree.compare a op b) n = omega arith in c
  charge_own false (tree.compare a op b) = let c : charge_expr root (tree.compare a op b) n + 0 ≡ charge_expr root (tree.compare a op b) n = omega arith in c
  charge_own true (tree.test q) = let c : charge_expr root (tree.test q) n + 0 ≡ charge_expr root (tree.test q) n = omega arith in c
  charge_own false (tree.test q) = let c : charge_expr root (tree.test q) n + 0 ≡ charge_expr root (tree.test q) n = omega arith in c
  charge_own true (tree.test_call f) = let c : charge_expr root (tree.test_call f) n + 0 ≡ charge_expr root (tree.test_call f) n = omega arith in c
  charge_own false (tree.test_call f) = let c : charge_expr root (tree.test_call f) n + 0 ≡ charge_expr root (tree.test_call f) n = omega arith in c

  some_joined : (ks : List ℕ) (es : List Expr) → some_hold root (joined true ks es) n ≡ some_hold root (exprs_of es) n
  some_joined = in_joined ◌||◌ false (λ e. holds root e n) (λ es. some_hold root es n) (λ a. refl) or_turn or_more refl (λ e es. refl) true some_own

  all_joined : (ks : List ℕ) (es : List Expr) → all_hold root (joined false ks es) n ≡ all_hold root (exprs_of es) n
  all_joined = in_joined ◌&&◌ true (λ e. holds root e n) (λ es. all_hold root es n) (λ a. refl) and_turn and_more refl (λ e es. refl) false all_own

  charge_joined : (is_any : Bool) (ks : List ℕ) (es : List Expr) → charge_exprs root (joined is_any ks es) n ≡ charge_exprs root (exprs_of es) n
  charge_joined is_any = in_joined ◌+◌ 0 (λ e. charge_expr root e n) (λ es. charge_exprs root es n) (λ a. omega arith) (λ a b c. omega arith) (λ a b c. omega arith) refl (λ e es. refl) is_any (charge_own is_any)

  -- as a condition
  pub holds_listed : (is_any : Bool) (ks : List ℕ) (es : List Expr) → is_any ≡ true → holds root (listed is_any (joined is_any ks es)) n ≡ some_hold root (exprs_of es) n
  holds_listed true ks es e = some_joined ks es
  holds_listed false ks es e = absurd cc

  pub holds_each : (is_any : Bool) (ks : List ℕ) (es : List Expr) → is_any ≡ false → holds root (listed is_any (joined is_any ks es)) n ≡ all_hold root (exprs_of es) n
  holds_each false ks es e = all_joined ks es
  holds_each true ks es e = absurd cc

  pub charge_listed : (is_any : Bool) (ks : List ℕ) (es : List Expr) → charge_expr root (listed is_any (joined is_any ks es)) n ≡ charge_exprs root (exprs_of es) n
  charge_listed true ks es = charge_joined true ks es
  charge_listed false ks es = charge_joined false ks es

-- ---- Made

-- the operands of each of the first groups
abbrev pub groups_below : (ks : List ℕ) (es : List Source) → ℕ → List Exprs
groups_below ks es zero = []
groups_below ks es (suc n) = groups_below ks es n ++ exprs_of (map expr_view (dealt ks n es)) ∷ []

how_many : (ks : List ℕ) (es : List Source) (n : ℕ) → length (groups_below ks es n) ≡ n
how_many ks es zero = refl
how_many ks es (suc n) = one_longer (groups_below ks es n) (exprs_of (map expr_view (dealt ks n es))) ∙ ap suc (how_many ks es n)
  where
    one_longer : (xss : List Exprs) (xs : Exprs) → length (xss ++ xs ∷ []) ≡ suc (length xss)
    one_longer [] xs = refl
    one_longer (ys ∷ xss) xs = ap suc (one_longer xss xs)

first_in : (k : ℕ) (xss yss : List Exprs) → k < length xss → first_of k (xss ++ yss) ≡ first_of k xss
first_in k [] yss l = absurd (omega arith)
first_in zero (tree.no_exprs ∷ xss) yss l = refl
first_in zero (tree.expr e es ∷ xss) yss l = refl
first_in (suc k) (xs ∷ xss) yss l = first_in k xss yss (omega arith)

behind_in : (k : ℕ) (xss yss : List Exprs) → k < length xss → behind_of k (xss ++ yss) ≡ behind_of k xss ++ yss
behind_in k [] yss l = absurd (omega arith)
behind_in zero (tree.no_exprs ∷ xss) yss l = refl
behind_in zero (tree.expr e es ∷ xss) yss l = refl
behind_in (suc k) (xs ∷ xss) yss l = ap (λ zss. xs ∷ zss) (behind_in k xss yss (omega arith))

first_last : (k : ℕ) (xss : List Exprs) (e : Expr) (es : Exprs) → length xss ≡ k → first_of k (xss ++ tree.expr e es ∷ []) ≡ Some e
first_last zero [] e es l = refl
first_last (suc k) [] e es l = absurd (omega arith)
first_last zero (xs ∷ xss) e es l = absurd (omega arith)
first_last (suc k) (xs ∷ xss) e es l = first_last k xss e es (omega arith)

behind_last : (k : ℕ) (xss : List Exprs) (e : Expr) (es : Exprs) → length xss ≡ k → behind_of k (xss ++ tree.expr e es ∷ []) ≡ xss ++ es ∷ []
behind_last zero [] e es l = refl
behind_last (suc k) [] e es l = absurd (omega arith)
behind_last zero (xs ∷ xss) e es l = absurd (omega arith)
behind_last (suc k) (xs ∷ xss) e es l = ap (λ zss. xs ∷ zss) (behind_last k xss e es (omega arith))

module _ (k : ℕ) (ks : List ℕ) (e : Source) (es : List Source) where
  is_own : dealt (k ∷ ks) k (e ∷ es) ≡ e ∷ dealt ks k es
  is_own = let t : nat_eq k k ≡ true = grind (arith, nat_tests) in rw t refl

  is_no_own : (n : ℕ) → n < k → dealt (k ∷ ks) n (e ∷ es) ≡ dealt ks n es
  is_no_own n l = let t : nat_eq k n ≡ false = grind (arith, nat_tests, l) in rw t refl

  is_behind : (n : ℕ) → k < n → dealt (k ∷ ks) n (e ∷ es) ≡ dealt ks n es
  is_behind n l = let t : nat_eq k n ≡ false = grind (arith, nat_tests, l) in rw t refl

  -- the groups in front of the operand's own
  apart : (n : ℕ) → n ≤ k → groups_below (k ∷ ks) (e ∷ es) n ≡ groups_below ks es n
  apart zero l = refl
  apart (suc n) l = (λ i. apart n (omega arith) i ++ exprs_of (map expr_view (is_no_own n (omega arith) i)) ∷ [])

  -- it is the first of its own, and all groups without it are those of the others
  record Leads (n : ℕ) : Type 0 where
    first : first_of k (groups_below (k ∷ ks) (e ∷ es) n) ≡ Some (expr_view e)
    behind : behind_of k (groups_below (k ∷ ks) (e ∷ es) n) ≡ groups_below ks es n

  leads_own : Leads (suc k)
  leads_own =
      let xss = groups_below ks es k in
      let same : groups_below (k ∷ ks) (e ∷ es) (suc k) ≡ xss ++ tree.expr (expr_view e) (exprs_of (map expr_view (dealt ks k es))) ∷ []
      = (λ i. apart k (omega arith) i ++ exprs_of (map expr_view (is_own i)) ∷ []) in
      record {
        first = rw same (first_last k xss (expr_view e) (exprs_of (map expr_view (dealt ks k es))) (how_many ks es k));
        behind = rw same (behind_last k xss (expr_view e) (exprs_of (map expr_view (dealt ks k es))) (how_many ks es k));
      }

  leads_more : (n : ℕ) → k < n → Leads n → Leads (suc n)
  leads_more n l h =
      let many = how_many (k ∷ ks) (e ∷ es) n in
      let xss = groups_below (k ∷ ks) (e ∷ es) n in
      let xs = exprs_of (map expr_view (dealt (k ∷ ks) n (e ∷ es))) in
      record {
        first = first_in k xss (xs ∷ []) (omega (arith, many, l)) ∙ h.first;
        behind = behind_in k xss (xs ∷ []) (omega (arith, many, l)) ∙ (λ i. h.behind i ++ exprs_of (map expr_view (is_behind n l i)) ∷ []);
      }

  leads : (n : ℕ) → k < n → Leads n
  leads zero l = absurd (omega arith)
  leads (suc n) l = go (nat_eq n k) refl (leads n)
    where
      go : (b : Bool) → nat_eq n k ≡ b → (k < n → Leads n) → Leads (suc n)
      go true e h = let same : k ≡ n = grind (arith, nat_tests, e) in subst (λ m. Leads (suc m)) same leads_own
      go false e h = let less : k < n = grind (arith, nat_tests, e, l) in leads_more n less (h less)

nothing_left : (es : List Source) (n : ℕ) → appended (groups_below [] es n) ≡ tree.no_exprs
nothing_left es zero = refl
nothing_left es (suc n) = one_more (groups_below [] es n) ∙ nothing_left es n
  where
    one_more : (xss : List Exprs) → appended (xss ++ tree.no_exprs ∷ []) ≡ appended xss
    one_more [] = refl
    one_more (xs ∷ xss) = ap (append_exprs xs) (one_more xss)

-- all operands in turn are those of the groups
in_turn : (ks : List ℕ) (es : List Source) (n : ℕ) → All (λ k. k < n) ks → length ks ≡ length es → woven ks (groups_below ks es n) ≡ exprs_of (map expr_view es)
in_turn [] [] n a l = nothing_left [] n
in_turn [] (e ∷ es) n a l = absurd (omega arith)
in_turn (k ∷ ks) [] n a l = absurd (omega arith)
in_turn (k ∷ ks) (e ∷ es) n a l =
    let h = leads k ks e es n (All-head (λ j. j < n) k ks a) in
    rw (h.first, h.behind) (ap (tree.expr (expr_view e)) (in_turn ks es n (All-rest (λ j. j < n) k ks (k ∷ ks) refl a) (omega (arith, l))))

pub all_parts : (is_any : Bool) (ks : List ℕ) (es : List Source) (n i : ℕ) (parts : List Condition) → n ≤ i → i ≤ n → All (λ k. k < n) ks → length ks ≡ length es
    → map (operands_of is_any) (trees (map condition_view parts)) ≡ groups_below ks es i → joined is_any ks (trees (map condition_view parts)) ≡ exprs_of (map expr_view es)
all_parts is_any ks es n i parts l m a each same =
    let e : i ≡ n = omega (arith, l, m) in
    ap (woven ks) same ∙ ap (λ j. woven ks (groups_below ks es j)) e ∙ in_turn ks es n a each

own_listed : (b : Bool) (es : Exprs) → operands_of b (listed b es) ≡ es
own_listed true es = refl
own_listed false es = refl

-- a part more
pub parts_more : (is_any : Bool) (ks : List ℕ) (es : List Source) (n : ℕ) (made : List Condition) (one : Condition)
    → map (operands_of is_any) (trees (map condition_view made)) ≡ groups_below ks es n → (condition_view one).tree ≡ listed is_any (exprs_of (map expr_view (dealt ks n es)))
    → map (operands_of is_any) (trees (map condition_view (made ++ one ∷ []))) ≡ groups_below ks es (n + 1)
parts_more is_any ks es n made one same own =
    pushed made
    ∙ (λ i. same i ++ (ap (operands_of is_any) own ∙ own_listed is_any (exprs_of (map expr_view (dealt ks n es)))) i ∷ [])
    ∙ ap (groups_below ks es) (let e : suc n ≡ n + 1 = omega arith in e)
  where
    pushed : (xs : List Condition) → map (operands_of is_any) (trees (map condition_view (xs ++ one ∷ []))) ≡ map (operands_of is_any) (trees (map condition_view xs)) ++ operands_of is_any (condition_view one).tree ∷ []
    pushed [] = refl
    pushed (x ∷ xs) = ap (λ zs. operands_of is_any (condition_view x).tree ∷ zs) (pushed xs)

-- ---- The operands of a group

-- an operand of another group
pub group_passed : (ks : List ℕ) (es : List Source) (number i : ℕ) → i < length ks → i < length es → (get_or ks i 0 ≡ number → ⊥) → dealt (drop (i + 1) ks) number (drop (i + 1) es) ≡ dealt (drop i ks) number (drop i es)
group_passed [] es number i l m unlike = absurd (omega arith)
group_passed (k ∷ ks) [] number i l m unlike = absurd (omega arith)
group_passed (k ∷ ks) (e ∷ es) number zero l m unlike = let t : nat_eq k number ≡ false = grind (arith, nat_tests, unlike) in rw t refl
group_passed (k ∷ ks) (e ∷ es) number (suc i) l m unlike = let next : suc i + 1 ≡ suc (i + 1) = omega arith in rw next (group_passed ks es number i (omega arith) (omega arith) unlike)

-- the next of the group
group_taken : (ks : List ℕ) (es : List Source) (number i : ℕ) (e : Source) → i < length ks → i < length es → get_or ks i 0 ≡ number
    → get_or es i e ∷ dealt (drop (i + 1) ks) number (drop (i + 1) es) ≡ dealt (drop i ks) number (drop i es)
group_taken [] es number i e l m like = absurd (omega arith)
group_taken (k ∷ ks) [] number i e l m like = absurd (omega arith)
group_taken (k ∷ ks) (x ∷ es) number zero e l m like = let t : nat_eq k number ≡ true = grind (arith, nat_tests, like) in rw t refl
group_taken (k ∷ ks) (x ∷ es) number (suc i) e l m like = let next : suc i + 1 ≡ suc (i + 1) = omega arith in rw next (group_taken ks es number i e (omega arith) (omega arith) like)

pub group_more : (made : List Condition) (one : Condition) (ks : List ℕ) (es : List Source) (number i : ℕ) (item : Source) → i < length ks → i < length es → get_or ks i 0 ≡ number → item ≡ get_or es i item
    → (condition_view one).tree ≡ expr_view item
    → trees (map condition_view (made ++ one ∷ [])) ++ map expr_view (dealt (drop (i + 1) ks) number (drop (i + 1) es)) ≡ trees (map condition_view made) ++ map expr_view (dealt (drop i ks) number (drop i es))
group_more made one ks es number i item l m like is same =
    let rest = dealt (drop (i + 1) ks) number (drop (i + 1) es) in
    push_tree condition_view made one (map expr_view rest)
    ∙ ap (λ t. trees (map condition_view made) ++ t ∷ map expr_view rest) (same ∙ ap expr_view is)
    ∙ ap (λ (xs : List Source). trees (map condition_view made) ++ map expr_view xs) (group_taken ks es number i item l m like)

pub valid_behind : (es : List Source) (i : ℕ) → IsTrue (are_valid_exprs (exprs_of (map expr_view (drop i es)))) → IsTrue (are_valid_exprs (exprs_of (map expr_view (drop (i + 1) es))))
valid_behind [] zero v = v
valid_behind [] (suc i) v = let next : suc i + 1 ≡ suc (i + 1) = omega arith in rw next v
valid_behind (e ∷ es) zero v = (both_true (is_valid_expr (expr_view e)) (are_valid_exprs (exprs_of (map expr_view es))) v).1
valid_behind (e ∷ es) (suc i) v = let next : suc i + 1 ≡ suc (i + 1) = omega arith in rw next (valid_behind es i v)
