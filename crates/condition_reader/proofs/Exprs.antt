-- Conditions read from the syntax tree.
use Rattle.std.proofs.Common.{◌≡◌, ℕ, zero, suc, ◌+◌, ◌<◌, ◌≤◌, Bool, true, false, ◌&&◌, List, [], ◌∷◌, ◌++◌, map, drop, get_or, length, refl, sym, ap, ◌∙◌, arith}
use Rattle.std.specs.Prelude.{IsTrue, nat_eq}
use Rattle.path_types.specs.Validity.{is_valid_expr, are_valid_exprs}
use Rattle.std.proofs.lemmas.Bool.Decides.{nat_tests}
use Rattle.std.proofs.lemmas.List.{append-nil, drop_all, drop_more}
use Rattle.path_grammar.specs.Tree as tree
use Rattle.path_grammar.specs.Tree.{Comparable, exprs_of}
use Rattle.path_grammar.specs.View.{expr_view, segment_view}
use Rattle.path_grammar.specs.declared.ast.Segment.{Segment}
use Rattle.path_grammar.specs.declared.ast.Expr.{Expr}
use Rattle.decisions.specs.Tree.{expr_of, exprs_of_tests, tests_of}
use Rattle.condition_reader.specs.Turns.{dealt}
use Rattle.decisions.specs.Views.{test_view}
use Rattle.decisions.specs.declared.test.Test.{Test}

pub exprs_from : (side : Comparable) (ts : List Test) → exprs_of_tests side (tests_of (map test_view ts)) ≡ exprs_of (map (λ (t : Test). expr_of side (test_view t)) ts)
exprs_from side [] = refl
exprs_from side (t ∷ ts) = ap (tree.expr (expr_of side (test_view t))) (exprs_from side ts)

-- all are read
pub read_all : (side : Comparable) (ts : List Test) (es : List Expr) (i : ℕ) → length es ≤ i → map (λ (t : Test). expr_of side (test_view t)) ts ++ map expr_view (drop i es) ≡ map expr_view es
    → exprs_of_tests side (tests_of (map test_view ts)) ≡ exprs_of (map expr_view es)
read_all side ts es i l e =
    exprs_from side ts
    ∙ ap exprs_of (sym (append-nil (map (λ (t : Test). expr_of side (test_view t)) ts)) ∙ ap (λ (xs : List Expr). map (λ (t : Test). expr_of side (test_view t)) ts ++ map expr_view xs) (sym (drop_all i es l)) ∙ e)

-- the segments from the index on are alike where those behind it are
pub paths_more : (xs ys : List Segment) (i : ℕ) (x y : Segment) → i < length xs → i < length ys → x ≡ get_or xs i x → y ≡ get_or ys i y → segment_view x ≡ segment_view y
    → (map segment_view (drop i xs) ≡ map segment_view (drop i ys) → map segment_view xs ≡ map segment_view ys)
    → map segment_view (drop (i + 1) xs) ≡ map segment_view (drop (i + 1) ys) → map segment_view xs ≡ map segment_view ys
paths_more xs ys i x y l m e f same h rest =
    let item : segment_view (get_or xs i x) ≡ segment_view (get_or ys i y) = ap segment_view (sym e) ∙ same ∙ ap segment_view f in
    h (ap (map segment_view) (drop_more xs i x l) ∙ (λ j. item j ∷ rest j) ∙ sym (ap (map segment_view) (drop_more ys i y m)))

-- ---- Groups

-- an operand of another group
pub group_passed : (ks : List ℕ) (es : List Expr) (number i : ℕ) → i < length ks → i < length es → (get_or ks i 0 ≡ number → ⊥) → dealt (drop (i + 1) ks) number (drop (i + 1) es) ≡ dealt (drop i ks) number (drop i es)
group_passed [] es number i l m unlike = absurd (omega arith)
group_passed (k ∷ ks) [] number i l m unlike = absurd (omega arith)
group_passed (k ∷ ks) (e ∷ es) number zero l m unlike = let t : nat_eq k number ≡ false = grind (arith, nat_tests, unlike) in rw t refl
group_passed (k ∷ ks) (e ∷ es) number (suc i) l m unlike = let next : suc i + 1 ≡ suc (i + 1) = omega arith in rw next (group_passed ks es number i (omega arith) (omega arith) unlike)

rest_true : (a b : Bool) → IsTrue (a && b) → IsTrue b
rest_true true b h = h
rest_true false b h = absurd cc

pub valid_behind : (es : List Expr) (i : ℕ) → IsTrue (are_valid_exprs (exprs_of (map expr_view (drop i es)))) → IsTrue (are_valid_exprs (exprs_of (map expr_view (drop (i + 1) es))))
valid_behind [] zero v = v
valid_behind [] (suc i) v = let next : suc i + 1 ≡ suc (i + 1) = omega arith in rw next v
valid_behind (e ∷ es) zero v = rest_true (is_valid_expr (expr_view e)) (are_valid_exprs (exprs_of (map expr_view es))) v
valid_behind (e ∷ es) (suc i) v = let next : suc i + 1 ≡ suc (i + 1) = omega arith in rw next (valid_behind es i v)

none_dealt : (ks : List ℕ) (es : List Expr) (number i : ℕ) → length ks ≤ i → dealt (drop i ks) number (drop i es) ≡ []
none_dealt ks es number i l = ap (λ (xs : List ℕ). dealt xs number (drop i es)) (drop_all i ks l)

-- all of a group are read
pub read_group : (side : Comparable) (ts : List Test) (ks : List ℕ) (es group : List Expr) (number i : ℕ) → length es ≤ i → length ks ≡ length es
    → map (λ (t : Test). expr_of side (test_view t)) ts ++ map expr_view (dealt (drop i ks) number (drop i es)) ≡ map expr_view group
    → exprs_of_tests side (tests_of (map test_view ts)) ≡ exprs_of (map expr_view group)
read_group side ts ks es group number i l each e =
    let none = none_dealt ks es number i (omega arith) in
    exprs_from side ts
    ∙ ap exprs_of (sym (append-nil (map (λ (t : Test). expr_of side (test_view t)) ts)) ∙ ap (λ (xs : List Expr). map (λ (t : Test). expr_of side (test_view t)) ts ++ map expr_view xs) (sym none) ∙ e)
