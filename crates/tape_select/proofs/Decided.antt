-- Conditions that are decided beforehand: the truth that a decision tells.
use Rattle.std.proofs.Common.{◌≡◌, Bool, true, false, ◌&&◌, ◌||◌, Option, Some, refl, ap, arith}
use Rattle.std.specs.Prelude.{IsTrue}
use Rattle.std.specs.Prelude.{not as opposite}
use Rattle.path_grammar.specs.Tree.{Comparable}
use Rattle.json_tape.specs.Nodes.{Node}
use Rattle.tape_values.specs.Comparison.{Value, value_of}
use Rattle.decisions.specs.Laws.{TellsAsCompared}
use Rattle.decisions.specs.Tree.{Tested, Tests, any, each, negated, value, against, two, present, itself, rooted, no_tests, tested, expr_of, exprs_of_tests, uses, all_uses, meets_root, some_meet}
use Rattle.decisions.specs.Truth.{truth, some_true, all_true, versus, IsRelated}
use Rattle.decisions.specs.declared.relation.Relation.{Relation}
use Rattle.node_lists.specs.Evaluation.{holds, some_hold, all_hold, result}

or_first : (a b : Bool) → IsTrue a → IsTrue (a || b)
or_first true b h = h
or_first false b h = absurd cc

or_second : (a b : Bool) → IsTrue b → IsTrue (a || b)
or_second true b h = refl
or_second false b h = h

module _ (root n : Node) (side : Comparable) (law : TellsAsCompared) (r : Relation) where
  mutual
    pub holds_decided : (t : Tested) → (IsTrue (meets_root t) → IsRelated r (Some (value_of n.tree)) (Some (value_of root.tree))) → holds root (expr_of side t) n ≡ truth (result root side n) r t
    holds_decided (any ts) h = some_decided ts h
    holds_decided (each ts) h = all_decided ts h
    holds_decided (negated t) h = ap opposite (holds_decided t h)
    holds_decided (value op l) h = law.left op (result root side n) l
    holds_decided (against l op) h = law.right op (result root side n) l
    holds_decided (two l op m) h = refl
    holds_decided (present from_root) h = refl
    holds_decided (itself true op) h = law.itself op (Some (value_of root.tree))
    holds_decided (itself false op) h = law.itself op (Some (value_of n.tree))
    holds_decided (rooted false op) h = law.forth op r (Some (value_of n.tree)) (Some (value_of root.tree)) (h refl)
    holds_decided (rooted true op) h = law.back op r (Some (value_of n.tree)) (Some (value_of root.tree)) (h refl)

    some_decided : (ts : Tests) → (IsTrue (some_meet ts) → IsRelated r (Some (value_of n.tree)) (Some (value_of root.tree))) → some_hold root (exprs_of_tests side ts) n ≡ some_true (versus (result root side n)) r ts
    some_decided no_tests h = refl
    some_decided (tested t others) h =
        let a = holds_decided t (λ m. h (or_first (meets_root t) (some_meet others) m)) in
        let b = some_decided others (λ m. h (or_second (meets_root t) (some_meet others) m)) in
        λ i. a i || b i

    all_decided : (ts : Tests) → (IsTrue (some_meet ts) → IsRelated r (Some (value_of n.tree)) (Some (value_of root.tree))) → all_hold root (exprs_of_tests side ts) n ≡ all_true (versus (result root side n)) r ts
    all_decided no_tests h = refl
    all_decided (tested t others) h =
        let a = holds_decided t (λ m. h (or_first (meets_root t) (some_meet others) m)) in
        let b = all_decided others (λ m. h (or_second (meets_root t) (some_meet others) m)) in
        λ i. a i && b i

-- a side that is not written
module _ (v w : Option Value) (r : Relation) where
  mutual
    pub unused : (t : Tested) → uses t ≡ 0 → truth v r t ≡ truth w r t
    unused (any ts) e = some_unused ts e
    unused (each ts) e = all_unused ts e
    unused (negated t) e = ap opposite (unused t e)
    unused (value op l) e = absurd (omega arith)
    unused (against l op) e = absurd (omega arith)
    unused (two l op m) e = refl
    unused (present from_root) e = refl
    unused (itself from_root op) e = refl
    unused (rooted turned op) e = refl

    some_unused : (ts : Tests) → all_uses ts ≡ 0 → some_true (versus v) r ts ≡ some_true (versus w) r ts
    some_unused no_tests e = refl
    some_unused (tested t others) e = let a = unused t (omega arith) in let b = some_unused others (omega arith) in λ i. a i || b i

    all_unused : (ts : Tests) → all_uses ts ≡ 0 → all_true (versus v) r ts ≡ all_true (versus w) r ts
    all_unused no_tests e = refl
    all_unused (tested t others) e = let a = unused t (omega arith) in let b = all_unused others (omega arith) in λ i. a i && b i
