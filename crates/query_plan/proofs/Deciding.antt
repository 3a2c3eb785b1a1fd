-- What conditions are charged that are decided beforehand.
use Rattle.std.proofs.Common.{◌≡◌, ℕ, zero, suc, ◌+◌, ◌*◌, ap, ◌∙◌, arith}
use Rattle.std.proofs.Math.Nat.{suc-mul}
use Rattle.path_grammar.specs.Tree.{Comparable}
use Rattle.json_text.specs.Nodes.{Node}
use Rattle.decisions.specs.Tree.{Tested, Tests, any, each, negated, value, against, two, present, itself, rooted, no_tests, tested, expr_of, exprs_of_tests, uses, all_uses}
use Rattle.path_meaning.specs.Charge.{charge_expr, charge_exprs, charge_side}

shared : (a b c : ℕ) → a * c + b * c ≡ (a + b) * c
shared zero b c = omega arith
shared (suc a) b c =
    let h = shared a b c in
    let d : suc a * c ≡ a * c + c = suc-mul a c in
    let f : suc a + b ≡ suc (a + b) = omega arith in
    let e : (suc a + b) * c ≡ (a + b) * c + c = ap (λ k. k * c) f ∙ suc-mul (a + b) c in
    omega arith

module _ (root n : Node) (side : Comparable) where
  mutual
    pub charge_decided : (t : Tested) → charge_expr root (expr_of side t) n ≡ uses t * charge_side root side n
    charge_decided (any ts) = charge_all ts
    charge_decided (each ts) = charge_all ts
    charge_decided (negated t) = charge_decided t
    charge_decided (value op l) = omega arith
    charge_decided (against l op) = omega arith
    charge_decided (two l op m) = omega arith
    charge_decided (present from_root) = omega arith
    charge_decided (itself from_root op) = omega arith
    charge_decided (rooted turned op) = omega arith

    charge_all : (ts : Tests) → charge_exprs root (exprs_of_tests side ts) n ≡ all_uses ts * charge_side root side n
    charge_all no_tests = omega arith
    charge_all (tested t others) =
        let a = charge_decided t in
        let b = charge_all others in
        let s = shared (uses t) (all_uses others) (charge_side root side n) in
        omega (arith, a, b, s)
