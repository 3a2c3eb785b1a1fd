use Rattle.std.proofs.Common.{◌<◌, ◌^◌, sym, subst, arith}
use Rattle.std.specs.Prelude.{IsTrue, decimal}
use Rattle.path_types.specs.Numbers.{is_number}
use Rattle.query_plan.proofs.told.whole.Goals as goal

pub invariant_of-result : goal.invariant_of-result
invariant_of-result c =
    let small : c.args.n < 2 ^ 64 = omega arith in
    let law = c.writes_whole_numbers.ensures c.args.n small in
    record { valid = subst (λ ds. IsTrue (is_number ds)) (sym c.in_ok-digits.ensures) ((c.judges_numbers.ensures (decimal c.args.n)).1 (law.0, law.1)) }
