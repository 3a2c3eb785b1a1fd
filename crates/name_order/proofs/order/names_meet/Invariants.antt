use Rattle.json_text.proofs.Names.{◌≡◌, ◌-◌, drop, nat_eq, on, pointwise, repeats_next_by}
use Rattle.name_order.specs.Ordered.{name_in}
use Rattle.name_order.proofs.order.names_meet.Given as goal

abbrev pub invariant-loop-i : goal.invariant-loop-i
invariant-loop-i l =
    repeats_next_by (on (name_in l.text l.tape) (pointwise nat_eq)) (drop (l.i - 1) l.words) ≡ repeats_next_by (on (name_in l.text l.tape) (pointwise nat_eq)) l.words
