use Rattle.std.proofs.Common.{◌≡◌, ℕ, ◌+◌, not, Some, cond, sym, ap, refl, ◌∙◌}
use Rattle.std.specs.Ordering.{nat_cmp, is_lt, is_le}
use Rattle.std.specs.declared.cmp.Ordering.TheVariants.{Less, Equal, Greater}
use Rattle.path_meaning.specs.Functions.{whole_number}
use Rattle.decisions.specs.Order.{kind, value_cmp}
use Rattle.decisions.specs.Decided.{whole}
use Rattle.decisions.proofs.Counts.{place_beside}
use Rattle.decisions.proofs.Orders.{less_kind, greater_kind, answers_alike, not_greater}
use Rattle.decisions.proofs.places.total_place.Goals as goal

pub returns-in-Less-clause-place : goal.returns-in-Less-clause-place
returns-in-Less-clause-place g c =
    let v = g.S.ComparedSide.value c.args.side.now in
    let k : nat_cmp 4 (kind v) ≡ Less = ap (nat_cmp 4) (sym c.kind_number.ensures) ∙ sym c.cmp.ensures ∙ c.in-Less.is in
    sym (place_beside value_cmp (Some (whole_number c.args.total)) v Less (less_kind (Some (whole_number c.args.total)) v k))

pub returns-in-Greater-clause-place : goal.returns-in-Greater-clause-place
returns-in-Greater-clause-place g c =
    let v = g.S.ComparedSide.value c.args.side.now in
    let k : nat_cmp 4 (kind v) ≡ Greater = ap (nat_cmp 4) (sym c.kind_number.ensures) ∙ sym c.cmp.ensures ∙ c.in-Greater.is in
    sym (place_beside value_cmp (Some (whole_number c.args.total)) v Greater (greater_kind (Some (whole_number c.args.total)) v k))

pub returns-in-Equal-clause-place : goal.returns-in-Equal-clause-place
returns-in-Equal-clause-place g c =
    let n = c.orders_values.ensures.numbers in
    let v = g.S.ComparedSide.value c.args.side.now in
    let k : nat_cmp 4 (kind v) ≡ Equal = ap (nat_cmp 4) (sym c.kind_number.ensures) ∙ sym c.cmp.ensures ∙ c.in-Equal.is in
    let o = value_cmp (Some (whole_number c.args.total)) v in
    let answers = answers_alike n v (whole c.args.total) k in
    let below : c.compare_total-below.result ≡ is_lt o = c.compare_total-below.ensures ∙ answers.less in
    let most : not c.compare_total-above.result ≡ is_le o = ap not (c.compare_total-above.ensures ∙ answers.more) ∙ not_greater o in
    let same : cond c.compare_total-below.result 1 0 + cond (not c.compare_total-above.result) 1 0 ≡ cond (is_lt o) 1 0 + cond (is_le o) 1 0 = λ i. cond {A = ℕ} (below i) 1 0 + cond {A = ℕ} (most i) 1 0 in
    c.count.ensures.sum ∙ same ∙ sym (place_beside value_cmp (Some (whole_number c.args.total)) v o refl)
