use Rattle.std.proofs.Common.{◌≡◌, ◌<◌, length, max, subst, ◌+◌, ◌-◌, sym, ◌∙◌, arith}
use Rattle.decimal_order.specs.Places.{digit, made, magnitude, IsLead, Ranks}
use Rattle.decimal_order.specs.Parts.{digits}
use Rattle.decimal_order.proofs.Magnitudes.{value_zero, value_positive, size_zero, size_positive, size_less, size_by_digits}
use Rattle.decimal_order.proofs.Rankings.{ranks_apart}
use Rattle.decimal_order.proofs.WithinLimits.{within_digits}
use Rattle.decimal_order.proofs.magnitude.compare_magnitudes.Goals as goal

pub returns-then-y_places-eq0 : goal.returns-then-y_places-eq0
returns-then-y_places-eq0 c =
    let m = c.args.x.now in
    let n = c.args.y.now in
    size_zero m n (value_zero (digits m) _ c.leading_zeros-x_zeros.ensures (omega arith)) ∙ sym (size_zero n m (value_zero (digits n) _ c.leading_zeros-y_zeros.ensures (omega arith)))

pub returns-else-y_places-eq0 : goal.returns-else-y_places-eq0
returns-else-y_places-eq0 c =
    let m = c.args.x.now in
    let n = c.args.y.now in
    let a = size_zero m n (value_zero (digits m) _ c.leading_zeros-x_zeros.ensures (omega arith)) in
    let b = size_positive n m (value_positive (digits n) _ c.leading_zeros-y_zeros.ensures (omega arith)) in
    omega arith

pub returns-then-y_places-eq0-2 : goal.returns-then-y_places-eq0-2
returns-then-y_places-eq0-2 c =
    let m = c.args.x.now in
    let n = c.args.y.now in
    let a = size_zero n m (value_zero (digits n) _ c.leading_zeros-y_zeros.ensures (omega arith)) in
    let b = size_positive m n (value_positive (digits m) _ c.leading_zeros-x_zeros.ensures (omega arith)) in
    omega arith

pub returns-then-x_lead-y_lead : goal.returns-then-x_lead-y_lead
returns-then-x_lead-y_lead c =
    let m = c.args.x.now in
    let n = c.args.y.now in
    ranks_apart c.cmp.result c.lead-x_lead.result c.lead-y_lead.result (magnitude m n < magnitude n m) (magnitude m n ≡ magnitude n m) (magnitude n m < magnitude m n) c.cmp.ensures c.if-x_lead-y_lead.true
    (λ h. size_less m n _ _ _ _ (within_digits m c.requires.x_within) c.leading_zeros-x_zeros.ensures c.leading_zeros-y_zeros.ensures (omega arith) c.lead-x_lead.ensures c.lead-y_lead.ensures h)
    (λ h. size_less n m _ _ _ _ (within_digits n c.requires.y_within) c.leading_zeros-y_zeros.ensures c.leading_zeros-x_zeros.ensures (omega arith) c.lead-y_lead.ensures c.lead-x_lead.ensures h)

pub returns : goal.returns
returns c =
    let m = c.args.x.now in
    let n = c.args.y.now in
    let y = c.leading_zeros-x_zeros.result in
    let z = c.leading_zeros-y_zeros.result in
    let same : c.lead-y_lead.result ≡ c.lead-x_lead.result = omega arith in
    let places : c.max.result ≡ max (length (digits m) - y) (length (digits n) - z) = omega arith in
    size_by_digits m n y z c.lead-x_lead.result c.compare_from.result c.leading_zeros-x_zeros.ensures c.leading_zeros-y_zeros.ensures c.lead-x_lead.ensures (subst (λ l. IsLead n z l) same c.lead-y_lead.ensures)
    (subst (λ k. Ranks c.compare_from.result (made (λ i. digit (digits m) (y + i)) k) (made (λ i. digit (digits n) (z + i)) k)) places c.compare_from.ensures)
