use Rattle.std.proofs.Common.{ap, sym, ◌∙◌, ◌<◌, ◌⊎◌, inl, inr}
use mathlib.Core.Bool.{not}
use Rattle.decimal_order.specs.Parts.{digits}
use Rattle.decimal_order.specs.Value.{digits_value}
use Rattle.decimal_order.proofs.Signs.{order_up, order_down, order_apart_less, order_apart_more, same_sign, other_sign, positive_when}
use Rattle.decimal_order.proofs.order.compare_parts.Goals as goal
use Rattle.decimal_order.proofs.order.compare_parts.Goals.{else-is_zero-via-then-is_zero+else-is_zero-2, else-is_zero-via-else-is_zero}

pub returns-then-x : goal.returns-then-x
returns-then-x c =
    let x = ap (λ s. s.negative) c.x.view_is in
    let y = ap (λ s. s.negative) c.y.view_is in
    let e = same_sign _ _ c.if-x-y.true in
    order_down c.args.x.now c.args.y.now c.compare_magnitudes.result (sym x ∙ c.if-x.true) (sym y ∙ sym e ∙ c.if-x.true) c.compare_magnitudes.ensures

pub returns-else-x : goal.returns-else-x
returns-else-x c =
    let x = ap (λ s. s.negative) c.x.view_is in
    let y = ap (λ s. s.negative) c.y.view_is in
    let e = same_sign _ _ c.if-x-y.true in
    order_up c.args.x.now c.args.y.now _ (sym x ∙ c.if-x.false) (sym y ∙ sym e ∙ c.if-x.false) c.compare_magnitudes-else-x.ensures

pub returns-then-x-2 : goal.returns-then-x-2
returns-then-x-2 c =
    let x = ap (λ s. s.negative) c.x.view_is in
    let y = ap (λ s. s.negative) c.y.view_is in
    let e = other_sign _ _ c.if-x-y.false in
    let z : (0 < digits_value (digits c.args.x.now)) ⊎ (0 < digits_value (digits c.args.y.now)) =
    elim c.else-is_zero.branch [ else-is_zero-via-then-is_zero+else-is_zero-2 w ↦ inr (positive_when _ _ w.is_zero-then-is_zero.ensures w.if-is_zero-2.false) | else-is_zero-via-else-is_zero w ↦ inl (positive_when _ _ c.is_zero.ensures w.if-is_zero.false) ] in
    order_apart_less c.args.x.now c.args.y.now (sym x ∙ c.if-x-2.true) (sym y ∙ e ∙ ap not c.if-x-2.true) z

pub returns-else-x-2 : goal.returns-else-x-2
returns-else-x-2 c =
    let x = ap (λ s. s.negative) c.x.view_is in
    let y = ap (λ s. s.negative) c.y.view_is in
    let e = other_sign _ _ c.if-x-y.false in
    let z : (0 < digits_value (digits c.args.x.now)) ⊎ (0 < digits_value (digits c.args.y.now)) =
    elim c.else-is_zero.branch [ else-is_zero-via-then-is_zero+else-is_zero-2 w ↦ inr (positive_when _ _ w.is_zero-then-is_zero.ensures w.if-is_zero-2.false) | else-is_zero-via-else-is_zero w ↦ inl (positive_when _ _ c.is_zero.ensures w.if-is_zero.false) ] in
    order_apart_more c.args.x.now c.args.y.now (sym x ∙ c.if-x-2.false) (sym y ∙ e ∙ ap not c.if-x-2.false) z
