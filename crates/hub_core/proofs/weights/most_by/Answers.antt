use Rattle.std.proofs.Common.{subst, sym, inl, inr}
use Rattle.wire_frames.specs.Readings.{asked_of}
use Rattle.hub_core.specs.Replies.{IsMostFor}
use Rattle.hub_core.proofs.Bounds.{for_put, for_put_new, for_remove, for_drop, for_usage, for_query, for_list}
use Rattle.hub_core.proofs.weights.most_by.Goals as goal

pub returns-in-Get-clause-most : goal.returns-in-Get-clause-most
returns-in-Get-clause-most c = subst (λ r. IsMostFor (asked_of r) c.args.tenant.now c.most_text.result) (sym c.in-Get.is) (λ payload m d. c.most_text.ensures.exact payload d.0)

pub returns-in-List-clause-most : goal.returns-in-List-clause-most
returns-in-List-clause-most c = subst (λ r. IsMostFor (asked_of r) c.args.tenant.now c.most_list.result) (sym c.in-List.is) (for_list _ _ _ c.most_list.ensures)

pub returns-in-Query-clause-most : goal.returns-in-Query-clause-most
returns-in-Query-clause-most c = subst (λ r. IsMostFor (asked_of r) c.args.tenant.now 8388612) (sym c.in-Query.is) (for_query _ _ _)

pub returns-in-Put-clause-most : goal.returns-in-Put-clause-most
returns-in-Put-clause-most c =
    elim c.in-Put.is [
      | inl h ↦ subst (λ r. IsMostFor (asked_of r) c.args.tenant.now 21) (sym h.3) (for_put _ _ _ _)
      | inr k ↦ elim k [
        | inl h ↦ subst (λ r. IsMostFor (asked_of r) c.args.tenant.now 21) (sym h.3) (for_put_new _ _ _ _)
        | inr k ↦ elim k [
          | inl h ↦ subst (λ r. IsMostFor (asked_of r) c.args.tenant.now 21) (sym h.2) (for_remove h.0.bytes.now h.1.bytes.now c.args.tenant.now)
          | inr k ↦ elim k [
            | inl h ↦ subst (λ r. IsMostFor (asked_of r) c.args.tenant.now 21) (sym h.1) (for_drop h.0.bytes.now c.args.tenant.now)
            | inr h ↦ subst (λ r. IsMostFor (asked_of r) c.args.tenant.now 21) (sym h) (for_usage _)
          ]
        ]
      ]
    ]
