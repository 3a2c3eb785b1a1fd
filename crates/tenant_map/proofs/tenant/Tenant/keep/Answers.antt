use Rattle.std.proofs.Common.{◌≡◌, sym, ap, ◌∙◌, subst}
use Rattle.tenant_map.specs.Keyed.{by_bytes}
use Rattle.tenant_map.specs.Maps.{IsMap, put_text}
use Rattle.tenant_map.specs.Quotas.{IsCounted, usage_of}
use Rattle.tenant_map.proofs.Ordered.{put_is_map}
use Rattle.tenant_map.proofs.Quotas.{counted_by}
use Rattle.tenant_map.proofs.tenant.Tenant.keep.Goals as goal

pub invariant_of-self : goal.invariant_of-self
invariant_of-self c =
    let text = c.args.read.text in
    let counted : c.usage_after-after.result ≡ usage_of (put_text c.args.collection.bytes.now c.args.document.bytes.now text c.args.self.now) =
    c.usage_after-after.ensures ∙ ap (λ t. usage_of (put_text c.args.collection.bytes.now c.args.document.bytes.now t c.args.self.now)) c.source.ensures.value in
    let same : by_bytes c.put_at.new.collections.entries ≡ put_text c.args.collection.bytes.now c.args.document.bytes.now text c.args.self.now =
    c.in-Ok.ensures.ok ∙ ap (put_text c.args.collection.bytes.now c.args.document.bytes.now text) c.self.view_is in
    subst (λ m. IsCounted m c.usage_after-after.result.documents c.usage_after-after.result.bytes) (sym same) (counted_by _ c.usage_after-after.result (put_is_map c.args.collection.bytes.now c.args.document.bytes.now text c.args.self.now (subst IsMap c.self.view_is c.self.invariant.ordered)) counted (sym c.in_default.ensures))
