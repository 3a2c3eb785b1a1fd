use Rattle.std.proofs.Common.{length, ap, sym, ◌∙◌, arith}
use Rattle.tenant_map.specs.Tenancy.{Tenancy}
use Rattle.tenant_map.proofs.Places.{place_inside}
use Rattle.tenant_map.proofs.tenants.Tenants.place_of.Goals as goal

pub returns-in-Some-clause-inside : goal.returns-in-Some-clause-inside
returns-in-Some-clause-inside c =
    let p = place_inside c.args.key.now 0 c.in-Some.place.now c.self.inside.keys.items (sym (c.in-Some.ensures.value ∙ c.self.invariant.place c.args.key.now)) in
    let e = c.self.invariant.each in
    let m = ap (λ (t : Tenancy). length t.maps) c.self.view_is in
    omega (arith, p, e, m)
