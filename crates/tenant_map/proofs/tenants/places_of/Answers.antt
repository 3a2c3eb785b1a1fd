use Rattle.std.proofs.Common.{◌<◌, [], length, get_or, sym, ◌∙◌, arith}
use Rattle.tenant_map.proofs.Places.{repeated_found, place_next, distinct_next}
use Rattle.tenant_map.proofs.tenants.places_of.Goals as goal

pub loop-i-preserved : goal.loop-i-preserved
loop-i-preserved c =
    let ks = c.args.keys.now in
    let i = c.loop-i.i in
    let l : i < length ks = omega (arith, c.loop-i-test.true) in
    let h = c.in_ok-earlier.ensures.old ∙ c.loop-i.invariant.place (get_or ks i []) in
    let s = sym c.is_some.ensures ∙ c.if-is_some.false in
    record {
      place = λ q. place_next ks i c.in_ok-earlier.earlier _ _ q l h s (c.loop-i.invariant.place q) (c.in_ok-earlier.ensures.updates.0 q);
      distinct = distinct_next ks i c.in_ok-earlier.earlier l h s c.loop-i.invariant.distinct;
    }

pub returns-then-is_some-clause-refused : goal.returns-then-is_some-clause-refused
returns-then-is_some-clause-refused c =
    let ks = c.args.keys.now in
    let i = c.loop-i.i in
    let l : i < length ks = omega (arith, c.loop-i-test.true) in
    (c.requires.some, c.requires.few, repeated_found ks i c.in_ok-earlier.earlier l (c.in_ok-earlier.ensures.old ∙ c.loop-i.invariant.place (get_or ks i [])) (sym c.is_some.ensures ∙ c.if-is_some.true))
