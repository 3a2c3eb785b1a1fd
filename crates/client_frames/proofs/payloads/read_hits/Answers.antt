use Rattle.std.proofs.Common.{◌≡◌, [], ◌∷◌, ◌++◌, ◌-◌, ◌<◌, Some, None, map, length, sym, ap, ◌∙◌, subst, arith}
use Rattle.std.proofs.lemmas.List.{map_push}
use Rattle.client_frames.specs.Payloads.{IsFound, found_bytes}
use Rattle.client_frames.specs.Readings.{found_of, hit_at, number_at}
use Rattle.client_frames.proofs.Back.{hit_back}
use Rattle.client_frames.proofs.Items.{HasRead, read_more, read_stopped, read_ended, no_number, no_items, more_than_items, not_empty}
use Rattle.client_frames.proofs.payloads.read_hits.Goals as goal

pub returns-in_default-clause-none : goal.returns-in_default-clause-none
returns-in_default-clause-none c =
    let none : number_at c.args.payload.now ≡ None = sym c.in_default.ensures.read in
    λ e hits are. no_number found_bytes c.args.payload.now none hits are.0

pub returns-in_default-take_hit-clause-none : goal.returns-in_default-take_hit-clause-none
returns-in_default-take_hit-clause-none c =
    let some : number_at c.args.payload.now ≡ Some (c.in-Some.count, c.in-Some.rest.now) = sym c.in-Some.ensures.read in
    let none : hit_at c.hits.rest.now ≡ None = sym c.in_default-take_hit.ensures.read in
    λ e hits are. no_items hit_at found_bytes IsFound hit_back c.args.payload.now c.in-Some.count c.in-Some.rest.now some
    (read_stopped hit_at found_bytes IsFound c.in-Some.rest.now c.in-Some.count c.hits.left (map found_of c.hits.hits.items) c.hits.rest.now c.hits-test.true c.hits.invariant none) hits are.0 are.1

pub hits-preserved : goal.hits-preserved
hits-preserved c =
    let pushed : c.push.new.self.items ≡ c.hits.hits.items ++ c.in-Some-take_hit.hit ∷ [] = c.in_ok-push.ensures.items in
    let mapped : map found_of c.push.new.self.items ≡ map found_of c.hits.hits.items ++ found_of c.in-Some-take_hit.hit ∷ [] = ap (map found_of) pushed ∙ map_push found_of c.hits.hits.items c.in-Some-take_hit.hit in
    let one : hit_at c.hits.rest.now ≡ Some (found_of c.in-Some-take_hit.hit, c.in-Some-take_hit.more.now) = sym c.in-Some-take_hit.ensures.read in
    subst (λ xs. HasRead hit_at found_bytes IsFound c.in-Some.rest.now c.in-Some.count (c.hits.left - 1) xs c.in-Some-take_hit.more.now) (sym mapped)
    (read_more hit_at found_bytes IsFound c.in-Some.rest.now c.in-Some.count c.hits.left (map found_of c.hits.hits.items) c.hits.rest.now (found_of c.in-Some-take_hit.hit) c.in-Some-take_hit.more.now
    c.hits-test.true c.hits.invariant one c.in-Some-take_hit.ensures.whole c.in-Some-take_hit.ensures.found)

pub returns-clause-none : goal.returns-clause-none
returns-clause-none c =
    let some : number_at c.args.payload.now ≡ Some (c.in-Some.count, c.in-Some.rest.now) = sym c.in-Some.ensures.read in
    let none = c.hits-test.false in
    let left : c.hits.left ≡ 0 = omega (arith, none) in
    let more : 0 < length c.hits.rest.now = not_empty (length c.hits.rest.now) c.if-is_empty.ensures in
    λ e hits are. more_than_items hit_at found_bytes IsFound hit_back c.args.payload.now c.in-Some.count c.in-Some.rest.now some (map found_of c.hits.hits.items ++ []) c.hits.rest.now more
    (read_ended hit_at found_bytes IsFound c.in-Some.rest.now c.in-Some.count c.hits.left (map found_of c.hits.hits.items) c.hits.rest.now left c.hits.invariant) hits are.0 are.1
