use Rattle.std.proofs.Common.{◌≡◌, [], ◌∷◌, ◌++◌, ◌-◌, ◌<◌, Some, None, map, length, sym, ap, ◌∙◌, subst, arith}
use Rattle.std.proofs.lemmas.List.{map_push}
use Rattle.store_names.specs.Names.{is_document_name}
use Rattle.tenant_map.specs.Listings.{name_field}
use Rattle.wire_frames.specs.Requests.{name_at}
use Rattle.client_frames.specs.Payloads.{IsName}
use Rattle.client_frames.specs.Readings.{name_of, number_at}
use Rattle.client_frames.proofs.Back.{name_back}
use Rattle.client_frames.proofs.Items.{HasRead, read_more, read_stopped, read_ended, no_number, no_items, more_than_items, not_empty}
use Rattle.client_frames.proofs.payloads.read_names.Goals as goal

pub returns-in_default-clause-none : goal.returns-in_default-clause-none
returns-in_default-clause-none c =
    let none : number_at c.args.payload.now ≡ None = sym c.in_default.ensures.read in
    λ e names are. no_number name_field c.args.payload.now none names are.0

pub returns-in_default-take_name-clause-none : goal.returns-in_default-take_name-clause-none
returns-in_default-take_name-clause-none c =
    let some : number_at c.args.payload.now ≡ Some (c.in-Some.count, c.in-Some.rest.now) = sym c.in-Some.ensures.read in
    let none : (name_at is_document_name) c.names.rest.now ≡ None = sym c.in_default-take_name.ensures.read in
    λ e names are. no_items (name_at is_document_name) name_field IsName name_back c.args.payload.now c.in-Some.count c.in-Some.rest.now some
    (read_stopped (name_at is_document_name) name_field IsName c.in-Some.rest.now c.in-Some.count c.names.left (map name_of c.names.names.items) c.names.rest.now c.names-test.true c.names.invariant none) names are.0 are.1

pub names-preserved : goal.names-preserved
names-preserved c =
    let pushed : c.push.new.self.items ≡ c.names.names.items ++ c.in-Some-take_name.name ∷ [] = c.in_ok-push.ensures.items in
    let mapped : map name_of c.push.new.self.items ≡ map name_of c.names.names.items ++ name_of c.in-Some-take_name.name ∷ [] = ap (map name_of) pushed ∙ map_push name_of c.names.names.items c.in-Some-take_name.name in
    let one : (name_at is_document_name) c.names.rest.now ≡ Some (name_of c.in-Some-take_name.name, c.in-Some-take_name.more.now) = sym c.in-Some-take_name.ensures.read in
    subst (λ xs. HasRead (name_at is_document_name) name_field IsName c.in-Some.rest.now c.in-Some.count (c.names.left - 1) xs c.in-Some-take_name.more.now) (sym mapped)
    (read_more (name_at is_document_name) name_field IsName c.in-Some.rest.now c.in-Some.count c.names.left (map name_of c.names.names.items) c.names.rest.now (name_of c.in-Some-take_name.name) c.in-Some-take_name.more.now
    c.names-test.true c.names.invariant one c.in-Some-take_name.ensures.whole c.in-Some-take_name.name.named)

pub returns-clause-none : goal.returns-clause-none
returns-clause-none c =
    let some : number_at c.args.payload.now ≡ Some (c.in-Some.count, c.in-Some.rest.now) = sym c.in-Some.ensures.read in
    let none = c.names-test.false in
    let left : c.names.left ≡ 0 = omega (arith, none) in
    let more : 0 < length c.names.rest.now = not_empty (length c.names.rest.now) c.if-is_empty.ensures in
    λ e names are. more_than_items (name_at is_document_name) name_field IsName name_back c.args.payload.now c.in-Some.count c.in-Some.rest.now some (map name_of c.names.names.items ++ []) c.names.rest.now more
    (read_ended (name_at is_document_name) name_field IsName c.in-Some.rest.now c.in-Some.count c.names.left (map name_of c.names.names.items) c.names.rest.now left c.names.invariant) names are.0 are.1
