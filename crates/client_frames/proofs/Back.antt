-- What is written is read back.
use Rattle.std.proofs.Common.{◌≡◌, ◌≢◌, ℕ, ◌<◌, ◌^◌, List, [], ◌++◌, length, take, drop, Option, Some, None, eqb, sym, ap, ◌∙◌, refl, arith, length-append, append_assoc, append-nil, cond, nat_lt, true, false}
use Rattle.std.specs.Prelude.{option_and_then}
use Rattle.std.specs.Int.{w32, from_be_bytes, to_be_bytes}
use Rattle.std.proofs.lemmas.List.{take_at, drop_at}
use Rattle.std.proofs.lemmas.Nat.{from_be_bytes-to_be_bytes_4}
use Rattle.std.proofs.lemmas.Bool.Decides.{nat_tests}
use Rattle.store_names.specs.Names.{is_document_name}
use Rattle.tenant_map.specs.Listings.{number, name_field}
use Rattle.tenant_store.specs.Payloads.{field}
use Rattle.wire_frames.specs.Requests.{prefixed, name_at}
use Rattle.client_frames.specs.Payloads.{Found, IsFound, found_bytes, usage_payload, AreCounts}
use Rattle.client_frames.specs.Readings.{bytes_at, number_at, field_at, hit_at, usage_at}

pub number_back : (n : ℕ) (more : List ℕ) → n < 2 ^ 32 → number_at (number n ++ more) ≡ Some (n, more)
unfolding number_at number
number_back n more few =
    let fits : nat_lt (length (to_be_bytes w32 n ++ more)) 4 ≡ false = grind (arith, nat_tests, length-append (to_be_bytes w32 n) more) in
    ap (λ b. cond b None (Some (from_be_bytes w32 (take 4 (to_be_bytes w32 n ++ more)), drop 4 (to_be_bytes w32 n ++ more)))) fits
    ∙ ap (λ x. Some (from_be_bytes w32 x, drop 4 (to_be_bytes w32 n ++ more))) (take_at (to_be_bytes w32 n) more 4 refl)
    ∙ ap (λ k. Some (k, drop 4 (to_be_bytes w32 n ++ more))) (from_be_bytes-to_be_bytes_4 n few)
    ∙ ap (λ x. Some (n, x)) (drop_at (to_be_bytes w32 n) more 4 refl)

bytes_back : (bytes more : List ℕ) → bytes_at (length bytes) (bytes ++ more) ≡ Some (bytes, more)
unfolding bytes_at
bytes_back bytes more =
    let fits : nat_lt (length (bytes ++ more)) (length bytes) ≡ false = grind (arith, nat_tests, length-append bytes more) in
    ap (λ b. cond b None (Some (take (length bytes) (bytes ++ more), drop (length bytes) (bytes ++ more)))) fits
    ∙ ap (λ x. Some (x, drop (length bytes) (bytes ++ more))) (take_at bytes more (length bytes) refl)
    ∙ ap (λ x. Some (bytes, x)) (drop_at bytes more (length bytes) refl)

sized : Option (ℕ × List ℕ) → Option (List ℕ × List ℕ)
sized o = option_and_then (λ (size : ℕ × List ℕ). bytes_at size.0 size.1) o

field_back : (bytes more : List ℕ) → length bytes < 2 ^ 32 → field_at (field bytes ++ more) ≡ Some (bytes, more)
unfolding field_at sized
field_back bytes more few =
    ap (λ x. sized (number_at x)) (append_assoc (number (length bytes)) bytes more)
    ∙ ap sized (number_back (length bytes) (bytes ++ more) few)
    ∙ bytes_back bytes more

prefixed_back : (name more : List ℕ) → prefixed (name_field name ++ more) ≡ Some (name, more)
unfolding prefixed
prefixed_back name more =
    let fits : nat_lt (length (name ++ more)) (length name) ≡ false = grind (arith, nat_tests, length-append name more) in
    ap (λ b. cond b None (Some (take (length name) (name ++ more), drop (length name) (name ++ more)))) fits
    ∙ ap (λ x. Some (x, drop (length name) (name ++ more))) (take_at name more (length name) refl)
    ∙ ap (λ x. Some (name, x)) (drop_at name more (length name) refl)

pub name_back : (name more : List ℕ) → is_document_name name ≡ true → name_at is_document_name (name_field name ++ more) ≡ Some (name, more)
unfolding name_at
name_back name more h = ap (λ o. option_and_then (λ (part : List ℕ × List ℕ). cond (is_document_name part.0) (Some part) None) o) (prefixed_back name more) ∙ ap (λ b. cond b (Some (name, more)) None) h

valued : List ℕ → List ℕ → Option (List ℕ × List ℕ) → Option (Found × List ℕ)
valued name path o = option_and_then (λ (value : List ℕ × List ℕ). Some (record { document = name; path = path; value = value.0 }, value.1)) o

pathed : List ℕ → Option (List ℕ × List ℕ) → Option (Found × List ℕ)
pathed name o = option_and_then (λ (path : List ℕ × List ℕ). valued name path.0 (field_at path.1)) o

named : Option (List ℕ × List ℕ) → Option (Found × List ℕ)
named o = option_and_then (λ (name : List ℕ × List ℕ). pathed name.0 (field_at name.1)) o

pub hit_back : (f : Found) (more : List ℕ) → IsFound f → hit_at (found_bytes f ++ more) ≡ Some (f, more)
unfolding hit_at named pathed valued
hit_back f more is =
    ap (λ x. named (name_at is_document_name x)) (append_assoc (name_field f.document) (field f.path ++ field f.value) more)
    ∙ ap named (name_back f.document ((field f.path ++ field f.value) ++ more) is.0)
    ∙ ap (λ x. pathed f.document (field_at x)) (append_assoc (field f.path) (field f.value) more)
    ∙ ap (pathed f.document) (field_back f.path (field f.value ++ more) is.1)
    ∙ ap (valued f.document f.path) (field_back f.value more is.2)

last_number : ℕ → ℕ → Option (ℕ × List ℕ) → Option (ℕ × ℕ × ℕ)
last_number c d o = option_and_then (λ (size : ℕ × List ℕ). cond (eqb (length size.1) 0) (Some (c, d, size.0)) None) o

later_numbers : ℕ → Option (ℕ × List ℕ) → Option (ℕ × ℕ × ℕ)
later_numbers c o = option_and_then (λ (documents : ℕ × List ℕ). last_number c documents.0 (number_at documents.1)) o

three : Option (ℕ × List ℕ) → Option (ℕ × ℕ × ℕ)
three o = option_and_then (λ (collections : ℕ × List ℕ). later_numbers collections.0 (number_at collections.1)) o

usage_back : (c d b : ℕ) → AreCounts c d b → usage_at (usage_payload c d b) ≡ Some (c, d, b)
unfolding usage_at three later_numbers last_number
usage_back c d b few =
    ap three (number_back c (number d ++ number b) few.0)
    ∙ ap (later_numbers c) (number_back d (number b) few.1)
    ∙ ap (λ x. last_number c d (number_at x)) (sym (append-nil (number b)))
    ∙ ap (last_number c d) (number_back b [] few.2)

-- a payload that is not read as numbers is none
pub no_usage : (payload : List ℕ) → usage_at payload ≡ None → (c d b : ℕ) → AreCounts c d b → payload ≢ usage_payload c d b
no_usage payload none c d b few e =
    let some = usage_back c d b few in
    let same : usage_at payload ≡ usage_at (usage_payload c d b) = ap usage_at e in
    absurd cc
