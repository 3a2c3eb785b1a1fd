-- What is written as a request is read as one.
use Rattle.std.specs.Prelude.{◌≡◌, ℕ, ◌<◌, ◌≤◌, ◌^◌, List, [], ◌∷◌, ◌++◌, length, take, drop, nat_lt, Bool, true, false, Some, None, option_and_then, refl}
use Rattle.std.specs.Int.{w32, from_be_bytes, to_be_bytes}
use Rattle.std.proofs.Common.{sym, ap, ◌∙◌, arith, length-append, append_assoc, append-nil, cond, eqb}
use Rattle.std.proofs.lemmas.List.{take_at, drop_at}
use Rattle.std.proofs.lemmas.Nat.{from_be_bytes-to_be_bytes_4}
use Rattle.std.proofs.lemmas.Bool.Decides.{nat_tests}
use Rattle.store_names.specs.Names.{is_collection_name, is_document_name}
use Rattle.wire_frames.specs.Requests.{Asked, Put, Get, Remove, ListNames, Query, DropCollection, Usage, PutNew, Reading, Short, BadCommand, Asks, reading, with_fields, is_known, command_of, number_of, key_of, fields_of, prefixed, name_at, place_at, whole_place_at, whole_collection_at, asked_at}
use Rattle.wire_frames.specs.Encoding.{command_byte, name_field, fields, written, IsNamed}

-- a field behind its length
prefixed_back : (name more : List ℕ) → prefixed (name_field name ++ more) ≡ Some (name, more)
unfolding prefixed
prefixed_back name more =
    let fits : nat_lt (length (name ++ more)) (length name) ≡ false = grind (arith, nat_tests, length-append name more) in
    ap (λ b. cond b None (Some (take (length name) (name ++ more), drop (length name) (name ++ more)))) fits
    ∙ ap (λ x. Some (x, drop (length name) (name ++ more))) (take_at name more (length name) refl)
    ∙ ap (λ x. Some (name, x)) (drop_at name more (length name) refl)

name_back : (good : List ℕ → Bool) (name more : List ℕ) → good name ≡ true → name_at good (name_field name ++ more) ≡ Some (name, more)
unfolding name_at
name_back good name more h = ap (λ o. option_and_then (λ (part : List ℕ × List ℕ). cond (good part.0) (Some part) None) o) (prefixed_back name more) ∙ ap (λ b. cond b (Some (name, more)) None) h

place_back : (c d more : List ℕ) → is_collection_name c ≡ true → is_document_name d ≡ true → place_at (name_field c ++ (name_field d ++ more)) ≡ Some (c, d, more)
unfolding place_at
place_back c d more p q =
    ap (λ o. option_and_then (λ (x : List ℕ × List ℕ). option_and_then (λ (y : List ℕ × List ℕ). Some (x.0, y.0, y.1)) (name_at is_document_name x.1)) o) (name_back is_collection_name c (name_field d ++ more) p)
    ∙ ap (λ o. option_and_then (λ (y : List ℕ × List ℕ). Some (c, y.0, y.1)) o) (name_back is_document_name d more q)

whole_place_back : (c d : List ℕ) → is_collection_name c ≡ true → is_document_name d ≡ true → whole_place_at (name_field c ++ name_field d) ≡ Some (c, d)
unfolding whole_place_at
whole_place_back c d p q =
    ap (λ x. option_and_then (λ (p : List ℕ × List ℕ × List ℕ). cond (eqb (length p.2) 0) (Some (p.0, p.1)) None) (place_at (name_field c ++ x))) (sym (append-nil (name_field d)))
    ∙ ap (λ o. option_and_then (λ (p : List ℕ × List ℕ × List ℕ). cond (eqb (length p.2) 0) (Some (p.0, p.1)) None) o) (place_back c d [] p q)

whole_collection_back : (c : List ℕ) → is_collection_name c ≡ true → whole_collection_at (name_field c) ≡ Some c
unfolding whole_collection_at
whole_collection_back c p =
    ap (λ x. option_and_then (λ (p : List ℕ × List ℕ). cond (eqb (length p.1) 0) (Some p.0) None) (name_at is_collection_name x)) (sym (append-nil (name_field c)))
    ∙ ap (λ o. option_and_then (λ (p : List ℕ × List ℕ). cond (eqb (length p.1) 0) (Some p.0) None) o) (name_back is_collection_name c [] p)

pub asked_back : (asked : Asked) → IsNamed asked → asked_at (command_byte asked) (fields asked) ≡ Some asked
unfolding asked_at
asked_back (Put c d text) n = ap (λ o. option_and_then (λ (p : List ℕ × List ℕ × List ℕ). Some (Put p.0 p.1 p.2)) o) (place_back c d text n.0 n.1)
asked_back (Get c d) n = ap (λ o. option_and_then (λ (p : List ℕ × List ℕ). Some (Get p.0 p.1)) o) (whole_place_back c d n.0 n.1)
asked_back (Remove c d) n = ap (λ o. option_and_then (λ (p : List ℕ × List ℕ). Some (Remove p.0 p.1)) o) (whole_place_back c d n.0 n.1)
asked_back (ListNames c) n = ap (λ o. option_and_then (λ c. Some (ListNames c)) o) (whole_collection_back c n)
asked_back (Query c query) n = ap (λ o. option_and_then (λ (p : List ℕ × List ℕ). Some (Query p.0 p.1)) o) (name_back is_collection_name c query n)
asked_back (DropCollection c) n = ap (λ o. option_and_then (λ c. Some (DropCollection c)) o) (whole_collection_back c n)
asked_back Usage n = refl
asked_back (PutNew c d text) n = ap (λ o. option_and_then (λ (p : List ℕ × List ℕ × List ℕ). Some (PutNew p.0 p.1 p.2)) o) (place_back c d text n.0 n.1)

known : (asked : Asked) → is_known (command_byte asked) ≡ true
known (Put c d text) = refl
known (Get c d) = refl
known (Remove c d) = refl
known (ListNames c) = refl
known (Query c query) = refl
known (DropCollection c) = refl
known Usage = refl
known (PutNew c d text) = refl

-- a body of these parts
reading_of_parts : (body : List ℕ) (number : ℕ) (key : List ℕ) (asked : Asked) → 21 ≤ length body → is_known (command_of body) ≡ true → number_of body ≡ number → key_of body ≡ key → asked_at (command_of body) (fields_of body) ≡ Some asked
    → reading body ≡ Asks number key asked
unfolding reading
reading_of_parts body number key asked long known n k a =
    let x : nat_lt (length body) 5 ≡ false = grind (arith, nat_tests) in
    let y : nat_lt (length body) 21 ≡ false = grind (arith, nat_tests) in
    let rest : Reading = cond (is_known (command_of body)) (with_fields (number_of body) (key_of body) (asked_at (command_of body) (fields_of body))) (BadCommand (number_of body) (key_of body)) in
    ap (λ b. cond b (Short 0) (cond (nat_lt (length body) 21) (Short (number_of body)) rest)) x
    ∙ ap (λ b. cond b (Short (number_of body)) rest) y
    ∙ ap (λ b. cond b (with_fields (number_of body) (key_of body) (asked_at (command_of body) (fields_of body))) (BadCommand (number_of body) (key_of body))) known
    ∙ ap (λ m. with_fields m (key_of body) (asked_at (command_of body) (fields_of body))) n
    ∙ ap (λ j. with_fields number j (asked_at (command_of body) (fields_of body))) k
    ∙ ap (with_fields number key) a

-- the parts of a body
parts_back : (command : ℕ) (head key more body : List ℕ) (number : ℕ) (asked : Asked) → body ≡ command ∷ (head ++ (key ++ more)) → length head ≡ 4 → length key ≡ 16 → from_be_bytes w32 head ≡ number → is_known command ≡ true
    → asked_at command more ≡ Some asked → reading body ≡ Asks number key asked
parts_back command head key more body number asked e four sixteen spells known a =
    let h : command_of body ≡ command = ap command_of e in
    let d1 : drop 1 body ≡ head ++ (key ++ more) = ap (drop 1) e in
    let d5 : drop 5 body ≡ key ++ more = ap (drop 5) e ∙ drop_at head (key ++ more) 4 four in
    let d21 : drop 21 body ≡ more = ap (drop 21) e ∙ ap (λ (x : List ℕ). drop 20 x) (sym (append_assoc head key more)) ∙ drop_at (head ++ key) more 20 (omega (arith, length-append head key, four, sixteen)) in
    reading_of_parts body number key asked
    (rw e (omega (arith, length-append head (key ++ more), length-append key more, four, sixteen)))
    (ap is_known h ∙ known)
    (ap (λ x. from_be_bytes w32 (take 4 x)) d1 ∙ ap (from_be_bytes w32) (take_at head (key ++ more) 4 four) ∙ spells)
    (ap (take 16) d5 ∙ take_at key more 16 sixteen)
    (ap (λ x. asked_at x (fields_of body)) h ∙ ap (asked_at command) d21 ∙ a)

pub read_back : (number : ℕ) (key : List ℕ) (asked : Asked) → number < 2 ^ 32 → length key ≡ 16 → IsNamed asked → reading (written number key asked) ≡ Asks number key asked
read_back number key asked few sixteen named = parts_back (command_byte asked) (to_be_bytes w32 number) key (fields asked) (written number key asked) number asked refl refl sixteen (from_be_bytes-to_be_bytes_4 number few) (known asked) (asked_back asked named)
