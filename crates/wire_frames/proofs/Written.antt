-- What is read as a request was written as one.
use Rattle.std.specs.Prelude.{◌≡◌, ◌↔◌, Result, Ok, Err, IfOk, ◌⊎◌, ℕ, ◌<◌, ◌≤◌, List, [], ◌∷◌, ◌++◌, length, take, drop, nat_lt, get_or, Bool, true, false, Option, Some, None, option_and_then, refl}
use Rattle.std.specs.List.{All}
use Rattle.std.specs.Int.{w32, from_be_bytes, to_be_bytes}
use Rattle.std.proofs.Common.{sym, ap, ◌∙◌, subst, arith, inl, inr, cond, eqb, append-nil, length-take, length-drop}
use Rattle.std.proofs.lemmas.Bool.{eqb-true}
use Rattle.std.proofs.lemmas.Bool.Decides.{nat_tests}
use Rattle.std.proofs.lemmas.List.{take-append-drop, length-take-le, drop-drop}
use Rattle.std.proofs.lemmas.List.Elements.{All-drop, All-take, recursion_from_All}
use Rattle.store_names.specs.Names.{is_collection_name, is_document_name}
use Rattle.wire_frames.specs.Frames.{IsByte}
use Rattle.wire_frames.specs.Requests.{Asked, Put, Get, Remove, ListNames, Query, DropCollection, Usage, PutNew, Reading, Short, BadCommand, BadFields, Asks, reading, with_fields, is_known, command_of, number_of, key_of, fields_of, prefixed, name_at, place_at, whole_place_at, whole_collection_at, asked_at}
use Rattle.wire_frames.specs.Encoding.{command_byte, name_field, fields, IsNamed}
use Rattle.wire_frames.specs.Readings.{asked_of, reading_of}
use Rattle.wire_frames.specs.declared.requests.Request.{Request}
use Rattle.wire_frames.specs.declared.requests.RequestFault.{RequestFault}
use Rattle.wire_frames.specs.Written.{IsWritten, Spells, ReadsOnlyWritten}
use Rattle.wire_frames.proofs.OneSplit.{head_bytes, read_fits}
use Rattle.wire_frames.proofs.ReadBack.{asked_back}

-- ---- what an option was made of

some_same : {A : Type 0} (a b : A) → Some a ≡ Some b → a ≡ b
some_same a b e = cc

pub record IsMade {A B : Type 0} (o : Option A) (f : A → Option B) (b : B) : Type 0 where
  pub value : A
  pub is : o ≡ Some value
  pub gives : f value ≡ Some b

made_from : {A B : Type 0} (o : Option A) (f : A → Option B) (b : B) → option_and_then f o ≡ Some b → IsMade o f b
made_from None f b e = absurd (cc)
made_from (Some a) f b e = record { value = a; is = refl; gives = e }

when_from : {A : Type 0} (test : Bool) (x y : A) → cond test (Some x) None ≡ Some y → (test ≡ true) × (x ≡ y)
when_from true x y e = (refl, some_same x y e)
when_from false x y e = absurd (cc)

if_from : {A : Type 0} (test : Bool) (x y : Option A) (a : A) → cond test x y ≡ Some a → ((test ≡ true) × (x ≡ Some a)) ⊎ (y ≡ Some a)
if_from true x y a e = inl (refl, e)
if_from false x y a e = inr e

either : {A B C : Type 0} → A ⊎ B → (A → C) → (B → C) → C
either (inl a) f g = f a
either (inr b) f g = g b

-- ---- fields

none_there : (xs : List ℕ) → eqb (length xs) 0 ≡ true → xs ≡ []
none_there [] e = refl
none_there (x ∷ xs) e = let h : length (x ∷ xs) ≡ 0 = eqb-true (length (x ∷ xs)) 0 e in absurd (omega (arith, h))

part_is : (n : ℕ) (bytes : List ℕ) → nat_lt (length bytes) n ≡ false → n ∷ bytes ≡ name_field (take n bytes) ++ drop n bytes
part_is n bytes enough =
    let fits : n ≤ length bytes = grind (arith, nat_tests) in
    let size : length (take n bytes) ≡ n = length-take-le n bytes fits in
    ap (λ k. k ∷ bytes) (sym size) ∙ ap (λ xs. length (take n bytes) ∷ xs) (sym (take-append-drop n bytes))

prefixed_from : (fs : List ℕ) (p : List ℕ × List ℕ) → prefixed fs ≡ Some p → fs ≡ name_field p.0 ++ p.1
unfolding prefixed
prefixed_from [] p e = absurd (cc)
prefixed_from (n ∷ bytes) p e = by (nat_lt (length bytes) n) refl e
  where
    by : (b : Bool) → nat_lt (length bytes) n ≡ b → cond b None (Some (take n bytes, drop n bytes)) ≡ Some p → n ∷ bytes ≡ name_field p.0 ++ p.1
    by true t i = absurd (cc)
    by false t i = subst (λ (x : List ℕ × List ℕ). n ∷ bytes ≡ name_field x.0 ++ x.1) (some_same (take n bytes, drop n bytes) p i) (part_is n bytes t)

pub record IsPart (good : List ℕ → Bool) (fs name more : List ℕ) : Type 0 where
  pub good_is : good name ≡ true
  pub spelled : fs ≡ name_field name ++ more

name_from : (good : List ℕ → Bool) (fs : List ℕ) (p : List ℕ × List ℕ) → name_at good fs ≡ Some p → IsPart good fs p.0 p.1
unfolding name_at
name_from good fs p e =
    let made = made_from (prefixed fs) (λ (part : List ℕ × List ℕ). cond (good part.0) (Some part) None) p e in
    let kept = when_from (good made.value.0) made.value p made.gives in
    subst (λ (x : List ℕ × List ℕ). IsPart good fs x.0 x.1) kept.1 (record { good_is = kept.0; spelled = prefixed_from fs made.value made.is })

pub record IsPlaceOf (fs c d more : List ℕ) : Type 0 where
  pub collection : is_collection_name c ≡ true
  pub document : is_document_name d ≡ true
  pub spelled : fs ≡ name_field c ++ (name_field d ++ more)

place_from : (fs : List ℕ) (p : List ℕ × List ℕ × List ℕ) → place_at fs ≡ Some p → IsPlaceOf fs p.0 p.1 p.2
unfolding place_at
place_from fs p e =
    let first = made_from (name_at is_collection_name fs) (λ (c : List ℕ × List ℕ). option_and_then (λ (d : List ℕ × List ℕ). Some (c.0, d.0, d.1)) (name_at is_document_name c.1)) p e in
    let second = made_from (name_at is_document_name first.value.1) (λ (d : List ℕ × List ℕ). Some (first.value.0, d.0, d.1)) p first.gives in
    let c = name_from is_collection_name fs first.value first.is in
    let d = name_from is_document_name first.value.1 second.value second.is in
    subst (λ (x : List ℕ × List ℕ × List ℕ). IsPlaceOf fs x.0 x.1 x.2) (some_same (first.value.0, second.value.0, second.value.1) p second.gives)
    (record { collection = c.good_is; document = d.good_is; spelled = c.spelled ∙ ap (λ xs. name_field first.value.0 ++ xs) d.spelled })

whole_place_from : (fs : List ℕ) (p : List ℕ × List ℕ) → whole_place_at fs ≡ Some p → IsPlaceOf fs p.0 p.1 []
unfolding whole_place_at
whole_place_from fs p e =
    let made = made_from (place_at fs) (λ (x : List ℕ × List ℕ × List ℕ). cond (eqb (length x.2) 0) (Some (x.0, x.1)) None) p e in
    let kept = when_from (eqb (length made.value.2) 0) (made.value.0, made.value.1) p made.gives in
    let place = subst (λ more. IsPlaceOf fs made.value.0 made.value.1 more) (none_there made.value.2 kept.0) (place_from fs made.value made.is) in
    subst (λ (x : List ℕ × List ℕ). IsPlaceOf fs x.0 x.1 []) kept.1 place

whole_collection_from : (fs c : List ℕ) → whole_collection_at fs ≡ Some c → IsPart is_collection_name fs c []
unfolding whole_collection_at
whole_collection_from fs c e =
    let made = made_from (name_at is_collection_name fs) (λ (x : List ℕ × List ℕ). cond (eqb (length x.1) 0) (Some x.0) None) c e in
    let kept = when_from (eqb (length made.value.1) 0) made.value.0 c made.gives in
    let part = subst (λ more. IsPart is_collection_name fs made.value.0 more) (none_there made.value.1 kept.0) (name_from is_collection_name fs made.value made.is) in
    subst (λ x. IsPart is_collection_name fs x []) kept.1 part

-- ---- commands

pub record IsAskedBy (command : ℕ) (fs : List ℕ) (asked : Asked) : Type 0 where
  pub command_is : command ≡ command_byte asked
  pub fields_are : fs ≡ fields asked
  pub named : IsNamed asked

put_from : (command : ℕ) (fs : List ℕ) (asked : Asked) → command ≡ 1 → option_and_then (λ (p : List ℕ × List ℕ × List ℕ). Some (Put p.0 p.1 p.2)) (place_at fs) ≡ Some asked → IsAskedBy command fs asked
put_from command fs asked k e =
    let made = made_from (place_at fs) (λ (p : List ℕ × List ℕ × List ℕ). Some (Put p.0 p.1 p.2)) asked e in
    let place = place_from fs made.value made.is in
    subst (IsAskedBy command fs) (some_same (Put made.value.0 made.value.1 made.value.2) asked made.gives) (record { command_is = k; fields_are = place.spelled; named = (place.collection, place.document) })

put_new_from : (command : ℕ) (fs : List ℕ) (asked : Asked) → command ≡ 8 → option_and_then (λ (p : List ℕ × List ℕ × List ℕ). Some (PutNew p.0 p.1 p.2)) (place_at fs) ≡ Some asked → IsAskedBy command fs asked
put_new_from command fs asked k e =
    let made = made_from (place_at fs) (λ (p : List ℕ × List ℕ × List ℕ). Some (PutNew p.0 p.1 p.2)) asked e in
    let place = place_from fs made.value made.is in
    subst (IsAskedBy command fs) (some_same (PutNew made.value.0 made.value.1 made.value.2) asked made.gives) (record { command_is = k; fields_are = place.spelled; named = (place.collection, place.document) })

whole_spelled : (c d : List ℕ) (fs : List ℕ) → IsPlaceOf fs c d [] → fs ≡ name_field c ++ name_field d
whole_spelled c d fs place = place.spelled ∙ ap (λ xs. name_field c ++ xs) (append-nil (name_field d))

get_from : (command : ℕ) (fs : List ℕ) (asked : Asked) → command ≡ 2 → option_and_then (λ (p : List ℕ × List ℕ). Some (Get p.0 p.1)) (whole_place_at fs) ≡ Some asked → IsAskedBy command fs asked
get_from command fs asked k e =
    let made = made_from (whole_place_at fs) (λ (p : List ℕ × List ℕ). Some (Get p.0 p.1)) asked e in
    let place = whole_place_from fs made.value made.is in
    subst (IsAskedBy command fs) (some_same (Get made.value.0 made.value.1) asked made.gives) (record { command_is = k; fields_are = whole_spelled made.value.0 made.value.1 fs place; named = (place.collection, place.document) })

remove_from : (command : ℕ) (fs : List ℕ) (asked : Asked) → command ≡ 3 → option_and_then (λ (p : List ℕ × List ℕ). Some (Remove p.0 p.1)) (whole_place_at fs) ≡ Some asked → IsAskedBy command fs asked
remove_from command fs asked k e =
    let made = made_from (whole_place_at fs) (λ (p : List ℕ × List ℕ). Some (Remove p.0 p.1)) asked e in
    let place = whole_place_from fs made.value made.is in
    subst (IsAskedBy command fs) (some_same (Remove made.value.0 made.value.1) asked made.gives) (record { command_is = k; fields_are = whole_spelled made.value.0 made.value.1 fs place; named = (place.collection, place.document) })

list_from : (command : ℕ) (fs : List ℕ) (asked : Asked) → command ≡ 4 → option_and_then (λ c. Some (ListNames c)) (whole_collection_at fs) ≡ Some asked → IsAskedBy command fs asked
list_from command fs asked k e =
    let made = made_from (whole_collection_at fs) (λ c. Some (ListNames c)) asked e in
    let part = whole_collection_from fs made.value made.is in
    subst (IsAskedBy command fs) (some_same (ListNames made.value) asked made.gives) (record { command_is = k; fields_are = part.spelled ∙ append-nil (name_field made.value); named = part.good_is })

query_from : (command : ℕ) (fs : List ℕ) (asked : Asked) → command ≡ 5 → option_and_then (λ (p : List ℕ × List ℕ). Some (Query p.0 p.1)) (name_at is_collection_name fs) ≡ Some asked → IsAskedBy command fs asked
query_from command fs asked k e =
    let made = made_from (name_at is_collection_name fs) (λ (p : List ℕ × List ℕ). Some (Query p.0 p.1)) asked e in
    let part = name_from is_collection_name fs made.value made.is in
    subst (IsAskedBy command fs) (some_same (Query made.value.0 made.value.1) asked made.gives) (record { command_is = k; fields_are = part.spelled; named = part.good_is })

drop_from : (command : ℕ) (fs : List ℕ) (asked : Asked) → command ≡ 6 → option_and_then (λ c. Some (DropCollection c)) (whole_collection_at fs) ≡ Some asked → IsAskedBy command fs asked
drop_from command fs asked k e =
    let made = made_from (whole_collection_at fs) (λ c. Some (DropCollection c)) asked e in
    let part = whole_collection_from fs made.value made.is in
    subst (IsAskedBy command fs) (some_same (DropCollection made.value) asked made.gives) (record { command_is = k; fields_are = part.spelled ∙ append-nil (name_field made.value); named = part.good_is })

usage_from : (command : ℕ) (fs : List ℕ) (asked : Asked) → command ≡ 7 → cond (eqb (length fs) 0) (Some Usage) None ≡ Some asked → IsAskedBy command fs asked
usage_from command fs asked k e =
    let kept = when_from (eqb (length fs) 0) Usage asked e in
    subst (IsAskedBy command fs) kept.1 (record { command_is = k; fields_are = none_there fs kept.0; named = tt })

asked_from : (command : ℕ) (fs : List ℕ) (asked : Asked) → asked_at command fs ≡ Some asked → IsAskedBy command fs asked
unfolding asked_at
asked_from command fs asked e =
    either (if_from (eqb command 1) _ _ asked e) (λ h. put_from command fs asked (eqb-true command 1 h.0) h.1) (λ e2.
    either (if_from (eqb command 2) _ _ asked e2) (λ h. get_from command fs asked (eqb-true command 2 h.0) h.1) (λ e3.
    either (if_from (eqb command 3) _ _ asked e3) (λ h. remove_from command fs asked (eqb-true command 3 h.0) h.1) (λ e4.
    either (if_from (eqb command 4) _ _ asked e4) (λ h. list_from command fs asked (eqb-true command 4 h.0) h.1) (λ e5.
    either (if_from (eqb command 5) _ _ asked e5) (λ h. query_from command fs asked (eqb-true command 5 h.0) h.1) (λ e6.
    either (if_from (eqb command 6) _ _ asked e6) (λ h. drop_from command fs asked (eqb-true command 6 h.0) h.1) (λ e7.
    either (if_from (eqb command 7) _ _ asked e7) (λ h. usage_from command fs asked (eqb-true command 7 h.0) h.1) (λ e8.
    either (if_from (eqb command 8) _ None asked e8) (λ h. put_new_from command fs asked (eqb-true command 8 h.0) h.1) (λ none. absurd (not_some asked none)))))))))
  where
    not_some : (a : Asked) → None ≡ Some a → ⊥
    not_some a n = cc

-- ---- bodies

pub record IsRead (body : List ℕ) (number : ℕ) (key : List ℕ) (asked : Asked) : Type 0 where
  pub long : 21 ≤ length body
  pub number_is : number_of body ≡ number
  pub key_is : key_of body ≡ key
  pub asks : asked_at (command_of body) (fields_of body) ≡ Some asked

fields_from : (o : Option Asked) (n number : ℕ) (k key : List ℕ) (asked : Asked) → with_fields n k o ≡ Asks number key asked → (n ≡ number) × (k ≡ key) × (o ≡ Some asked)
fields_from None n number k key asked e = absurd (cc)
fields_from (Some a) n number k key asked e = (cc, cc, cc)

asks_from : (body : List ℕ) (number : ℕ) (key : List ℕ) (asked : Asked) → reading body ≡ Asks number key asked → IsRead body number key asked
unfolding reading
asks_from body number key asked e = by (nat_lt (length body) 5) (nat_lt (length body) 21) refl (is_known (command_of body)) e
  where
    by : (a b : Bool) → nat_lt (length body) 21 ≡ b → (known : Bool)
        → cond a (Short 0) (cond b (Short (number_of body)) (cond known (with_fields (number_of body) (key_of body) (asked_at (command_of body) (fields_of body))) (BadCommand (number_of body) (key_of body)))) ≡ Asks number key asked → IsRead body number key asked
    by true b l known i = absurd (cc)
    by false true l known i = absurd (cc)
    by false false l false i = absurd (cc)
    by false false l true i =
        let parts = fields_from (asked_at (command_of body) (fields_of body)) (number_of body) number (key_of body) key asked i in
        let long : 21 ≤ length body = grind (arith, nat_tests) in
        record { long = long; number_is = parts.0; key_is = parts.1; asks = parts.2 }

-- the parts of a body of at least 21 bytes
body_parts : (body : List ℕ) → 21 ≤ length body → body ≡ command_of body ∷ (take 4 (drop 1 body) ++ (key_of body ++ fields_of body))
body_parts [] long = absurd (omega (arith, long))
body_parts (b ∷ bytes) long =
    ap (λ xs. b ∷ xs) (sym (take-append-drop 4 bytes) ∙ ap (λ xs. take 4 bytes ++ xs) (sym (take-append-drop 16 (drop 4 bytes)) ∙ ap (λ xs. take 16 (drop 4 bytes) ++ xs) (drop-drop 16 4 bytes)))

-- four bytes spell a number of 32 bits
few_bytes : (bytes : List ℕ) → ((i : ℕ) → get_or bytes i 0 < 256) → from_be_bytes w32 bytes < 4294967296
few_bytes bytes fits = let a = fits 0 in let b = fits 1 in let c = fits 2 in let d = fits 3 in omega (arith, a, b, c, d)

body_from : (body : List ℕ) (number : ℕ) (key : List ℕ) (asked : Asked) → All IsByte body → IsRead body number key asked → IsWritten number key asked body
body_from body number key asked bytes r =
    let a = asked_from (command_of body) (fields_of body) asked r.asks in
    let long = r.long in
    let four : to_be_bytes w32 (number_of body) ≡ take 4 (drop 1 body) = head_bytes (drop 1 body) (number_of body) (All-drop IsByte 1 body bytes) (omega (arith, length-drop 1 body, long)) refl in
    record {
      few = subst (λ n. n < 4294967296) r.number_is (few_bytes (take 4 (drop 1 body)) (read_fits (take 4 (drop 1 body)) (recursion_from_All IsByte (take 4 (drop 1 body)) (All-take IsByte 4 (drop 1 body) (All-drop IsByte 1 body bytes)))));
      sixteen = ap length (sym r.key_is) ∙ omega (arith, length-take 16 (drop 5 body), length-drop 5 body, long);
      named = a.named;
      body_is = body_parts body long
          ∙ ap (λ c. c ∷ (take 4 (drop 1 body) ++ (key_of body ++ fields_of body))) a.command_is
          ∙ ap (λ xs. command_byte asked ∷ (xs ++ (key_of body ++ fields_of body))) (sym four ∙ ap (to_be_bytes w32) r.number_is)
          ∙ ap (λ xs. command_byte asked ∷ (to_be_bytes w32 number ++ (xs ++ fields_of body))) r.key_is
          ∙ ap (λ xs. command_byte asked ∷ (to_be_bytes w32 number ++ (key ++ xs))) a.fields_are;
    }

bad_from : (body : List ℕ) → 21 ≤ length body → is_known (command_of body) ≡ true → (o : Option Asked) → asked_at (command_of body) (fields_of body) ≡ o → reading body ≡ with_fields (number_of body) (key_of body) o
unfolding reading
bad_from body long known o e =
    let x : nat_lt (length body) 5 ≡ false = grind (arith, nat_tests) in
    let y : nat_lt (length body) 21 ≡ false = grind (arith, nat_tests) in
    let rest : Reading = cond (is_known (command_of body)) (with_fields (number_of body) (key_of body) (asked_at (command_of body) (fields_of body))) (BadCommand (number_of body) (key_of body)) in
    ap (λ b. cond b (Short 0) (cond (nat_lt (length body) 21) (Short (number_of body)) rest)) x
    ∙ ap (λ b. cond b (Short (number_of body)) rest) y
    ∙ ap (λ b. cond b (with_fields (number_of body) (key_of body) (asked_at (command_of body) (fields_of body))) (BadCommand (number_of body) (key_of body))) known
    ∙ ap (with_fields (number_of body) (key_of body)) e

bad_fields : (body : List ℕ) → 21 ≤ length body → is_known (command_of body) ≡ true → reading body ≡ BadFields (number_of body) (key_of body) ↔ ((asked : Asked) → Spells body asked → ⊥)
bad_fields body long known = by (asked_at (command_of body) (fields_of body)) refl
  where
    not_bad : (asked : Asked) → Asks (number_of body) (key_of body) asked ≡ BadFields (number_of body) (key_of body) → ⊥
    not_bad asked e = cc

    by : (o : Option Asked) → asked_at (command_of body) (fields_of body) ≡ o → reading body ≡ BadFields (number_of body) (key_of body) ↔ ((asked : Asked) → Spells body asked → ⊥)
    by None e = ((λ _ asked s. not_none asked (sym e ∙ ap (λ c. asked_at c (fields_of body)) s.command ∙ ap (asked_at (command_byte asked)) s.spelled ∙ asked_back asked s.named)), (λ _. bad_from body long known None e))
      where
        not_none : (a : Asked) → None ≡ Some a → ⊥
        not_none a n = cc
    by (Some asked) e =
        let a = asked_from (command_of body) (fields_of body) asked e in
        ((λ r. absurd (not_bad asked (sym (bad_from body long known (Some asked) e) ∙ r))), (λ none. absurd (none asked (record { named = a.named; command = a.command_is; spelled = a.fields_are }))))

pub only_written : ReadsOnlyWritten
only_written = record {
  requests = λ body number key asked bytes e. body_from body number key asked bytes (asks_from body number key asked e);
  bad_fields = λ body long known. bad_fields body long known;
}

-- a body that is read as this request is written so
pub read_is_written : (r : Result Request RequestFault) (body : List ℕ) → reading_of r ≡ reading body → All IsByte body → IfOk r (λ request. IsWritten request.number request.key (asked_of request.command) body)
read_is_written (Ok request) body e bytes = only_written.requests body request.number request.key (asked_of request.command) bytes (sym e)
read_is_written (Err fault) body e bytes = tt
