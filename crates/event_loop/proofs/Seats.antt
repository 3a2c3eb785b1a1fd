-- The value of a server shows that nobody is forgotten just if nobody is.
use Rattle.std.proofs.Common.{◌≡◌, ◌^◌, ℕ, Bool, true, false, List, [], ◌++◌, Option, Some, None, Result, Ok, Err, append-nil, refl, sym, ap, ◌∙◌, subst}
use Rattle.std.specs.Prelude.{◌&&◌, ◌||◌, IfSome, OnOk, not, nat_le, nat_lt, slice_index_or}
use Rattle.std.specs.Option.{option_map, option_map_or}
use Rattle.std.proofs.Common.{arith}
use Rattle.std.proofs.lemmas.Bool.{and_parts}
use Rattle.std.proofs.lemmas.Bool.Decides.{nat_tests}
use Rattle.std.proofs.Math.ListN.{get_or-map}
use Rattle.slab.specs.Slab.{Slab, get}
use Rattle.connection_turns.specs.declared.connection.Connection.{Connection}
use Rattle.connection_turns.specs.Planning.{can_go_on}
use Rattle.due_list.specs.declared.due.Due.{Due}
use Rattle.open_connections.specs.declared.open.Open.{Open}
use Rattle.open_connections.specs.Woken.{IsWoken, is_awake_in, stands_in}
use Rattle.event_loop.specs.Seats.{AreSeated, IsSeated, Seat, seat_of, seats_of, turns_of}

seat_at : {S : Type 0} (slab : Slab (Connection S)) (q : ℕ) → slice_index_or (seats_of slab) q None ≡ option_map seat_of (get slab q)
seat_at {S} slab q = get_or-map (λ (slot : Option (Connection S)). option_map seat_of slot) slab.slots q None

not_large : (q : ℕ) → nat_lt q (2 ^ 32) ≡ true → nat_le (2 ^ 32) q ≡ false
not_large q e = grind (arith, nat_tests)

listed_of : (l d x : Bool) → l ≡ false → (l || (not d || x)) ≡ true → d ≡ true → x ≡ true
listed_of true d x k e h = absurd cc
listed_of false true x k e h = e
listed_of false false x k e h = absurd cc

awake_of : (l m d g : Bool) → l ≡ false → (l || (m || (d || not g))) ≡ true → d ≡ false → m ≡ false → g ≡ false
awake_of true m d g k e h i = absurd cc
awake_of false true d g k e h i = absurd cc
awake_of false false true g k e h i = absurd cc
awake_of false false false true k e h i = absurd cc
awake_of false false false false k e h i = refl

listed_back : (l d x : Bool) → (d ≡ true → x ≡ true) → (l || (not d || x)) ≡ true
listed_back true d x f = refl
listed_back false true x f = f refl
listed_back false false x f = refl

awake_back : (l m d g : Bool) → (d ≡ false → m ≡ false → g ≡ false) → (l || (m || (d || not g))) ≡ true
awake_back true m d g f = refl
awake_back false true d g f = refl
awake_back false false true g f = refl
awake_back false false false g f = ap (λ (x : Bool). not x) (f refl refl)

-- one at its place
seated : {S : Type 0} (q bound : ℕ) (missed : Bool) (list : List Due) (slot : Option (Connection S)) → option_map_or (λ c. nat_lt q bound && nat_lt q (2 ^ 32)) slot true ≡ true
    → (nat_le (2 ^ 32) q || option_map_or (λ c. not c.is_due || stands_in q c.number list) slot true) ≡ true → (nat_le (2 ^ 32) q || is_awake_in missed slot) ≡ true
    → IfSome (option_map seat_of slot) (λ seat. IsSeated bound missed list q seat)
seated q bound missed list None w l a = tt
seated q bound missed list (Some c) w l a =
    let large : nat_le (2 ^ 32) q ≡ false = not_large q (and_parts (nat_lt q bound) (nat_lt q (2 ^ 32)) w).1 in
    record {
      within = w;
      listed = λ h. listed_of (nat_le (2 ^ 32) q) c.is_due (stands_in q c.number list) large l h;
      awake = λ h i. awake_of (nat_le (2 ^ 32) q) missed c.is_due (can_go_on false c) large a h i;
    }

within_of : {S : Type 0} (q bound : ℕ) (missed : Bool) (list : List Due) (slot : Option (Connection S)) → IfSome (option_map seat_of slot) (λ seat. IsSeated bound missed list q seat)
    → option_map_or (λ c. nat_lt q bound && nat_lt q (2 ^ 32)) slot true ≡ true
within_of q bound missed list None s = refl
within_of q bound missed list (Some c) s = s.within

or_true : (x : Bool) → (x || true) ≡ true
or_true true = refl
or_true false = refl

stands_of : {S : Type 0} (q bound : ℕ) (missed : Bool) (list : List Due) (slot : Option (Connection S)) → IfSome (option_map seat_of slot) (λ seat. IsSeated bound missed list q seat)
    → (nat_le (2 ^ 32) q || option_map_or (λ c. not c.is_due || stands_in q c.number list) slot true) ≡ true
stands_of q bound missed list None s = or_true (nat_le (2 ^ 32) q)
stands_of q bound missed list (Some c) s = listed_back (nat_le (2 ^ 32) q) c.is_due (stands_in q c.number list) (λ h. s.listed h)

looked_of : {S : Type 0} (q bound : ℕ) (missed : Bool) (list : List Due) (slot : Option (Connection S)) → IfSome (option_map seat_of slot) (λ seat. IsSeated bound missed list q seat) → (nat_le (2 ^ 32) q || is_awake_in missed slot) ≡ true
looked_of q bound missed list None s = ap (λ (x : Bool). nat_le (2 ^ 32) q || x) (or_true missed) ∙ or_true (nat_le (2 ^ 32) q)
looked_of q bound missed list (Some c) s = awake_back (nat_le (2 ^ 32) q) missed c.is_due (can_go_on false c) (λ h i. s.awake h i)

same_list : {S C T : Type 0} (o : Open S C T) → o.due.first.items ++ (o.due.rest.items ++ []) ≡ turns_of o
same_list o = ap (λ (x : List Due). o.due.first.items ++ x) (append-nil o.due.rest.items)

pub shown : {S C T : Type 0} (o : Open S C T) → IsWoken [] o → AreSeated o.bound o.has_missed (turns_of o) (seats_of o.connections)
shown {S} o h = λ q.
    let slot : Option (Connection S) = get o.connections q in
    subst (λ (x : Option Seat). IfSome x (λ seat. IsSeated o.bound o.has_missed (turns_of o) q seat)) (sym (seat_at o.connections q))
    (seated q o.bound o.has_missed (turns_of o) slot (h q).0
    (ap (λ (x : List Due). nat_le (2 ^ 32) q || option_map_or (λ c. not c.is_due || stands_in q c.number x) slot true) (sym (same_list o)) ∙ (h q).1) (h q).2)

pub known : {S C T : Type 0} (o : Open S C T) → AreSeated o.bound o.has_missed (turns_of o) (seats_of o.connections) → IsWoken [] o
known {S} o h = λ q.
    let slot : Option (Connection S) = get o.connections q in
    let s : IfSome (option_map seat_of slot) (λ seat. IsSeated o.bound o.has_missed (turns_of o) q seat) = subst (λ (x : Option Seat). IfSome x (λ seat. IsSeated o.bound o.has_missed (turns_of o) q seat)) (seat_at o.connections q) (h q) in (
      within_of q o.bound o.has_missed (turns_of o) slot s,
      ap (λ (x : List Due). nat_le (2 ^ 32) q || option_map_or (λ c. not c.is_due || stands_in q c.number x) slot true) (same_list o) ∙ stands_of q o.bound o.has_missed (turns_of o) slot s,
      looked_of q o.bound o.has_missed (turns_of o) slot s,
    )

-- what follows where all went well
pub ok_still : {A E : Type 0} (P Q : Type 0) (r : Result A E) → (P → Q) → OnOk r P → OnOk r Q
ok_still P Q (Ok x) f h = f h
ok_still P Q (Err e) f h = tt
