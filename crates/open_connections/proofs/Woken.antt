-- Nobody is forgotten where one connection changes, and where the list of turns grows.
use Rattle.std.proofs.Common.{arith, ◌≡◌, ◌≢◌, ◌<◌, ◌≤◌, ◌^◌, ◌+◌, ℕ, max, Bool, true, false, List, [], ◌∷◌, ◌++◌, Option, Some, None, refl, sym, ap, ◌∙◌, subst, inl, inr}
use Rattle.std.specs.Prelude.{◌==◌, ◌&&◌, ◌||◌, not, nat_le, nat_lt}
use Rattle.std.specs.Option.{option_map_or}
use Rattle.std.proofs.lemmas.Bool.{cases_Bool, eqb-true, eqb-false, eq-eqb, ne_eqb, le-leb, ltb-true}
use Rattle.std.proofs.lemmas.Bool.Decides.{nat_tests}
use Rattle.std.proofs.lemmas.List.{append_assoc}
use Rattle.std.proofs.lemmas.List.Folds.{list_any-append}
use Rattle.slab.specs.Slab.{Slab, Updates, get, with_value}
use Rattle.connection_turns.specs.declared.connection.Connection.{Connection}
use Rattle.connection_turns.specs.Planning.{KeepsTurn, can_go_on}
use Rattle.due_list.specs.declared.due.Due.{Due}
use Rattle.due_list.specs.declared.due.DueList.{DueList}
use Rattle.due_list.specs.Rounds.{IsLast, due_at}
use Rattle.open_connections.specs.Woken.{Fact, Within, Stands, Listed, Awake, is_awake_in, is_so_in, stands_in, sparing, leaving_out, before, within, StaysWoken, Wakes}
use Rattle.open_connections.specs.declared.open.Open.{Open}
use Rattle.open_connections.proofs.Steps.{written}
use Rattle.open_connections.proofs.Waking.{rests_awake}

-- ---- Of one, or another

or_right : (x y : Bool) → y ≡ true → (x || y) ≡ true
or_right true y e = refl
or_right false y e = e

or_left : (x y : Bool) → x ≡ true → (x || y) ≡ true
or_left true y e = refl
or_left false y e = absurd cc

spared_more : (s b x : Bool) → (s || x) ≡ true → ((s || b) || x) ≡ true
spared_more true b x e = refl
spared_more false true x e = refl
spared_more false false x e = e

spared_at : (s b x : Bool) → b ≡ true → ((s || b) || x) ≡ true
spared_at true b x e = refl
spared_at false true x e = refl
spared_at false false x e = absurd cc

not_spared : (s b x : Bool) → b ≡ false → ((s || b) || x) ≡ true → (s || x) ≡ true
not_spared true b x e h = refl
not_spared false true x e h = absurd cc
not_spared false false x e h = h

-- what is so at each key stays so, if it stays so at one
slot_kept : {X : Type 0} (p : Option X → Bool) (slab slab' : Slab X) (key : ℕ) (slot : Option X) → Updates slab slab' key slot → (q : ℕ) → (p (get slab key) ≡ true → p slot ≡ true) → p (get slab q) ≡ true → p (get slab' q) ≡ true
slot_kept {X} p slab slab' key slot u q h e = elim (cases_Bool (q == key)) [
  | inl k ↦
      let i : q ≡ key = eqb-true q key k in
      ap (λ (x : ℕ). p (get slab' x)) i ∙ ap p u.changed ∙ h (sym (ap (λ (x : ℕ). p (get slab x)) i) ∙ e)
  | inr k ↦ ap p (u.others q (eqb-false q key k)) ∙ e
]

-- but at the one that is spared
slot_spared : {X : Type 0} (p : Option X → Bool) (slab slab' : Slab X) (key : ℕ) (slot : Option X) → Updates slab slab' key slot → (s : Bool) (q : ℕ) → ((s || q == key) || p (get slab q)) ≡ true → ((s || q == key) || p (get slab' q)) ≡ true
slot_spared {X} p slab slab' key slot u s q e = elim (cases_Bool (q == key)) [
  | inl k ↦ spared_at s (q == key) (p (get slab' q)) k
  | inr k ↦ ap (λ (x : Option X). (s || q == key) || p x) (u.others q (eqb-false q key k)) ∙ e
]

-- and from where it is not known at that one
slot_made : {X : Type 0} (p : Option X → Bool) (slab slab' : Slab X) (key : ℕ) (slot : Option X) → Updates slab slab' key slot → (s : Bool) (q : ℕ) → p slot ≡ true → ((s || q == key) || p (get slab q)) ≡ true → (s || p (get slab' q)) ≡ true
slot_made {X} p slab slab' key slot u s q h e = elim (cases_Bool (q == key)) [
  | inl k ↦ or_right s (p (get slab' q)) (ap (λ (x : ℕ). p (get slab' x)) (eqb-true q key k) ∙ ap p u.changed ∙ h)
  | inr k ↦ ap (λ (x : Option X). s || p x) (u.others q (eqb-false q key k)) ∙ not_spared s (q == key) (p (get slab q)) k e
]

-- ---- What is asked of a connection

abbrev is_within : {S : Type 0} → (q bound : ℕ) → Option (Connection S) → Bool
is_within q bound slot = option_map_or (λ c. nat_lt q bound && nat_lt q (2 ^ 32)) slot true

abbrev is_listed : {S : Type 0} → (q : ℕ) → List Due → Option (Connection S) → Bool
is_listed q list slot = nat_le (2 ^ 32) q || option_map_or (λ c. not c.is_due || stands_in q c.number list) slot true

abbrev is_looked_at : {S : Type 0} → ℕ → Bool → Option (Connection S) → Bool
is_looked_at q missed slot = nat_le (2 ^ 32) q || is_awake_in missed slot

within_kept : {S : Type 0} (q bound key : ℕ) (slab : Slab (Connection S)) (c c' : Connection S) → get slab key ≡ Some c → is_within q bound (get slab key) ≡ true → is_within q bound (Some c') ≡ true
within_kept {S} q bound key slab c c' h e = sym (ap (λ (x : Option (Connection S)). is_within q bound x) h) ∙ e

listed_kept : {S : Type 0} (s : Bool) (q : ℕ) (list : List Due) (key : ℕ) (slab : Slab (Connection S)) (c c' : Connection S) → get slab key ≡ Some c → KeepsTurn c c' → (s || is_listed q list (get slab key)) ≡ true → (s || is_listed q list (Some c')) ≡ true
listed_kept {S} s q list key slab c c' h k e =
    ap (λ (x : Bool). s || (nat_le (2 ^ 32) q || (not x || stands_in q c'.number list))) k.1 ∙ ap (λ (x : ℕ). s || (nat_le (2 ^ 32) q || (not c.is_due || stands_in q x list))) k.0 ∙ sym (ap (λ (x : Option (Connection S)). s || is_listed q list x) h) ∙ e

-- ---- A change of one connection

module _ {S : Type 0} (bound : ℕ) (missed : Bool) (first rest : List Due) where
  -- one is not looked at that was, and the other way round
  pub spared : (slab : Slab (Connection S)) (key : ℕ) (fact : Fact) → is_so_in fact bound missed slab first rest ≡ true → is_so_in (sparing key fact) bound missed slab first rest ≡ true
  spared slab key (Within q) h = h
  spared slab key (Stands q number more) h = h
  spared slab key (Listed s q more) h = h
  spared slab key (Awake s q) h = spared_more s (q == key) (is_looked_at q missed (get slab q)) h

  pub looked_at : (slab : Slab (Connection S)) (key : ℕ) → is_so_in (Awake false key) bound missed slab first rest ≡ true → (fact : Fact) → is_so_in (sparing key fact) bound missed slab first rest ≡ true → is_so_in fact bound missed slab first rest ≡ true
  looked_at slab key a (Within q) h = h
  looked_at slab key a (Stands q number more) h = h
  looked_at slab key a (Listed s q more) h = h
  looked_at slab key a (Awake s q) h = elim (cases_Bool (q == key)) [
    | inl k ↦ or_right s (is_looked_at q missed (get slab q)) (ap (λ (x : ℕ). is_looked_at x missed (get slab x)) (eqb-true q key k) ∙ a)
    | inr k ↦ not_spared s (q == key) (is_looked_at q missed (get slab q)) k h
  ]

  pub woken_at : (slab : Slab (Connection S)) (key : ℕ) → is_awake_in missed (get slab key) ≡ true → (fact : Fact) → is_so_in (sparing key fact) bound missed slab first rest ≡ true → is_so_in fact bound missed slab first rest ≡ true
  woken_at slab key a fact h = looked_at slab key (or_right (nat_le (2 ^ 32) key) (is_awake_in missed (get slab key)) a) fact h

  pub rests_woken : (has_room : Bool) (slab : Slab (Connection S)) (key : ℕ) (c : Connection S) → get slab key ≡ Some c → can_go_on has_room c ≡ false → is_awake_in missed (get (with_value slab key c) key) ≡ true
  rests_woken has_room slab key c h e = let u : Updates slab (with_value slab key c) key (Some c) = written slab key c c h in rests_awake missed has_room (get (with_value slab key c) key) c u.changed e

  -- none is open
  pub none_woken : (slab : Slab (Connection S)) → ((q : ℕ) → get slab q ≡ None) → (more : List Due) (q : ℕ)
      → (is_so_in (Within q) bound missed slab first rest ≡ true) × (is_so_in (Listed false q more) bound missed slab first rest ≡ true) × (is_so_in (Awake false q) bound missed slab first rest ≡ true)
  none_woken slab h more q = (
    ap (λ (x : Option (Connection S)). is_within q bound x) (h q),
    ap (λ (x : Option (Connection S)). is_listed q (first ++ (rest ++ more)) x) (h q) ∙ or_right (nat_le (2 ^ 32) q) true refl,
    ap (λ (x : Option (Connection S)). is_looked_at q missed x) (h q) ∙ or_right (nat_le (2 ^ 32) q) (missed || true) (or_right missed true refl),
  )

  -- a connection under a large key is left alone
  pub large_woken : (slab : Slab (Connection S)) (key : ℕ) → 2 ^ 32 ≤ key → (fact : Fact) → is_so_in (sparing key fact) bound missed slab first rest ≡ true → is_so_in fact bound missed slab first rest ≡ true
  large_woken slab key l fact h = looked_at slab key (or_left (nat_le (2 ^ 32) key) (is_awake_in missed (get slab key)) (le-leb (2 ^ 32) key l)) fact h

  -- all are looked at before the next round
  pub missed_woken : (slab : Slab (Connection S)) (fact : Fact) → is_so_in fact bound missed slab first rest ≡ true → is_so_in fact bound true slab first rest ≡ true
  missed_woken slab (Within q) e = e
  missed_woken slab (Stands q number more) e = e
  missed_woken slab (Listed s q more) e = e
  missed_woken slab (Awake s q) e = or_right s (nat_le (2 ^ 32) q || true) (or_right (nat_le (2 ^ 32) q) true refl)

  -- it gets a turn just if it did
  pub others_woken : (slab : Slab (Connection S)) (key : ℕ) (c c' : Connection S) → get slab key ≡ Some c → KeepsTurn c c'
      → (fact : Fact) → is_so_in (sparing key fact) bound missed slab first rest ≡ true → is_so_in (sparing key fact) bound missed (with_value slab key c') first rest ≡ true
  others_woken slab key c c' h k (Within q) e =
      slot_kept (λ slot. is_within q bound slot) slab (with_value slab key c') key (Some c') (written slab key c c' h) q (within_kept q bound key slab c c' h) e
  others_woken slab key c c' h k (Stands q number more) e = e
  others_woken slab key c c' h k (Listed s q more) e =
      slot_kept (λ slot. s || is_listed q (first ++ (rest ++ more)) slot) slab (with_value slab key c') key (Some c') (written slab key c c' h) q (listed_kept s q (first ++ (rest ++ more)) key slab c c' h k) e
  others_woken slab key c c' h k (Awake s q) e = slot_spared (λ slot. is_looked_at q missed slot) slab (with_value slab key c') key (Some c') (written slab key c c' h) s q e

  -- and a turn of it does something just if it did
  pub all_woken : (slab : Slab (Connection S)) (key : ℕ) (c c' : Connection S) → get slab key ≡ Some c → KeepsTurn c c' → can_go_on false c' ≡ can_go_on false c
      → (fact : Fact) → is_so_in fact bound missed slab first rest ≡ true → is_so_in fact bound missed (with_value slab key c') first rest ≡ true
  all_woken slab key c c' h k g (Within q) e = others_woken slab key c c' h k (Within q) e
  all_woken slab key c c' h k g (Stands q number more) e = e
  all_woken slab key c c' h k g (Listed s q more) e = others_woken slab key c c' h k (Listed s q more) e
  all_woken slab key c c' h k g (Awake s q) e =
      slot_kept (λ slot. s || is_looked_at q missed slot) slab (with_value slab key c') key (Some c') (written slab key c c' h) q
      (λ i. ap (λ (x : Bool). s || (nat_le (2 ^ 32) q || (missed || (x || not (can_go_on false c'))))) k.1 ∙ ap (λ (x : Bool). s || (nat_le (2 ^ 32) q || (missed || (c.is_due || not x)))) g ∙ sym (ap (λ (x : Option (Connection S)). s || is_looked_at q missed x) h) ∙ i) e

  -- it is due no more
  pub taken_off : (slab : Slab (Connection S)) (key : ℕ) (c c' : Connection S) → get slab key ≡ Some c → c'.is_due ≡ false
      → (fact : Fact) → is_so_in (leaving_out key fact) bound missed slab first rest ≡ true → is_so_in (sparing key fact) bound missed (with_value slab key c') first rest ≡ true
  taken_off slab key c c' h d (Within q) e =
      slot_kept (λ slot. is_within q bound slot) slab (with_value slab key c') key (Some c') (written slab key c c' h) q (within_kept q bound key slab c c' h) e
  taken_off slab key c c' h d (Stands q number more) e = e
  taken_off slab key c c' h d (Listed s q more) e =
      slot_made (λ slot. is_listed q (first ++ (rest ++ more)) slot) slab (with_value slab key c') key (Some c') (written slab key c c' h) s q
      (or_right (nat_le (2 ^ 32) q) (not c'.is_due || stands_in q c'.number (first ++ (rest ++ more))) (ap (λ (x : Bool). not x || stands_in q c'.number (first ++ (rest ++ more))) d)) e
  taken_off slab key c c' h d (Awake s q) e = slot_spared (λ slot. is_looked_at q missed slot) slab (with_value slab key c') key (Some c') (written slab key c c' h) s q e

  -- there is none
  pub none_taken_off : (slab : Slab (Connection S)) (key : ℕ) → get slab key ≡ None
      → (fact : Fact) → is_so_in (leaving_out key fact) bound missed slab first rest ≡ true → is_so_in (sparing key fact) bound missed slab first rest ≡ true
  none_taken_off slab key h (Within q) e = e
  none_taken_off slab key h (Stands q number more) e = e
  none_taken_off slab key h (Listed s q more) e = elim (cases_Bool (q == key)) [
    | inl k ↦
        let list : List Due = first ++ (rest ++ more) in
        or_right s (is_listed q list (get slab q)) (ap (λ (x : ℕ). is_listed x list (get slab x)) (eqb-true q key k) ∙ ap (λ (x : Option (Connection S)). is_listed key list x) h ∙ or_right (nat_le (2 ^ 32) key) true refl)
    | inr k ↦ not_spared s (q == key) (is_listed q (first ++ (rest ++ more)) (get slab q)) k e
  ]
  none_taken_off slab key h (Awake s q) e = e

  -- it is closed
  pub gone_woken : (slab slab' : Slab (Connection S)) (key : ℕ) → Updates slab slab' key None
      → (fact : Fact) → is_so_in (sparing key fact) bound missed slab first rest ≡ true → is_so_in fact bound missed slab' first rest ≡ true
  gone_woken slab slab' key u (Within q) e = slot_kept (λ slot. is_within q bound slot) slab slab' key None u q (λ i. refl) e
  gone_woken slab slab' key u (Stands q number more) e = e
  gone_woken slab slab' key u (Listed s q more) e =
      slot_kept (λ slot. s || is_listed q (first ++ (rest ++ more)) slot) slab slab' key None u q (λ i. or_right s (nat_le (2 ^ 32) q || true) (or_right (nat_le (2 ^ 32) q) true refl)) e
  gone_woken slab slab' key u (Awake s q) e = slot_made (λ slot. is_looked_at q missed slot) slab slab' key None u s q (or_right (nat_le (2 ^ 32) q) (missed || true) (or_right missed true refl)) e

  -- it is due, and stands in the list
  pub made_due : (slab : Slab (Connection S)) (key : ℕ) (c c' : Connection S) → get slab key ≡ Some c → c'.is_due ≡ true → ((more : List Due) → stands_in key c'.number (first ++ (rest ++ more)) ≡ true)
      → (fact : Fact) → is_so_in (sparing key fact) bound missed slab first rest ≡ true → is_so_in fact bound missed (with_value slab key c') first rest ≡ true
  made_due slab key c c' h d n (Within q) e =
      slot_kept (λ slot. is_within q bound slot) slab (with_value slab key c') key (Some c') (written slab key c c' h) q (within_kept q bound key slab c c' h) e
  made_due slab key c c' h d n (Stands q number more) e = e
  made_due slab key c c' h d n (Listed s q more) e =
      let list : List Due = first ++ (rest ++ more) in
      elim (cases_Bool (q == key)) [
        | inl k ↦
            let i : q ≡ key = eqb-true q key k in
            let u : Updates slab (with_value slab key c') key (Some c') = written slab key c c' h in
            let at : is_listed key list (Some c') ≡ true = or_right (nat_le (2 ^ 32) key) (not c'.is_due || stands_in key c'.number list) (or_right (not c'.is_due) (stands_in key c'.number list) (n more)) in
            or_right s (is_listed q list (get (with_value slab key c') q)) (ap (λ (x : ℕ). is_listed x list (get (with_value slab key c') x)) i ∙ ap (λ (x : Option (Connection S)). is_listed key list x) u.changed ∙ at)
        | inr k ↦ let u : Updates slab (with_value slab key c') key (Some c') = written slab key c c' h in
            ap (λ (x : Option (Connection S)). s || is_listed q list x) (u.others q (eqb-false q key k)) ∙ e
      ]
  made_due slab key c c' h d n (Awake s q) e =
      slot_made (λ slot. is_looked_at q missed slot) slab (with_value slab key c') key (Some c') (written slab key c c' h) s q (or_right (nat_le (2 ^ 32) q) (missed || (c'.is_due || not (can_go_on false c'))) (or_right missed (c'.is_due || not (can_go_on false c')) (or_left c'.is_due (not (can_go_on false c')) d))) e

-- ---- One is taken in

lt_max : (q b k : ℕ) → nat_lt q b ≡ true → nat_lt q (max b k) ≡ true
lt_max q b k h = grind (arith, nat_tests)

and_left : (x y : Bool) → (x && y) ≡ true → x ≡ true
and_left true y e = refl
and_left false y e = e

both : (x x' y : Bool) → (x ≡ true → x' ≡ true) → (x && y) ≡ true → (x' && y) ≡ true
both true x' y f e = ap (λ (b : Bool). b && y) (f refl) ∙ e
both false x' y f e = absurd cc

within_more : {S : Type 0} (q bound k : ℕ) (slot : Option (Connection S)) → is_within q bound slot ≡ true → is_within q (max bound k) slot ≡ true
within_more q bound k None e = refl
within_more q bound k (Some c) e = both (nat_lt q bound) (nat_lt q (max bound k)) (nat_lt q (2 ^ 32)) (lt_max q bound k) e

small_within : (q bound k : ℕ) → q < k → q < 2 ^ 32 → (nat_lt q (max bound k) && nat_lt q (2 ^ 32)) ≡ true
small_within q bound k l m = grind (arith, nat_tests)

pub taken_woken : {S : Type 0} (bound k : ℕ) (missed : Bool) (first rest : List Due) (slab slab' : Slab (Connection S)) (key : ℕ) (c : Connection S) → Updates slab slab' key (Some c) → key < k → key < 2 ^ 32 → c.is_due ≡ false → can_go_on false c ≡ false
    → (fact : Fact) → is_so_in fact bound missed slab first rest ≡ true → is_so_in fact (max bound k) missed slab' first rest ≡ true
taken_woken {S} bound k missed first rest slab slab' key c u l m d g (Within q) e = elim (cases_Bool (q == key)) [
  | inl t ↦
      let i : q ≡ key = eqb-true q key t in
      ap (λ (x : ℕ). is_within x (max bound k) (get slab' x)) i ∙ ap (λ (x : Option (Connection S)). is_within key (max bound k) x) u.changed ∙ small_within key bound k l m
  | inr t ↦ within_more q bound k (get slab' q) (ap (λ (x : Option (Connection S)). is_within q bound x) (u.others q (eqb-false q key t)) ∙ e)
]
taken_woken bound k missed first rest slab slab' key c u l m d g (Stands q number more) e = e
taken_woken bound k missed first rest slab slab' key c u l m d g (Listed s q more) e =
    slot_kept (λ slot. s || is_listed q (first ++ (rest ++ more)) slot) slab slab' key (Some c) u q
    (λ i. or_right s (is_listed q (first ++ (rest ++ more)) (Some c)) (or_right (nat_le (2 ^ 32) q) (not c.is_due || stands_in q c.number (first ++ (rest ++ more))) (ap (λ (x : Bool). not x || stands_in q c.number (first ++ (rest ++ more))) d))) e
taken_woken bound k missed first rest slab slab' key c u l m d g (Awake s q) e =
    slot_kept (λ slot. s || is_looked_at q missed slot) slab slab' key (Some c) u q
    (λ i. or_right s (is_looked_at q missed (Some c)) (or_right (nat_le (2 ^ 32) q) (missed || (c.is_due || not (can_go_on false c))) (or_right missed (c.is_due || not (can_go_on false c)) (or_right c.is_due (not (can_go_on false c)) (ap (λ (x : Bool). not x) g))))) e

-- there is room for one
pub reserved_woken : {S : Type 0} (bound : ℕ) (missed : Bool) (first rest : List Due) (slab slab' : Slab (Connection S)) → slab' ≡ record slab { capacity = slab'.capacity }
    → (fact : Fact) → is_so_in fact bound missed slab first rest ≡ true → is_so_in fact bound missed slab' first rest ≡ true
reserved_woken {S} bound missed first rest slab slab' k (Within q) e = ap (λ (x : Slab (Connection S)). is_within q bound (get x q)) k ∙ e
reserved_woken bound missed first rest slab slab' k (Stands q number more) e = e
reserved_woken {S} bound missed first rest slab slab' k (Listed s q more) e = ap (λ (x : Slab (Connection S)). s || is_listed q (first ++ (rest ++ more)) (get x q)) k ∙ e
reserved_woken {S} bound missed first rest slab slab' k (Awake s q) e = ap (λ (x : Slab (Connection S)). s || is_looked_at q missed (get x q)) k ∙ e

-- ---- The list

in_three : (key number : ℕ) (xs ys zs : List Due) → stands_in key number (xs ++ (ys ++ zs)) ≡ (stands_in key number xs || (stands_in key number ys || stands_in key number zs))
in_three key number xs ys zs =
    let is : Due → Bool = λ due. due.key == key && due.number == number in
    list_any-append is xs (ys ++ zs) ∙ ap (λ (x : Bool). stands_in key number xs || x) (list_any-append is ys zs)

grows_first : (a b c x : Bool) → (a || (b || c)) ≡ true → ((a || x) || (b || c)) ≡ true
grows_first true b c x e = refl
grows_first false b c x e = or_right x (b || c) e

grows_rest : (a b c x : Bool) → (a || (b || c)) ≡ true → (a || ((b || x) || c)) ≡ true
grows_rest true b c x e = refl
grows_rest false true c x e = refl
grows_rest false false c x e = or_right x c e

moves_front : (a b c x : Bool) → (a || (b || (x || c))) ≡ true → ((a || (x || false)) || (b || c)) ≡ true
moves_front true b c x e = refl
moves_front false b c true e = refl
moves_front false b c false e = e

with_last : (key number : ℕ) (xs : List Due) (due : Due) → stands_in key number (xs ++ (due ∷ [])) ≡ (stands_in key number xs || stands_in key number (due ∷ []))
with_last key number xs due = list_any-append (λ due. due.key == key && due.number == number) xs (due ∷ [])

pub grown : (key number : ℕ) (is_first : Bool) (due : Due) (a b : DueList) (more : List Due) → IsLast is_first due a b
    → stands_in key number (a.first.items ++ (a.rest.items ++ more)) ≡ true → stands_in key number (b.first.items ++ (b.rest.items ++ more)) ≡ true
grown key number true due a b more h e =
    ap (λ (x : List Due). stands_in key number (x ++ (b.rest.items ++ more))) h.0
    ∙ ap (λ (x : List Due). stands_in key number ((a.first.items ++ (due ∷ [])) ++ (x ++ more))) h.1
    ∙ in_three key number (a.first.items ++ (due ∷ [])) a.rest.items more
    ∙ ap (λ (x : Bool). x || (stands_in key number a.rest.items || stands_in key number more)) (with_last key number a.first.items due)
    ∙ grows_first (stands_in key number a.first.items) (stands_in key number a.rest.items) (stands_in key number more) (stands_in key number (due ∷ [])) (sym (in_three key number a.first.items a.rest.items more) ∙ e)
grown key number false due a b more h e =
    ap (λ (x : List Due). stands_in key number (x ++ (b.rest.items ++ more))) h.0
    ∙ ap (λ (x : List Due). stands_in key number (a.first.items ++ (x ++ more))) h.1
    ∙ in_three key number a.first.items (a.rest.items ++ (due ∷ [])) more
    ∙ ap (λ (x : Bool). stands_in key number a.first.items || (x || stands_in key number more)) (with_last key number a.rest.items due)
    ∙ grows_rest (stands_in key number a.first.items) (stands_in key number a.rest.items) (stands_in key number more) (stands_in key number (due ∷ [])) (sym (in_three key number a.first.items a.rest.items more) ∙ e)

same_due : (key number : ℕ) (tenant : Option ℕ) → stands_in key number (due_at key number tenant ∷ []) ≡ true
same_due key number tenant = ap (λ (x : Bool). (x && number == number) || false) (eq-eqb key key refl) ∙ ap (λ (x : Bool). x || false) (eq-eqb number number refl)

first_has : (a b c : Bool) → b ≡ true → ((a || b) || c) ≡ true
first_has a b c e = or_left (a || b) c (or_right a b e)

pub stands_last : (key number : ℕ) (tenant : Option ℕ) (is_first : Bool) (a b : DueList) (more : List Due) → IsLast is_first (due_at key number tenant) a b → stands_in key number (b.first.items ++ (b.rest.items ++ more)) ≡ true
stands_last key number tenant true a b more h =
    let due : Due = due_at key number tenant in
    ap (λ (x : List Due). stands_in key number (x ++ (b.rest.items ++ more))) h.0
    ∙ in_three key number (a.first.items ++ (due ∷ [])) b.rest.items more
    ∙ ap (λ (x : Bool). x || (stands_in key number b.rest.items || stands_in key number more)) (with_last key number a.first.items due)
    ∙ first_has (stands_in key number a.first.items) (stands_in key number (due ∷ [])) (stands_in key number b.rest.items || stands_in key number more) (same_due key number tenant)
stands_last key number tenant false a b more h =
    let due : Due = due_at key number tenant in
    ap (λ (x : List Due). stands_in key number (b.first.items ++ (x ++ more))) h.1
    ∙ in_three key number b.first.items (a.rest.items ++ (due ∷ [])) more
    ∙ ap (λ (x : Bool). stands_in key number b.first.items || (x || stands_in key number more)) (with_last key number a.rest.items due)
    ∙ or_right (stands_in key number b.first.items) ((stands_in key number a.rest.items || stands_in key number (due ∷ [])) || stands_in key number more)
    (first_has (stands_in key number a.rest.items) (stands_in key number (due ∷ [])) (stands_in key number more) (same_due key number tenant))

-- a connection stands in one list, if it does in another
relisted : {S : Type 0} (s : Bool) (q : ℕ) (xs ys : List Due) (slot : Option (Connection S)) → ((number : ℕ) → stands_in q number xs ≡ true → stands_in q number ys ≡ true) → (s || is_listed q xs slot) ≡ true → (s || is_listed q ys slot) ≡ true
relisted s q xs ys None f e = e
relisted s q xs ys (Some c) f e = kept s (nat_le (2 ^ 32) q) c.is_due (stands_in q c.number xs) (stands_in q c.number ys) (f c.number) e
  where
    kept : (s l d x y : Bool) → (x ≡ true → y ≡ true) → (s || (l || (not d || x))) ≡ true → (s || (l || (not d || y))) ≡ true
    kept true l d x y f e = refl
    kept false true d x y f e = refl
    kept false false true x y f e = f e
    kept false false false x y f e = refl

-- the list grows
pub list_grows : {S : Type 0} (bound : ℕ) (missed : Bool) (slab : Slab (Connection S)) (is_first : Bool) (due : Due) (a b : DueList) → IsLast is_first due a b
    → (fact : Fact) → is_so_in fact bound missed slab a.first.items a.rest.items ≡ true → is_so_in fact bound missed slab b.first.items b.rest.items ≡ true
list_grows bound missed slab is_first due a b h (Within q) e = e
list_grows bound missed slab is_first due a b h (Stands q number more) e = grown q number is_first due a b more h e
list_grows bound missed slab is_first due a b h (Listed s q more) e =
    relisted s q (a.first.items ++ (a.rest.items ++ more)) (b.first.items ++ (b.rest.items ++ more)) (get slab q) (λ number i. grown q number is_first due a b more h i) e
list_grows bound missed slab is_first due a b h (Awake s q) e = e

-- one is put off
fronted : (key number : ℕ) (first rest more : List Due) (due : Due) → stands_in key number (first ++ (rest ++ (due ∷ more))) ≡ true → stands_in key number ((first ++ (due ∷ [])) ++ (rest ++ more)) ≡ true
fronted key number first rest more due e =
    in_three key number (first ++ (due ∷ [])) rest more
    ∙ ap (λ (x : Bool). x || (stands_in key number rest || stands_in key number more)) (with_last key number first due)
    ∙ moves_front (stands_in key number first) (stands_in key number rest) (stands_in key number more) (due.key == key && due.number == number) (sym (in_three key number first rest (due ∷ more)) ∙ e)

pub put_off_stands : {S : Type 0} (bound : ℕ) (missed : Bool) (slab : Slab (Connection S)) (first rest first' rest' : List Due) (due : Due) → first' ≡ first ++ (due ∷ []) → rest' ≡ rest
    → (fact : Fact) → is_so_in (before due fact) bound missed slab first rest ≡ true → is_so_in fact bound missed slab first' rest' ≡ true
put_off_stands {S} bound missed slab first rest first' rest' due h k fact e = subst (λ (x : List Due). is_so_in fact bound missed slab first' x ≡ true) (sym k) (subst (λ (x : List Due). is_so_in fact bound missed slab x rest ≡ true) (sym h) (at fact e))
  where
    at : (fact : Fact) → is_so_in (before due fact) bound missed slab first rest ≡ true → is_so_in fact bound missed slab (first ++ (due ∷ [])) rest ≡ true
    at (Within q) e = e
    at (Stands q number more) e =
        in_three q number (first ++ (due ∷ [])) rest more
        ∙ ap (λ (x : Bool). x || (stands_in q number rest || stands_in q number more)) (with_last q number first due)
        ∙ grows_first (stands_in q number first) (stands_in q number rest) (stands_in q number more) (stands_in q number (due ∷ [])) (sym (in_three q number first rest more) ∙ e)
    at (Listed s q more) e = relisted s q (first ++ (rest ++ (due ∷ more))) ((first ++ (due ∷ [])) ++ (rest ++ more)) (get slab q) (λ number i. fronted q number first rest more due i) e
    at (Awake s q) e = e

-- all are handed out
pub handed : {S : Type 0} (bound : ℕ) (missed : Bool) (slab : Slab (Connection S)) (first rest first' rest' list : List Due) → list ≡ first ++ rest → first' ≡ [] → rest' ≡ []
    → (fact : Fact) → is_so_in fact bound missed slab first rest ≡ true → is_so_in (within list fact) bound missed slab first' rest' ≡ true
handed {S} bound missed slab first rest first' rest' list h k l fact e = subst (λ (x : List Due). is_so_in (within list fact) bound missed slab x rest' ≡ true) (sym k) (subst (λ (x : List Due). is_so_in (within list fact) bound missed slab [] x ≡ true) (sym l) (at fact e))
  where
    all : (more : List Due) → list ++ more ≡ first ++ (rest ++ more)
    all more = ap (λ (x : List Due). x ++ more) h ∙ append_assoc first rest more

    at : (fact : Fact) → is_so_in fact bound missed slab first rest ≡ true → is_so_in (within list fact) bound missed slab [] [] ≡ true
    at (Within q) e = e
    at (Stands q number more) e = ap (λ (x : List Due). stands_in q number x) (all more) ∙ e
    at (Listed s q more) e = ap (λ (x : List Due). s || is_listed q x (get slab q)) (all more) ∙ e
    at (Awake s q) e = e

-- ---- All are looked at

-- no connection is looked at yet
abbrev pub sparing_all : Fact → Fact
sparing_all (Within q) = Within q
sparing_all (Stands q number more) = Stands q number more
sparing_all (Listed s q more) = Listed s q more
sparing_all (Awake s q) = Awake true q

within_bound : {S : Type 0} (q bound : ℕ) (missed : Bool) (slot : Option (Connection S)) → is_within q bound slot ≡ true → (q < bound → is_looked_at q missed slot ≡ true) → is_looked_at q missed slot ≡ true
within_bound q bound missed None w f = or_right (nat_le (2 ^ 32) q) (missed || true) (or_right missed true refl)
within_bound q bound missed (Some c) w f = f (ltb-true q bound (and_left (nat_lt q bound) (nat_lt q (2 ^ 32)) w))

pub recalled : {S : Type 0} (bound bound' : ℕ) (missed missed' missed'' : Bool) (slab slab' : Slab (Connection S)) (first rest first' rest' : List Due) → bound' ≡ bound
    → ((fact : Fact) → is_so_in (sparing_all fact) bound missed' slab first rest ≡ true → is_so_in (sparing_all fact) bound' missed'' slab' first' rest' ≡ true)
    → ((q : ℕ) → q < bound → is_so_in (Awake false q) bound' missed'' slab' first' rest' ≡ true) → ((q : ℕ) → is_so_in (Within q) bound missed slab first rest ≡ true)
    → (fact : Fact) → is_so_in fact bound missed slab first rest ≡ true → is_so_in fact bound' missed'' slab' first' rest' ≡ true
recalled bound bound' missed missed' missed'' slab slab' first rest first' rest' b keeps awake w (Within q) h = keeps (Within q) h
recalled bound bound' missed missed' missed'' slab slab' first rest first' rest' b keeps awake w (Stands q number more) h = keeps (Stands q number more) h
recalled bound bound' missed missed' missed'' slab slab' first rest first' rest' b keeps awake w (Listed s q more) h = keeps (Listed s q more) h
recalled bound bound' missed missed' missed'' slab slab' first rest first' rest' b keeps awake w (Awake s q) h =
    or_right s (is_looked_at q missed'' (get slab' q)) (within_bound q bound missed'' (get slab' q) (ap (λ (x : ℕ). is_within q x (get slab' q)) (sym b) ∙ keeps (Within q) (w q)) (λ l. awake q l))

-- those before the next one, and it
pub awake_so_far : {S : Type 0} (bound bound' : ℕ) (missed missed' : Bool) (slab slab' : Slab (Connection S)) (first rest first' rest' : List Due) (k : ℕ)
    → ((q : ℕ) → q < k → is_so_in (Awake false q) bound missed slab first rest ≡ true) → ((fact : Fact) → is_so_in (sparing k fact) bound missed slab first rest ≡ true → is_so_in fact bound' missed' slab' first' rest' ≡ true)
    → is_awake_in missed' (get slab' k) ≡ true → (q : ℕ) → q < k + 1 → is_so_in (Awake false q) bound' missed' slab' first' rest' ≡ true
awake_so_far {S} bound bound' missed missed' slab slab' first rest first' rest' k h wakes a q l = elim (cases_Bool (q == k)) [
  | inl e ↦ ap (λ (x : ℕ). is_looked_at x missed' (get slab' x)) (eqb-true q k e) ∙ or_right (nat_le (2 ^ 32) k) (is_awake_in missed' (get slab' k)) a
  | inr e ↦
      let n : q ≢ k = eqb-false q k e in
      wakes (Awake false q) (or_right (false || q == k) (is_looked_at q missed (get slab q)) (h q (omega (arith, n))))
]

-- ---- A turn of a round

dropped : (q number : ℕ) (first rest more : List Due) (due : Due) → (due.key == q && due.number == number) ≡ false → stands_in q number (first ++ (rest ++ (due ∷ more))) ≡ stands_in q number (first ++ (rest ++ more))
dropped q number first rest more due e =
    in_three q number first rest (due ∷ more) ∙ ap (λ (x : Bool). stands_in q number first || (stands_in q number rest || (x || stands_in q number more))) e ∙ sym (in_three q number first rest more)

and_right : (x y : Bool) → (x && y) ≡ true → y ≡ true
and_right true y e = e
and_right false y e = absurd cc

other_false : (x y : Bool) → x ≡ true → (x && y) ≡ false → y ≡ false
other_false true y e h = h
other_false false y e h = absurd cc

not_small : (k : ℕ) → nat_lt k (2 ^ 32) ≡ false → nat_le (2 ^ 32) k ≡ true
not_small k e = grind (arith, nat_tests)

-- the turn of one that is not there any more
gone_from : {S : Type 0} (s : Bool) (q : ℕ) (first rest more : List Due) (due : Due) (slot : Option (Connection S)) → (due.key ≡ q → option_map_or (λ c. c.number == due.number && nat_lt due.key (2 ^ 32)) slot false ≡ false)
    → (s || is_listed q (first ++ (rest ++ (due ∷ more))) slot) ≡ true → (s || is_listed q (first ++ (rest ++ more)) slot) ≡ true
gone_from s q first rest more due None f e = e
gone_from s q first rest more due (Some c) f e = elim (cases_Bool (due.key == q && due.number == c.number)) [
  | inl m ↦
      let k : due.key ≡ q = eqb-true due.key q (and_left (due.key == q) (due.number == c.number) m) in
      let n : due.number ≡ c.number = eqb-true due.number c.number (and_right (due.key == q) (due.number == c.number) m) in
      let small : nat_lt due.key (2 ^ 32) ≡ false = other_false (c.number == due.number) (nat_lt due.key (2 ^ 32)) (eq-eqb c.number due.number (sym n)) (f k) in
      let large : nat_le (2 ^ 32) q ≡ true = not_small q (ap (λ (x : ℕ). nat_lt x (2 ^ 32)) (sym k) ∙ small) in
      or_right s (is_listed q (first ++ (rest ++ more)) (Some c)) (or_left (nat_le (2 ^ 32) q) (not c.is_due || stands_in q c.number (first ++ (rest ++ more))) large)
  | inr m ↦ ap (λ (x : Bool). s || (nat_le (2 ^ 32) q || (not c.is_due || x))) (sym (dropped q c.number first rest more due m)) ∙ e
]

pub passed_by : {S : Type 0} (bound : ℕ) (missed : Bool) (first rest : List Due) (slab : Slab (Connection S)) (due : Due) → option_map_or (λ c. c.number == due.number && nat_lt due.key (2 ^ 32)) (get slab due.key) false ≡ false
    → (fact : Fact) → is_so_in (before due fact) bound missed slab first rest ≡ true → is_so_in fact bound missed slab first rest ≡ true
passed_by bound missed first rest slab due f (Within q) e = e
passed_by bound missed first rest slab due f (Stands q number more) e = e
passed_by {S} bound missed first rest slab due f (Listed s q more) e =
    gone_from s q first rest more due (get slab q) (λ k. ap (λ (x : ℕ). option_map_or (λ c. c.number == due.number && nat_lt due.key (2 ^ 32)) (get slab x) false) (sym k) ∙ f) e
passed_by bound missed first rest slab due f (Awake s q) e = e

-- the turn of another one
left_from : {S : Type 0} (s : Bool) (q : ℕ) (first rest more : List Due) (due : Due) (slot : Option (Connection S)) → (due.key == q) ≡ false
    → (s || is_listed q (first ++ (rest ++ (due ∷ more))) slot) ≡ true → (s || is_listed q (first ++ (rest ++ more)) slot) ≡ true
left_from s q first rest more due None f e = e
left_from s q first rest more due (Some c) f e =
    ap (λ (x : Bool). s || (nat_le (2 ^ 32) q || (not c.is_due || x))) (sym (dropped q c.number first rest more due (ap (λ (x : Bool). x && due.number == c.number) f))) ∙ e

pub turn_comes : {S : Type 0} (bound : ℕ) (missed : Bool) (first rest : List Due) (slab : Slab (Connection S)) (due : Due) (fact : Fact) → is_so_in (before due fact) bound missed slab first rest ≡ true → is_so_in (leaving_out due.key fact) bound missed slab first rest ≡ true
turn_comes bound missed first rest slab due (Within q) e = e
turn_comes bound missed first rest slab due (Stands q number more) e = e
turn_comes bound missed first rest slab due (Listed s q more) e = elim (cases_Bool (q == due.key)) [
  | inl k ↦ spared_at s (q == due.key) (is_listed q (first ++ (rest ++ more)) (get slab q)) k
  | inr k ↦
      let n : q ≢ due.key = eqb-false q due.key k in
      spared_more s (q == due.key) (is_listed q (first ++ (rest ++ more)) (get slab q)) (left_from s q first rest more due (get slab q) (ne_eqb due.key q (λ i. n (sym i))) e)
]
turn_comes bound missed first rest slab due (Awake s q) e = spared_more s (q == due.key) (is_looked_at q missed (get slab q)) e

-- one that is woken, and nobody else, is a change at which nobody is forgotten
pub stays_by : {S C T : Type 0} (key : ℕ) (a b : Open S C T) → Wakes key a b → StaysWoken a b
stays_by key a b w = λ fact h. w fact (spared a.bound a.has_missed a.due.first.items a.due.rest.items a.connections key fact h)
