-- The share with a ticket, after each call.
use Rattle.std.proofs.Common.{◌≡◌, ℕ, ◌+◌, ◌<◌, ◌≤◌, inl, inr, List, [], ◌∷◌, ◌++◌, length, map, get_or, set, Bool, true, false, refl, sym, ap, ◌∙◌, subst, arith}
use Rattle.std.specs.Prelude.{◌==◌, not, min, nat_lt, nat_le, if◌then◌else◌, Option, Some, None}
use Rattle.std.proofs.lemmas.Bool.{cases_Bool, eq-eqb}
use Rattle.std.proofs.lemmas.Bool.Decides.{nat_tests}
use Rattle.std.proofs.lemmas.List.{get_or-set_same, get_or_past, set_past}
use Rattle.memory_budget.specs.declared.share.Share.{Share}
use Rattle.memory_budget.specs.States.{State, Standing, Asks, Releases, Shrinks, Next, nobody, after, after_next, asked_of, at_once, can_ask, chosen, grants, grants_of, holding, is_of, lowered, own, party_at, queueing, released, room, share_of, shrunk, without, RisesTo, IsKept, IsSound}
use Rattle.memory_budget.specs.Tickets.{Grants, OthersStay, shares_as, shares_in, with_share}
use Rattle.memory_budget.proofs.Choosing.{and_false, chosen_waits, is_less, is_same, not_less, same}
use Rattle.memory_budget.proofs.Keeping.{first_is, served_cons}
use Rattle.memory_budget.proofs.Moving.{own_without}
use Rattle.memory_budget.proofs.Places.{nothing_granted, put_cases}
use Rattle.memory_budget.proofs.Releasing.{freed, freed_at}
use Rattle.memory_budget.proofs.Rising.{rises_back, rises_front, rises_length}
use Rattle.memory_budget.proofs.Sound.{at_sound, can_tells}

-- ---- Of lists

of_another : (t ticket : ℕ) (x : Share) → (t == ticket) ≡ false → is_of ticket x ≡ true → is_of t x ≡ false
of_another t ticket x h k = let e : x.ticket ≡ ticket = is_same x.ticket ticket k in grind (arith, nat_tests)

not_own : (t : ℕ) (x : Share) → (t == x.ticket) ≡ false → is_of t x ≡ false
not_own t x h = grind (arith, nat_tests)

own_itself : (x : Share) → is_of x.ticket x ≡ true
own_itself x = eq-eqb x.ticket x.ticket refl

own_front : (t : ℕ) (x : Share) (xs : List Share) → is_of t x ≡ true → own t (x ∷ xs) ≡ x ∷ own t xs
own_front t x xs h = rw h refl

own_past : (t : ℕ) (x : Share) (xs : List Share) → is_of t x ≡ false → own t (x ∷ xs) ≡ own t xs
own_past t x xs h = rw h refl

own_push : (t : ℕ) (xs : List Share) (x : Share) → is_of t x ≡ true → own t (xs ++ x ∷ []) ≡ own t xs ++ x ∷ []
own_push t [] x h = own_front t x [] h
own_push t (y ∷ ys) x h = elim (cases_Bool (is_of t y)) [
  | inl e ↦ own_front t y (ys ++ x ∷ []) e ∙ ap (λ (zs : List Share). y ∷ zs) (own_push t ys x h) ∙ ap (λ (zs : List Share). zs ++ x ∷ []) (sym (own_front t y ys e))
  | inr e ↦ own_past t y (ys ++ x ∷ []) e ∙ own_push t ys x h ∙ ap (λ (zs : List Share). zs ++ x ∷ []) (sym (own_past t y ys e))
]

own_behind : (t : ℕ) (xs : List Share) (x : Share) → is_of t x ≡ false → own t (xs ++ x ∷ []) ≡ own t xs
own_behind t [] x h = own_past t x [] h
own_behind t (y ∷ ys) x h = elim (cases_Bool (is_of t y)) [
  | inl e ↦ own_front t y (ys ++ x ∷ []) e ∙ ap (λ (zs : List Share). y ∷ zs) (own_behind t ys x h) ∙ sym (own_front t y ys e)
  | inr e ↦ own_past t y (ys ++ x ∷ []) e ∙ own_behind t ys x h ∙ sym (own_past t y ys e)
]

own_spared : (t ticket : ℕ) (xs : List Share) → (t == ticket) ≡ false → own t (without ticket xs) ≡ own t xs
own_spared t ticket [] h = refl
own_spared t ticket (x ∷ xs) h = elim (cases_Bool (is_of ticket x)) [
  | inl e ↦ gone_past (is_of ticket x) e ∙ own_spared t ticket xs h ∙ sym (own_past t x xs (of_another t ticket x h e))
  | inr e ↦ kept_past (is_of ticket x) e ∙ elim (cases_Bool (is_of t x)) [
    | inl f ↦ own_front t x (without ticket xs) f ∙ ap (λ (zs : List Share). x ∷ zs) (own_spared t ticket xs h) ∙ sym (own_front t x xs f)
    | inr f ↦ own_past t x (without ticket xs) f ∙ own_spared t ticket xs h ∙ sym (own_past t x xs f)
  ]
]
  where
    gone_past : (b : Bool) → b ≡ true → own t (if not b then x ∷ without ticket xs else without ticket xs) ≡ own t (without ticket xs)
    gone_past true e = refl
    gone_past false e = absurd cc

    kept_past : (b : Bool) → b ≡ false → own t (if not b then x ∷ without ticket xs else without ticket xs) ≡ own t (x ∷ without ticket xs)
    kept_past true e = absurd cc
    kept_past false e = refl

low_ticket : (b : Bool) (to : ℕ) (x : Share) → (if b then record x { bytes = min x.bytes to } else x).ticket ≡ x.ticket
low_ticket true to x = refl
low_ticket false to x = refl

low_of : (t ticket to : ℕ) (x : Share) → is_of t (lowered ticket to x) ≡ is_of t x
low_of t ticket to x = ap (λ (n : ℕ). n == t) (low_ticket (is_of ticket x) to x)

not_low : (b : Bool) (to : ℕ) (x : Share) → b ≡ false → (if b then record x { bytes = min x.bytes to } else x) ≡ x
not_low true to x h = absurd cc
not_low false to x h = refl

own_lowered : (t to : ℕ) (xs : List Share) → own t (map (lowered t to) xs) ≡ map (lowered t to) (own t xs)
own_lowered t to [] = refl
own_lowered t to (x ∷ xs) = elim (cases_Bool (is_of t x)) [
  | inl e ↦ own_front t (lowered t to x) (map (lowered t to) xs) (low_of t t to x ∙ e) ∙ ap (λ (zs : List Share). lowered t to x ∷ zs) (own_lowered t to xs) ∙ ap (λ (zs : List Share). map (lowered t to) zs) (sym (own_front t x xs e))
  | inr e ↦ own_past t (lowered t to x) (map (lowered t to) xs) (low_of t t to x ∙ e) ∙ own_lowered t to xs ∙ ap (λ (zs : List Share). map (lowered t to) zs) (sym (own_past t x xs e))
]

own_higher : (t ticket to : ℕ) (xs : List Share) → (t == ticket) ≡ false → own t (map (lowered ticket to) xs) ≡ own t xs
own_higher t ticket to [] h = refl
own_higher t ticket to (x ∷ xs) h = elim (cases_Bool (is_of t x)) [
  | inl e ↦
      (let same : lowered ticket to x ≡ x = not_low (is_of ticket x) to x (let k : x.ticket ≡ t = is_same x.ticket t e in grind (arith, nat_tests)) in
      own_front t (lowered ticket to x) (map (lowered ticket to) xs) (low_of t ticket to x ∙ e) ∙ ap (λ (y : Share). y ∷ own t (map (lowered ticket to) xs)) same ∙ ap (λ (zs : List Share). x ∷ zs) (own_higher t ticket to xs h) ∙ sym (own_front t x xs e))
  | inr e ↦ own_past t (lowered ticket to x) (map (lowered ticket to) xs) (low_of t ticket to x ∙ e) ∙ own_higher t ticket to xs h ∙ sym (own_past t x xs e)
]

-- ---- One party is in the place of another

both : {A B : Type 0} {a a' : A} {b b' : B} → a ≡ a' → b ≡ b' → ◌≡◌ {A = A × B} (a, b) (a', b')
both e f = cc

others_put : (s s' : State) (i ticket : ℕ) (y : Standing) → s'.parties ≡ set s.parties i y → ((t : ℕ) → (t == ticket) ≡ false → shares_in t y ≡ shares_in t (party_at s i)) → OthersStay i ticket s s'
others_put s s' i ticket y e h = record {
  stay = λ q t f. ap (λ (ps : List Standing). shares_in t (get_or ps q nobody)) e ∙ elim (put_cases s.parties i q y) [
    | inl k ↦ ap (shares_in t) k
    | inr k ↦ ap (shares_in t) k.1 ∙ h t (and_false (q == i) (t == ticket) f (same q i (sym k.0))) ∙ ap (λ (n : ℕ). shares_in t (party_at s n)) k.0
  ];
}

here_put : (s s' : State) (i ticket : ℕ) (y : Standing) → s'.parties ≡ set s.parties i y → i < length s.parties → shares_as s' i ticket ≡ shares_in ticket y
here_put s s' i ticket y e l = ap (λ (ps : List Standing). shares_in ticket (get_or ps i nobody)) e ∙ ap (shares_in ticket) (get_or-set_same s.parties i y nobody l)

-- ---- After each call

AsksSo : (s : State) (i : ℕ) (x : Share) (a : Bool) (t : State) → Type 0
AsksSo s i x a t = OthersStay i x.ticket s t × (shares_as t i x.ticket ≡ with_share a x (shares_as s i x.ticket))

asked_put : (s : State) (i : ℕ) (x : Share) (a : Bool) → i < length s.parties → AsksSo s i x a (record s { next = s.next + 1; parties = set s.parties i (if a then holding (party_at s i) x else queueing (party_at s i) x) })
unfolding AsksSo
asked_put s i x true l =
    let p : Standing = party_at s i in
    let t : State = record s { next = s.next + 1; parties = set s.parties i (holding p x) } in (
      others_put s t i x.ticket (holding p x) refl (λ n f. both (own_behind n p.held x (not_own n x f)) refl),
      here_put s t i x.ticket (holding p x) refl l ∙ both (own_push x.ticket p.held x (own_itself x)) refl,
    )
asked_put s i x false l =
    let p : Standing = party_at s i in
    let t : State = record s { next = s.next + 1; parties = set s.parties i (queueing p x) } in (
      others_put s t i x.ticket (queueing p x) refl (λ n f. both refl (own_behind n p.waiting x (not_own n x f))),
      here_put s t i x.ticket (queueing p x) refl l ∙ both refl (own_push x.ticket p.waiting x (own_itself x)),
    )

if_true : {A : Type 0} (c : Bool) (x y : A) → c ≡ true → (if c then x else y) ≡ x
if_true true x y h = refl
if_true false x y h = absurd cc

pub asked : (s : State) (i owner bytes : ℕ) → can_ask s i bytes ≡ true
    → OthersStay i s.next s (after s (Asks i owner bytes)) × (shares_as (after s (Asks i owner bytes)) i s.next ≡ with_share (at_once s i bytes) (share_of s owner bytes) (shares_as s i s.next))
unfolding AsksSo
asked s i owner bytes c =
    let x : Share = share_of s owner bytes in
    let t : State = record s { next = s.next + 1; parties = set s.parties i (asked_of s i x) } in
    subst (λ (z : State). AsksSo s i x (at_once s i bytes) z) (sym (if_true (can_ask s i bytes) t s c)) (asked_put s i x (at_once s i bytes) (can_tells s i bytes c).1)

pub released_so : (s : State) (i ticket : ℕ) → OthersStay i ticket s (after s (Releases i ticket)) × (shares_as (after s (Releases i ticket)) i ticket ≡ ([], []))
released_so s i ticket =
    let p : Standing = party_at s i in
    let t : State = after s (Releases i ticket) in
    let f : ((party_at t i).held ≡ freed true ticket p.held) × ((party_at t i).waiting ≡ freed true ticket p.waiting) = freed_at s i i ticket true (eq-eqb i i refl) in (
      others_put s t i ticket (released ticket p) refl (λ n g. both (own_spared n ticket p.held g) (own_spared n ticket p.waiting g)),
      both (ap (own ticket) f.0 ∙ own_without ticket [] p.held) (ap (own ticket) f.1 ∙ own_without ticket [] p.waiting),
    )

pub shrunk_so : (s : State) (i ticket to : ℕ)
    → OthersStay i ticket s (after s (Shrinks i ticket to)) × (shares_as (after s (Shrinks i ticket to)) i ticket ≡ (map (lowered ticket to) (own ticket (party_at s i).held), own ticket (party_at s i).waiting))
shrunk_so s i ticket to =
    let p : Standing = party_at s i in
    let t : State = after s (Shrinks i ticket to) in
    let y : Standing = shrunk ticket to p in
    let here : shares_in ticket y ≡ (map (lowered ticket to) (own ticket p.held), own ticket p.waiting) = both (own_lowered ticket to p.held) refl in (
      others_put s t i ticket y refl (λ n g. both (own_higher n ticket to p.held g) refl),
      elim (cases_Bool (nat_lt i (length s.parties))) [
        | inl l ↦ here_put s t i ticket y refl (is_less i (length s.parties) l) ∙ here
        | inr l ↦
            (let past : length s.parties ≤ i = not_less i (length s.parties) l in
            let none : p ≡ nobody = get_or_past s.parties i nobody past in
            ap (λ (ps : List Standing). shares_in ticket (get_or ps i nobody)) (set_past s.parties i y past) ∙ ap (shares_in ticket) none ∙ ap (λ (z : Standing). shares_in ticket (shrunk ticket to z)) (sym none) ∙ here)
      ],
    )

served_so : (s : State) (c : Option ℕ) (x : Share) → chosen s.parties ≡ c → grants_of s c ≡ x ∷ [] → Grants x s (after_next s c)
served_so s None x c h = absurd cc
served_so s (Some i) x c h =
    let p : Standing = party_at s i in
    let f : (rest : List Share) × (p.waiting ≡ x ∷ rest) × (nat_le x.bytes (room s i) ≡ true) = first_is (room s i) p.waiting x (sym h) in
    let y : Standing = record { turn = s.next; held = p.held ++ x ∷ []; waiting = f.0 } in
    let t : State = after_next s (Some i) in
    let put : t.parties ≡ set s.parties i y = ap (λ (z : Standing). set s.parties i z) (served_cons (room s i) s.next p x f.0 f.1 f.2) in
    record {
      party = i;
      left = own x.ticket f.0;
      waited = ap (own x.ticket) f.1 ∙ own_front x.ticket x f.0 (own_itself x);
      holds = here_put s t i x.ticket y put (chosen_waits s.parties i c).0 ∙ both (own_push x.ticket p.held x (own_itself x)) refl;
      others = others_put s t i x.ticket y put (λ n g. both (own_behind n p.held x (not_own n x g)) (sym (ap (own n) f.1 ∙ own_past n x f.0 (not_own n x g))));
    }

pub granted_so : (s : State) (x : Share) → grants s Next ≡ x ∷ [] → Grants x s (after s Next)
granted_so s x h = served_so s (chosen s.parties) x refl h

still_so : (s : State) (c : Option ℕ) → grants_of s c ≡ [] → after_next s c ≡ s
still_so s None h = refl
still_so s (Some i) h =
    let e : (after_next s (Some i)).parties ≡ s.parties = nothing_granted s i h in
    let n : (after_next s (Some i)).next ≡ s.next = ap (λ (xs : List Share). s.next + length xs) h ∙ none_more s.next in
    ap (λ (ps : List Standing). let z : State = record (after_next s (Some i)) { parties = ps } in z) e ∙ ap (λ (m : ℕ). let z : State = record s { next = m } in z) n
  where
    none_more : (m : ℕ) → m + 0 ≡ m
    none_more m = omega arith

pub still : (s : State) → grants s Next ≡ [] → after s Next ≡ s
still s h = still_so s (chosen s.parties) h

-- ---- The next ticket

none_to : (a b : ℕ) (xs : List Share) → RisesTo a b xs → own b xs ≡ []
none_to a b [] h = refl
none_to a b (x ∷ xs) h = own_past b x xs (below x xs h.1) ∙ none_to (x.ticket + 1) b xs h.1
  where
    below : (y : Share) (ys : List Share) → RisesTo (y.ticket + 1) b ys → is_of b y ≡ false
    below y ys k = let l : (y.ticket + 1) + length ys ≤ b = rises_length (y.ticket + 1) b ys k in grind (arith, nat_tests)

next_free : (limit next : ℕ) (p : Standing) → IsSound limit next p → shares_in next p ≡ ([], [])
next_free limit next p h = both (none_to 0 next p.held (rises_front 0 next p.held p.waiting h.rises)) (none_to 0 next p.waiting (rises_back 0 next p.held p.waiting h.rises))

-- no share has it
pub asks_free : (limit spare used waiting next : ℕ) (ps : List Standing) (s : State) (party : ℕ) → IsKept limit used waiting next ps → (let x : State = record { limit = limit; spare = spare; next = next; parties = ps } in x) ≡ s → shares_as s party s.next ≡ ([], [])
asks_free limit spare used waiting next ps s party k e = subst (λ (x : State). shares_as x party x.next ≡ ([], [])) e (next_free limit next (get_or ps party nobody) (at_sound limit next ps party k.each))
