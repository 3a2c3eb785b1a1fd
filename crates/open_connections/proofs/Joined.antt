-- What the change of one claim and of its share leaves of all others.
use Rattle.std.proofs.Common.{◌≡◌, ◌≢◌, ◌⊎◌, ◌≤◌, ◌-◌, ◌/◌, ℕ, zero, suc, arith, max, min, get_or, List, [], ◌∷◌, ◌++◌, map, Bool, true, false, Option, Some, None, refl, sym, ap, ◌∙◌, subst, inl, inr}
use Rattle.std.specs.Prelude.{◌==◌, ◌&&◌, IfSome, if◌then◌else◌, not, replicate}
use Rattle.std.specs.Option.{option_and_then, option_map}
use Rattle.std.proofs.lemmas.Bool.{cases_Bool, eqb-true, eqb-false, eq-eqb}
use Rattle.slab.specs.Slab.{Slab, Updates, get}
use Rattle.memory_budget.specs.declared.share.Share.{Share}
use Rattle.memory_budget.specs.States.{State, lowered, nobody}
use Rattle.memory_budget.specs.Tickets.{shares_as, shares_in, with_share}
use Rattle.wire_frames.specs.declared.parts.TheConstants.{LONGEST_FRAME, MOST_REPLY}
use Rattle.connection_turns.specs.Held.{renewed}
use Rattle.connection_turns.specs.Planning.{granted}
use Rattle.connection_turns.specs.declared.claim.After.{After}
use Rattle.connection_turns.specs.declared.claim.After.TheVariants as after
use Rattle.connection_turns.specs.declared.claim.Claim.{Claim}
use Rattle.connection_turns.specs.declared.claim.Pool.{Pool}
use Rattle.connection_turns.specs.declared.claim.Pool.TheVariants.{Tenants, Strangers}
use Rattle.connection_turns.specs.declared.claim.Purpose.TheVariants as purpose
use Rattle.connection_turns.specs.declared.connection.Connection.{Connection}
use Rattle.open_connections.specs.declared.budgets.Budgets.{Budgets}
use Rattle.open_connections.specs.Joined.{ChangesAt, ChangesIn, Comes, HasShare, Holds, Joined, ShareKey, claimed_by, is_at, is_same_pool, place_of, shares_at}
use Rattle.open_connections.specs.Shares.{claim_at, fresh_budgets, in_pool}

-- ---- Places

pool_is : (a b : Pool) → is_same_pool a b ≡ true → a ≡ b
pool_is Tenants Tenants e = refl
pool_is Tenants Strangers e = absurd cc
pool_is Strangers Tenants e = absurd cc
pool_is Strangers Strangers e = refl

pool_same : (a : Pool) → is_same_pool a a ≡ true
pool_same Tenants = refl
pool_same Strangers = refl

both_true : (x y : Bool) → (x && y) ≡ true → (x ≡ true) × (y ≡ true)
both_true true y e = (refl, e)
both_true false y e = absurd cc

and_true : (x y : Bool) → x ≡ true → y ≡ true → (x && y) ≡ true
and_true true y e f = f
and_true false y e f = absurd cc

place_is : (a b : ShareKey) → is_at a b ≡ true → a ≡ b
place_is a b e =
    let p = both_true (is_same_pool a.pool b.pool) (a.party == b.party && a.ticket == b.ticket) e in
    let q = both_true (a.party == b.party) (a.ticket == b.ticket) p.1 in
    let pool : a.pool ≡ b.pool = pool_is a.pool b.pool p.0 in
    let party : a.party ≡ b.party = eqb-true a.party b.party q.0 in
    let ticket : a.ticket ≡ b.ticket = eqb-true a.ticket b.ticket q.1 in
    ap (λ (x : Pool). let z : ShareKey = record { pool = x; party = a.party; ticket = a.ticket } in z) pool
    ∙ ap (λ (x : ℕ). let z : ShareKey = record { pool = b.pool; party = x; ticket = a.ticket } in z) party
    ∙ ap (λ (x : ℕ). let z : ShareKey = record { pool = b.pool; party = b.party; ticket = x } in z) ticket

at_itself : (a : ShareKey) → is_at a a ≡ true
at_itself a = and_true (is_same_pool a.pool a.pool) (a.party == a.party && a.ticket == a.ticket) (pool_same a.pool) (and_true (a.party == a.party) (a.ticket == a.ticket) (eq-eqb a.party a.party refl) (eq-eqb a.ticket a.ticket refl))

at_same : (a b : ShareKey) → a ≡ b → is_at a b ≡ true
at_same a b e = subst (λ (x : ShareKey). is_at a x ≡ true) e (at_itself a)

not_both : (x : Bool) → x ≡ true → x ≡ false → ⊥
not_both x e f = absurd cc

-- ---- Of one budget, and of both

in_tenants_at : (party ticket : ℕ) (shares : List Share × List Share) (a : Budgets) (t : State) → ChangesIn party ticket shares a.tenants t → (pool : Pool) (q n : ℕ)
    → (is_same_pool pool Tenants && (q == party && n == ticket)) ≡ false → shares_as (in_pool pool (record a { tenants = t })) q n ≡ shares_as (in_pool pool a) q n
in_tenants_at party ticket shares a t c Tenants q n e = c.others.stay q n e
in_tenants_at party ticket shares a t c Strangers q n e = refl

pub in_tenants : (party ticket : ℕ) (shares : List Share × List Share) (a : Budgets) (t : State) → ChangesIn party ticket shares a.tenants t
    → ChangesAt (record { pool = Tenants; party = party; ticket = ticket }) shares a (record a { tenants = t })
in_tenants party ticket shares a t c = record {
  here = c.here;
  others = λ p e. in_tenants_at party ticket shares a t c p.pool p.party p.ticket e;
  limits = ap (λ (x : ℕ). (x, a.strangers.limit)) c.limit;
  most = cc;
}

in_strangers_at : (party ticket : ℕ) (shares : List Share × List Share) (a : Budgets) (t : State) → ChangesIn party ticket shares a.strangers t → (pool : Pool) (q n : ℕ)
    → (is_same_pool pool Strangers && (q == party && n == ticket)) ≡ false → shares_as (in_pool pool (record a { strangers = t })) q n ≡ shares_as (in_pool pool a) q n
in_strangers_at party ticket shares a t c Strangers q n e = c.others.stay q n e
in_strangers_at party ticket shares a t c Tenants q n e = refl

pub in_strangers : (party ticket : ℕ) (shares : List Share × List Share) (a : Budgets) (t : State) → ChangesIn party ticket shares a.strangers t
    → ChangesAt (record { pool = Strangers; party = party; ticket = ticket }) shares a (record a { strangers = t })
in_strangers party ticket shares a t c = record {
  here = c.here;
  others = λ p e. in_strangers_at party ticket shares a t c p.pool p.party p.ticket e;
  limits = ap (λ (x : ℕ). (a.tenants.limit, x)) c.limit;
  most = refl;
}

-- ---- Claims

-- a claim's share says nothing of its purpose, nor since when it is held
abbrev pub part_of : Claim → Claim
part_of claim = record claim { since = 0; purpose = purpose.Frame }

has_alike : (key : ℕ) (x y : Option Claim) (budgets : Budgets) → option_map part_of x ≡ option_map part_of y → IfSome y (λ claim. HasShare key claim budgets) → IfSome x (λ claim. HasShare key claim budgets)
has_alike key None y budgets e h = tt
has_alike key (Some c) None budgets e h = absurd cc
has_alike key (Some c) (Some d) budgets e h = let same : part_of d ≡ part_of c = cc in subst (λ (z : Claim). HasShare key z budgets) same h

place_alike : (x y : Option Claim) → option_map part_of x ≡ option_map part_of y → option_map place_of x ≡ option_map place_of y
place_alike None None e = refl
place_alike None (Some d) e = absurd cc
place_alike (Some c) None e = absurd cc
place_alike (Some c) (Some d) e = let same : part_of c ≡ part_of d = cc in ap (λ (z : Claim). Some (place_of z)) same

pub joined_alike : (claims claims' : ℕ → Option Claim) (budgets : Budgets) → ((q : ℕ) → option_map part_of (claims' q) ≡ option_map part_of (claims q)) → Joined claims budgets → Joined claims' budgets
joined_alike claims claims' budgets h j = record {
  has = λ q. has_alike q (claims' q) (claims q) budgets (h q) (j.has q);
  owned = λ p. elim (j.owned p) [ inl e ↦ inl e | inr f ↦ inr (f.0, place_alike (claims' f.0) (claims f.0) (h f.0) ∙ f.1) ];
  most = j.most;
}

-- it is held since another second
pub renewed_alike : (now : ℕ) (claim claim' : Option Claim) → claim' ≡ renewed now claim → option_map part_of claim' ≡ option_map part_of claim
renewed_alike now claim claim' e = ap (λ (x : Option Claim). option_map part_of x) e ∙ alike claim
  where
    alike : (claim : Option Claim) → option_map part_of (renewed now claim) ≡ option_map part_of claim
    alike None = refl
    alike (Some c) = refl

-- whose the first share is
owner_in : List Share → List Share → ℕ
owner_in (x ∷ xs) ys = x.owner
owner_in [] (y ∷ ys) = y.owner
owner_in [] [] = 0

owner_so : (is_held : Bool) (x : Share) → owner_in (with_share is_held x ([], [])).0 (with_share is_held x ([], [])).1 ≡ x.owner
unfolding owner_in
owner_so true x = refl
owner_so false x = refl

some_share : (is_held : Bool) (x : Share) → with_share is_held x ([], []) ≡ ([], []) → ⊥
some_share true x e = let f : x ∷ [] ≡ [] = ap (λ (p : List Share × List Share). p.0) e in absurd cc
some_share false x e = let f : x ∷ [] ≡ [] = ap (λ (p : List Share × List Share). p.1) e in absurd cc

-- nobody else claims what a connection does
same_owner : (q key : ℕ) (d c : Claim) (budgets : Budgets) → HasShare q d budgets → HasShare key c budgets → place_of d ≡ place_of c → q ≡ key
same_owner q key d c budgets h k e =
    let same : claimed_by q d ≡ claimed_by key c = sym h ∙ ap (λ (p : ShareKey). shares_at p budgets) e ∙ k in
    sym (owner_so d.is_granted (record { ticket = d.ticket; owner = q; bytes = d.bytes })) ∙ ap (λ (p : List Share × List Share). owner_in p.0 p.1) same ∙ owner_so c.is_granted (record { ticket = c.ticket; owner = key; bytes = c.bytes })

alone_at : (q key : ℕ) (x : Option Claim) (c : Claim) (budgets : Budgets) → IfSome x (λ claim. HasShare q claim budgets) → HasShare key c budgets → option_map place_of x ≡ Some (place_of c) → q ≡ key
alone_at q key None c budgets h k e = absurd cc
alone_at q key (Some d) c budgets h k e = let same : place_of d ≡ place_of c = cc in same_owner q key d c budgets h k same

none_at : (q : ℕ) (x : Option Claim) (place : ShareKey) (budgets : Budgets) → IfSome x (λ claim. HasShare q claim budgets) → shares_at place budgets ≡ ([], []) → option_map place_of x ≡ Some place → ⊥
none_at q None place budgets h f e = absurd cc
none_at q (Some d) place budgets h f e =
    let same : place_of d ≡ place = cc in
    some_share d.is_granted (record { ticket = d.ticket; owner = q; bytes = d.bytes }) (sym h ∙ ap (λ (p : ShareKey). shares_at p budgets) same ∙ f)

-- ---- A claim changes, and the shares at its place with it

record Moves (claims claims' : ℕ → Option Claim) (key : ℕ) (place : ShareKey) (shares : List Share × List Share) : Type 0 where
  others : (q : ℕ) → q ≢ key → claims' q ≡ claims q
  was : IfSome (claims key) (λ claim. place_of claim ≡ place)
  alone : (q : ℕ) → option_map place_of (claims q) ≡ Some place → q ≡ key
  has : IfSome (claims' key) (λ claim. (place_of claim ≡ place) × (shares ≡ claimed_by key claim))
  owned : (shares ≡ ([], [])) ⊎ (option_map place_of (claims' key) ≡ Some place)

other_place : (p place : ShareKey) (x : Option Claim) → is_at p place ≡ false → IfSome x (λ claim. place_of claim ≡ place) → option_map place_of x ≡ Some p → ⊥
other_place p place None e h f = absurd cc
other_place p place (Some d) e h f = let same : p ≡ place_of d = cc in not_both (is_at p place) (at_same p place (same ∙ h)) e

module _ (claims claims' : ℕ → Option Claim) (old new : Budgets) (key : ℕ) (place : ShareKey) (shares : List Share × List Share) where
  has_here : ChangesAt place shares old new → (x : Option Claim) → IfSome x (λ claim. (place_of claim ≡ place) × (shares ≡ claimed_by key claim)) → IfSome x (λ claim. HasShare key claim new)
  has_here c None h = tt
  has_here c (Some d) h = ap (λ (p : ShareKey). shares_at p new) h.0 ∙ c.here ∙ h.1

  has_there : ChangesAt place shares old new → (q : ℕ) (x : Option Claim) → (option_map place_of x ≡ Some place → ⊥) → IfSome x (λ claim. HasShare q claim old) → IfSome x (λ claim. HasShare q claim new)
  has_there c q None n h = tt
  has_there c q (Some d) n h = elim (cases_Bool (is_at (place_of d) place)) [
    | inl e ↦ absurd (n (ap (λ (p : ShareKey). Some p) (place_is (place_of d) place e)))
    | inr e ↦ c.others (place_of d) e ∙ h
  ]

  moved : ChangesAt place shares old new → Moves claims claims' key place shares → Joined claims old → Joined claims' new
  moved c m j = record {
    has = λ q. elim (cases_Bool (q == key)) [
      | inl e ↦ subst (λ (k : ℕ). IfSome (claims' k) (λ claim. HasShare k claim new)) (sym (eqb-true q key e)) (has_here c (claims' key) m.has)
      | inr e ↦
          let n : q ≢ key = eqb-false q key e in
          subst (λ (x : Option Claim). IfSome x (λ claim. HasShare q claim new)) (sym (m.others q n)) (has_there c q (claims q) (λ f. n (m.alone q f)) (j.has q))
    ];
    owned = λ p. elim (cases_Bool (is_at p place)) [
      | inl e ↦ subst (λ (x : ShareKey). (shares_at x new ≡ ([], [])) ⊎ ((k : ℕ) × (option_map place_of (claims' k) ≡ Some x))) (sym (place_is p place e)) (elim m.owned [ inl f ↦ inl (c.here ∙ f) | inr f ↦ inr (key, f) ])
      | inr e ↦ elim (j.owned p) [
        | inl f ↦ inl (c.others p e ∙ f)
        | inr f ↦
            let n : f.0 ≢ key = λ i. other_place p place (claims key) e m.was (ap (λ (k : ℕ). option_map place_of (claims k)) (sym i) ∙ f.1) in
            inr (f.0, ap (λ (x : Option Claim). option_map place_of x) (m.others f.0 n) ∙ f.1)
      ]
    ];
    most = subst (λ (n : ℕ). MOST_REPLY ≤ n) (sym c.most) j.most;
  }

-- ---- Of connections

abbrev pub claim_of : {S : Type 0} → Option (Connection S) → Option Claim
claim_of slot = option_and_then (λ c. c.claim) slot

pub claim_is : {S : Type 0} (slab : Slab (Connection S)) (key : ℕ) (c : Connection S) (claim : Option Claim) → get slab key ≡ Some c → c.claim ≡ claim → claim_at slab key ≡ claim
claim_is {S} slab key c claim h e = ap (λ (x : Option (Connection S)). claim_of x) h ∙ e

pub if_claim : (x : Option Claim) (claim : Claim) (P : Claim → Type 0) → x ≡ Some claim → P claim → IfSome x P
if_claim x claim P e h = subst (λ (y : Option Claim). IfSome y P) (sym e) h

if_none : (x : Option Claim) (P : Claim → Type 0) → x ≡ None → IfSome x P
if_none x P e = subst (λ (y : Option Claim). IfSome y P) (sym e) tt

module _ {S : Type 0} (slab slab' : Slab (Connection S)) (key : ℕ) (slot : Option (Connection S)) (u : Updates slab slab' key slot) where
  others_at : (q : ℕ) → q ≢ key → claim_at slab' q ≡ claim_at slab q
  others_at q n = ap (λ (x : Option (Connection S)). claim_of x) (u.others q n)

  pub now_at : (claim : Option Claim) → claim_of slot ≡ claim → claim_at slab' key ≡ claim
  now_at claim e = ap (λ (x : Option (Connection S)). claim_of x) u.changed ∙ e

  pub same_joined : (budgets : Budgets) → option_map part_of (claim_of slot) ≡ option_map part_of (claim_at slab key) → Joined (claim_at slab) budgets → Joined (claim_at slab') budgets
  same_joined budgets e = joined_alike (claim_at slab) (claim_at slab') budgets (λ q. elim (cases_Bool (q == key)) [
    | inl i ↦
        let k : q ≡ key = eqb-true q key i in
        ap (λ (x : ℕ). option_map part_of (claim_at slab' x)) k ∙ ap (λ (x : Option Claim). option_map part_of x) (now_at (claim_of slot) refl) ∙ e ∙ ap (λ (x : ℕ). option_map part_of (claim_at slab x)) (sym k)
    | inr i ↦ ap (λ (x : Option Claim). option_map part_of x) (others_at q (eqb-false q key i))
  ])

  pub released_joined : (old new : Budgets) (claim : Claim) → claim_at slab key ≡ Some claim → claim_of slot ≡ None → ChangesAt (place_of claim) ([], []) old new → Joined (claim_at slab) old → Joined (claim_at slab') new
  released_joined old new claim was f d j =
      let has : HasShare key claim old = subst (λ (x : Option Claim). IfSome x (λ claim. HasShare key claim old)) was (j.has key) in
      moved (claim_at slab) (claim_at slab') old new key (place_of claim) ([], []) d (record {
        others = others_at;
        was = if_claim (claim_at slab key) claim (λ x. place_of x ≡ place_of claim) was refl;
        alone = λ q k. alone_at q key (claim_at slab q) claim old (j.has q) has k;
        has = if_none (claim_at slab' key) (λ x. (place_of x ≡ place_of claim) × (([], []) ≡ claimed_by key x)) (now_at None f);
        owned = inl refl;
      }) j

  pub asked_joined : (old new : Budgets) (claim : Claim) → claim_at slab key ≡ None → claim_of slot ≡ Some claim → Comes key claim old new → Joined (claim_at slab) old → Joined (claim_at slab') new
  asked_joined old new claim was f d j =
      let is : claim_at slab' key ≡ Some claim = now_at (Some claim) f in
      moved (claim_at slab) (claim_at slab') old new key (place_of claim) (claimed_by key claim) d.changes (record {
        others = others_at;
        was = if_none (claim_at slab key) (λ x. place_of x ≡ place_of claim) was;
        alone = λ q k. absurd (none_at q (claim_at slab q) (place_of claim) old (j.has q) d.free k);
        has = if_claim (claim_at slab' key) claim (λ x. (place_of x ≡ place_of claim) × (claimed_by key claim ≡ claimed_by key x)) is (refl, refl);
        owned = inr (ap (λ (x : Option Claim). option_map place_of x) is);
      }) j

  -- one that is at the same place still
  pub changed_joined : (old new : Budgets) (claim claim' : Claim) (shares : List Share × List Share) → claim_at slab key ≡ Some claim → claim_of slot ≡ Some claim' → place_of claim' ≡ place_of claim → ChangesAt (place_of claim) shares old new
      → (HasShare key claim old → shares ≡ claimed_by key claim') → Joined (claim_at slab) old → Joined (claim_at slab') new
  changed_joined old new claim claim' shares was f p d s j =
      let is : claim_at slab' key ≡ Some claim' = now_at (Some claim') f in
      let has : HasShare key claim old = subst (λ (x : Option Claim). IfSome x (λ claim. HasShare key claim old)) was (j.has key) in
      moved (claim_at slab) (claim_at slab') old new key (place_of claim) shares d (record {
        others = others_at;
        was = if_claim (claim_at slab key) claim (λ x. place_of x ≡ place_of claim) was refl;
        alone = λ q k. alone_at q key (claim_at slab q) claim old (j.has q) has k;
        has = if_claim (claim_at slab' key) claim' (λ x. (place_of x ≡ place_of claim) × (shares ≡ claimed_by key x)) is (p, s has);
        owned = inr (ap (λ (x : Option Claim). option_map place_of x) is ∙ ap (λ (x : ShareKey). Some x) p);
      }) j

low_itself : (x : Share) (to : ℕ) → lowered x.ticket to x ≡ record x { bytes = min x.bytes to }
low_itself x to = ap (λ (b : Bool). if b then record x { bytes = min x.bytes to } else x) (eq-eqb x.ticket x.ticket refl)

pub granted_if : (is_granted : Bool) (x : After) → (if not is_granted then after.Kept else x) ≡ after.Written → is_granted ≡ true
granted_if true x e = refl
granted_if false x e = absurd cc

-- a share that is held is made smaller, and its claim with it
pub shrunk : (key to : ℕ) (claim : Claim) (p : List Share × List Share) → claim.is_granted ≡ true → p ≡ claimed_by key claim
    → (map (lowered claim.ticket to) p.0, p.1) ≡ claimed_by key (record claim { purpose = purpose.Written; bytes = min claim.bytes to })
shrunk key to claim p g e =
    let x : Share = record { ticket = claim.ticket; owner = key; bytes = claim.bytes } in
    let y : Share = record x { bytes = min claim.bytes to } in
    ap (λ (q : List Share × List Share). (map (lowered claim.ticket to) q.0, q.1)) (e ∙ ap (λ (b : Bool). with_share b x ([], [])) g)
    ∙ ap (λ (z : Share). with_share true z ([], [])) (low_itself x to) ∙ sym (ap (λ (b : Bool). with_share b y ([], [])) g)

-- ---- A share is granted

claimed_at : (x : Option Claim) (place : ShareKey) → option_map place_of x ≡ Some place → (claim : Claim) × (x ≡ Some claim) × (place_of claim ≡ place)
claimed_at None place e = absurd cc
claimed_at (Some c) place e = let same : place_of c ≡ place = cc in (c, refl, same)

record Waited (is_granted : Bool) (x y : Share) (left : List Share) : Type 0 where
  waits : is_granted ≡ false
  same : y ≡ x
  none : left ≡ []

waited_so : (is_granted : Bool) (x y : Share) (left : List Share) → (with_share is_granted x ([], [])).1 ≡ y ∷ left → Waited is_granted x y left
waited_so true x y left e = absurd cc
waited_so false x y left e = record { waits = refl; same = cc; none = cc }

record IsHolder (claims : ℕ → Option Claim) (share : Share) (old new : Budgets) (d : Holds share old new) : Type 0 where
  claim : Claim
  claims_so : claims share.owner ≡ Some claim
  place_so : place_of claim ≡ d.place
  waits : claim.is_granted ≡ false
  share_so : share ≡ record { ticket = claim.ticket; owner = share.owner; bytes = claim.bytes }
  none : d.left ≡ []

holder : (claims : ℕ → Option Claim) (share : Share) (old new : Budgets) (d : Holds share old new) → Joined claims old → IsHolder claims share old new d
holder claims share old new d j = elim (j.owned d.place) [
  | inl e ↦ let f : [] ≡ share ∷ d.left = sym (ap (λ (p : List Share × List Share). p.1) e) ∙ d.waited in absurd cc
  | inr f ↦
      let k = claimed_at (claims f.0) d.place f.1 in
      let has : HasShare f.0 k.0 old = subst (λ (x : Option Claim). IfSome x (λ claim. HasShare f.0 claim old)) k.1 (j.has f.0) in
      let x : Share = record { ticket = k.0.ticket; owner = f.0; bytes = k.0.bytes } in
      let w : Waited k.0.is_granted x share d.left = waited_so k.0.is_granted x share d.left (sym (ap (λ (p : List Share × List Share). p.1) (ap (λ (p : ShareKey). shares_at p old) (sym k.2) ∙ has)) ∙ d.waited) in
      let o : share.owner ≡ f.0 = ap (λ (s : Share). s.owner) w.same in
      record {
        claim = k.0;
        claims_so = ap claims o ∙ k.1;
        place_so = k.2;
        waits = w.waits;
        share_so = w.same ∙ ap (λ (n : ℕ). let z : Share = record { ticket = k.0.ticket; owner = n; bytes = k.0.bytes } in z) (sym o);
        none = w.none;
      }
]

-- it is that of a connection that is open
pub nobody_holds : {S : Type 0} (slab : Slab (Connection S)) (share : Share) (old new : Budgets) → get slab share.owner ≡ None → Holds share old new → Joined (claim_at slab) old → ⊥
nobody_holds {S} slab share old new h d j =
    let k : IsHolder (claim_at slab) share old new d = holder (claim_at slab) share old new d j in
    let f : None ≡ Some k.claim = sym (ap (λ (x : Option (Connection S)). option_and_then (λ c. c.claim) x) h) ∙ k.claims_so in absurd cc

granted_so : (ticket now : ℕ) (claim : Claim) → claim.ticket ≡ ticket → granted ticket now (Some claim) ≡ Some (record claim { is_granted = true; since = now })
granted_so ticket now claim e = ap (λ (b : Bool). if b then Some (record claim { is_granted = true; since = now }) else Some claim) (eq-eqb claim.ticket ticket e)

pub held_joined : {S : Type 0} (slab slab' : Slab (Connection S)) (share : Share) (now : ℕ) (c c' : Connection S) (old new : Budgets) → get slab share.owner ≡ Some c → Updates slab slab' share.owner (Some c') → c'.claim ≡ granted share.ticket now c.claim
    → Holds share old new → Joined (claim_at slab) old → Joined (claim_at slab') new
held_joined {S} slab slab' share now c c' old new h u e d j =
    let k : IsHolder (claim_at slab) share old new d = holder (claim_at slab) share old new d j in
    let was : c.claim ≡ Some k.claim = sym (claim_is slab share.owner c c.claim h refl) ∙ k.claims_so in
    let t : k.claim.ticket ≡ share.ticket = sym (ap (λ (s : Share). s.ticket) k.share_so) in
    let held : Claim = record k.claim { is_granted = true; since = now } in
    let x : Share = record { ticket = k.claim.ticket; owner = share.owner; bytes = k.claim.bytes } in
    changed_joined slab slab' share.owner (Some c') u old new k.claim held ((shares_at d.place old).0 ++ share ∷ [], d.left) k.claims_so
    (e ∙ ap (λ (y : Option Claim). granted share.ticket now y) was ∙ granted_so share.ticket now k.claim t) refl
    (subst (λ (p : ShareKey). ChangesAt p ((shares_at d.place old).0 ++ share ∷ [], d.left) old new) (sym k.place_so) d.changes)
    (λ has.
    let none : (shares_at d.place old).0 ≡ [] = ap (λ (p : List Share × List Share). p.0) (ap (λ (p : ShareKey). shares_at p old) (sym k.place_so) ∙ has ∙ ap (λ (b : Bool). with_share b x ([], [])) k.waits) in
    ap (λ (xs : List Share). let q : List Share × List Share = (xs ++ share ∷ [], d.left) in q) none ∙ ap (λ (ys : List Share). let q : List Share × List Share = (share ∷ [], ys) in q) k.none
    ∙ ap (λ (y : Share). let q : List Share × List Share = (y ∷ [], []) in q) k.share_so) j

-- ---- None is claimed

nobody_at : (count i : ℕ) → get_or (replicate count nobody) i nobody ≡ nobody
nobody_at zero i = refl
nobody_at (suc n) zero = refl
nobody_at (suc n) (suc i) = nobody_at n i

none_fresh : (memory : ℕ) (pool : Pool) (party ticket : ℕ) → shares_as (in_pool pool (fresh_budgets memory)) party ticket ≡ ([], [])
none_fresh memory Tenants party ticket = ap (shares_in ticket) (nobody_at 257 party)
none_fresh memory Strangers party ticket = ap (shares_in ticket) (nobody_at 1 party)

reply_fits : (limit n most : ℕ) → most ≤ limit → most ≤ limit - min (max n most) (limit - most)
reply_fits limit n most l = omega arith

pub fresh_joined : {S : Type 0} (slab : Slab (Connection S)) (memory : ℕ) → ((q : ℕ) → get slab q ≡ None) → Joined (claim_at slab) (fresh_budgets memory)
fresh_joined {S} slab memory h =
    let limit : ℕ = max (memory - LONGEST_FRAME) MOST_REPLY in
    record {
      has = λ q. if_none (claim_at slab q) (λ claim. HasShare q claim (fresh_budgets memory)) (ap (λ (x : Option (Connection S)). claim_of x) (h q));
      owned = λ p. inl (none_fresh memory p.pool p.party p.ticket);
      most = reply_fits limit (limit / 8) MOST_REPLY (omega arith);
    }
