-- What a release and a grant leave of a ticket.
use Rattle.std.proofs.Common.{◌≡◌, ◌<◌, ◌≤◌, ◌-◌, ℕ, List, [], ◌∷◌, ◌++◌, length, map, Bool, true, false, Option, Some, None, Result, Ok, Err, arith, refl, sym, ap, ◌∙◌, subst}
use Rattle.std.specs.Prelude.{MatchOption, OnOk, OnErr, ◌&&◌, if◌then◌else◌, nat_le, nat_lt, option_to_list}
use Rattle.std.proofs.lemmas.Bool.Decides.{nat_tests}
use Rattle.std.specs.declared.alloc.AllocError.{AllocError}
use Rattle.memory_budget.specs.declared.share.Share.{Share}
use Rattle.memory_budget.specs.declared.share.Grant.{Grant}
use Rattle.memory_budget.specs.declared.share.Grant.TheVariants.{Granted, Waits}
use Rattle.memory_budget.specs.States.{State, Event, Asks, Releases, Shrinks, Next, after, at_once, can_ask, grants, lowered, own, party_at, share_of}
use Rattle.memory_budget.specs.Tickets.{Grants, OthersStay, shares_as, with_share}
use Rattle.connection_turns.specs.declared.claim.Claim.{Claim}
use Rattle.connection_turns.specs.declared.claim.Need.{Need}
use Rattle.connection_turns.specs.declared.claim.Pool.{Pool}
use Rattle.connection_turns.specs.declared.claim.Pool.TheVariants.{Tenants, Strangers}
use Rattle.open_connections.specs.declared.budgets.Budgets.{Budgets}
use Rattle.open_connections.specs.Joined.{ChangesAt, ChangesIn, Comes, Holds, IsAsked, ShareKey, claim_asked, claim_by, claimed_by, within}
use Rattle.open_connections.specs.Shares.{in_pool, IsFree, StayFree, IsGivenBack}
use Rattle.open_connections.proofs.Joined.{in_strangers, in_tenants}

-- what a budget says of each release, each grant and each event
abbrev pub Gone : Type 0
Gone = (s : State) (q ticket : ℕ) → own ticket ((party_at (after s (Releases q ticket)) q).held ++ (party_at (after s (Releases q ticket)) q).waiting) ≡ []

abbrev pub Moved : Type 0
Moved = (s : State) (q : ℕ) → (party_at (after s Next) q).held ++ (party_at (after s Next) q).waiting ≡ (party_at s q).held ++ (party_at s q).waiting

abbrev pub Limits : Type 0
Limits = (s : State) (e : Event) → ((after s e).limit ≡ s.limit) × ((after s e).spare ≡ s.spare)

pub released : Gone → (q t : ℕ) (s s' : State) → s' ≡ after s (Releases q t) → IsFree q t s'
released law q t s s' e = subst (λ (x : State). IsFree q t x) (sym e) (law s q t)

pub granted : Moved → (s s' : State) → s' ≡ after s Next → (q t : ℕ) → IsFree q t s → IsFree q t s'
granted law s s' e q t f = subst (λ (x : State). IsFree q t x) (sym e) (subst (λ (xs : List Share). own t xs ≡ []) (sym (law s q)) f)

pub limited : Limits → (s s' : State) (e : Event) → s' ≡ after s e → s'.limit ≡ s.limit
limited law s s' e h = ap (λ (x : State). x.limit) h ∙ (law s e).0

pub granted_within : Limits → (s s' : State) → s' ≡ after s Next → s'.limit ≡ s.limit
granted_within law s s' h = limited law s s' Next h

pub stay : (a b : Budgets) → ((q t : ℕ) → IsFree q t a.tenants → IsFree q t b.tenants) → ((q t : ℕ) → IsFree q t a.strangers → IsFree q t b.strangers) → StayFree a b
stay a b h k Tenants q t f = h q t f
stay a b h k Strangers q t f = k q t f

pub free_then : (a b c d : Budgets) → StayFree a b → StayFree b c → d ≡ c → StayFree a d
free_then a b c d h k e pool q t f = subst (λ (x : Budgets). IsFree q t (in_pool pool x)) (sym e) (k pool q t (h pool q t f))

pub given_back : (claim : Claim) (a b : Budgets) → IsFree claim.party claim.ticket (in_pool claim.pool a) → StayFree a b → IsGivenBack (Some claim) b
given_back claim a b h k = k claim.pool claim.party claim.ticket h

pub given_same : (claim : Option Claim) (a b : Budgets) → IsGivenBack claim a → b ≡ a → IsGivenBack claim b
given_same claim a b h e = subst (λ (x : Budgets). IsGivenBack claim x) (sym e) h

pub given_alike : (claim claim' : Option Claim) (a : Budgets) → IsGivenBack claim a → claim ≡ claim' → IsGivenBack claim' a
given_alike claim claim' a h e = subst (λ (x : Option Claim). IsGivenBack x a) e h

pub given_still : (claim : Option Claim) (a b : Budgets) → IsGivenBack claim a → StayFree a b → IsGivenBack claim b
given_still None a b h k = tt
given_still (Some claim) a b h k = given_back claim a b h k

-- what is asked for changes no limit, whatever comes of it
pub asked_within : Limits → (r : Result Grant AllocError) (s s' : State) (party owner bytes : ℕ) → OnOk r (s' ≡ after s (Asks party owner bytes)) → OnErr r (s' ≡ s) → s'.limit ≡ s.limit
asked_within law (Ok answer) s s' party owner bytes h k = limited law s s' (Asks party owner bytes) h
asked_within law (Err error) s s' party owner bytes h k = ap (λ (x : State). x.limit) k

-- ---- The shares at one place

abbrev pub Asked : Type 0
Asked = (s : State) (party owner bytes : ℕ) → can_ask s party bytes ≡ true
    → OthersStay party s.next s (after s (Asks party owner bytes)) × (shares_as (after s (Asks party owner bytes)) party s.next ≡ with_share (at_once s party bytes) (share_of s owner bytes) (shares_as s party s.next))

abbrev pub Released : Type 0
Released = (s : State) (party ticket : ℕ) → OthersStay party ticket s (after s (Releases party ticket)) × (shares_as (after s (Releases party ticket)) party ticket ≡ ([], []))

abbrev pub Shrunk : Type 0
Shrunk = (s : State) (party ticket to : ℕ)
    → OthersStay party ticket s (after s (Shrinks party ticket to)) × (shares_as (after s (Shrinks party ticket to)) party ticket ≡ (map (lowered ticket to) (own ticket (party_at s party).held), own ticket (party_at s party).waiting))

abbrev pub Granting : Type 0
Granting = (s : State) (x : Share) → grants s Next ≡ x ∷ [] → Grants x s (after s Next)

abbrev pub Still : Type 0
Still = (s : State) → grants s Next ≡ [] → after s Next ≡ s

changes : Limits → (s s' : State) (e : Event) (party ticket : ℕ) (shares : List Share × List Share) → s' ≡ after s e → OthersStay party ticket s (after s e) → shares_as (after s e) party ticket ≡ shares → ChangesIn party ticket shares s s'
changes limits s s' e party ticket shares h o k = subst (λ (x : State). ChangesIn party ticket shares s x) (sym h) (record { here = k; others = o; limit = (limits s e).0; spare = (limits s e).1 })

pub released_in : Released → Limits → (party ticket : ℕ) (s s' : State) → s' ≡ after s (Releases party ticket) → ChangesIn party ticket ([], []) s s'
released_in law limits party ticket s s' h = changes limits s s' (Releases party ticket) party ticket ([], []) h (law s party ticket).0 (law s party ticket).1

pub shrunk_in : Shrunk → Limits → (party ticket to : ℕ) (s s' : State) → s' ≡ after s (Shrinks party ticket to) → ChangesIn party ticket (map (lowered ticket to) (own ticket (party_at s party).held), own ticket (party_at s party).waiting) s s'
shrunk_in law limits party ticket to s s' h = changes limits s s' (Shrinks party ticket to) party ticket (map (lowered ticket to) (own ticket (party_at s party).held), own ticket (party_at s party).waiting) h (law s party ticket to).0 (law s party ticket to).1

can_so : (bytes most party count : ℕ) → bytes ≤ most → party < count → (nat_le bytes most && nat_lt party count) ≡ true
can_so bytes most party count b p = grind (arith, nat_tests)

answered : (key : ℕ) (need : Need) (now next : ℕ) (at_once : Bool) (s s' : State) → shares_as s need.party next ≡ ([], [])
    → ChangesIn need.party next (with_share at_once (let x : Share = record { ticket = next; owner = key; bytes = need.bytes } in x) ([], [])) s s' → IsAsked key need (claim_by need (if at_once then Granted next else Waits next) now) s s'
answered key need now next true s s' f c = record { pool = refl; free = f; changes = c }
answered key need now next false s s' f c = record { pool = refl; free = f; changes = c }

pub asked_in : Asked → Limits → (key : ℕ) (need : Need) (now : ℕ) (s s' : State) → need.party < length s.parties → s' ≡ after s (Asks need.party key (within need s).bytes) → shares_as s need.party s.next ≡ ([], []) → IsAsked key need (claim_asked need now s) s s'
asked_in law limits key need now s s' p h f =
    let bytes : ℕ = (within need s).bytes in
    let l = law s need.party key bytes (can_so bytes (s.limit - s.spare) need.party (length s.parties) (omega arith) p) in
    let is : IsAsked key (within need s) (claim_asked need now s) s s' =
    answered key (within need s) now s.next (at_once s need.party bytes) s s' f
    (changes limits s s' (Asks need.party key bytes) need.party s.next (with_share (at_once s need.party bytes) (share_of s key bytes) ([], [])) h l.0
    (l.1 ∙ ap (λ (x : List Share × List Share). with_share (at_once s need.party bytes) (share_of s key bytes) x) f)) in
    record { pool = is.pool; free = is.free; changes = is.changes }

pub comes_tenants : (key : ℕ) (need : Need) (claim : Claim) (a : Budgets) (t : State) → need.pool ≡ Tenants → IsAsked key need claim a.tenants t → Comes key claim a (record a { tenants = t })
comes_tenants key need claim a t e h =
    let e' : claim.pool ≡ Tenants = h.pool ∙ e in
    record {
      free = ap (λ (p : Pool). shares_as (in_pool p a) claim.party claim.ticket) e' ∙ h.free;
      changes = subst (λ (p : Pool). let x : ShareKey = record { pool = p; party = claim.party; ticket = claim.ticket } in ChangesAt x (claimed_by key claim) a (record a { tenants = t })) (sym e') (in_tenants claim.party claim.ticket (claimed_by key claim) a t h.changes);
    }

pub comes_strangers : (key : ℕ) (need : Need) (claim : Claim) (a : Budgets) (t : State) → need.pool ≡ Strangers → IsAsked key need claim a.strangers t → Comes key claim a (record a { strangers = t })
comes_strangers key need claim a t e h =
    let e' : claim.pool ≡ Strangers = h.pool ∙ e in
    record {
      free = ap (λ (p : Pool). shares_as (in_pool p a) claim.party claim.ticket) e' ∙ h.free;
      changes = subst (λ (p : Pool). let x : ShareKey = record { pool = p; party = claim.party; ticket = claim.ticket } in ChangesAt x (claimed_by key claim) a (record a { strangers = t })) (sym e') (in_strangers claim.party claim.ticket (claimed_by key claim) a t h.changes);
    }

held_in : Granting → Limits → (x : Share) (s s' : State) (h : grants s Next ≡ x ∷ []) → s' ≡ after s Next → (party : ℕ) × (left : List Share) × ((shares_as s party x.ticket).1 ≡ x ∷ left) × ChangesIn party x.ticket ((shares_as s party x.ticket).0 ++ x ∷ [], left) s s'
held_in law limits x s s' h e =
    let g : Grants x s (after s Next) = law s x h in
    (g.party, g.left, g.waited, changes limits s s' Next g.party x.ticket (own x.ticket (party_at s g.party).held ++ x ∷ [], g.left) e g.others g.holds)

pub held_tenants : Granting → Limits → (x : Share) (a : Budgets) (t : State) → x ∷ [] ≡ grants a.tenants Next → t ≡ after a.tenants Next → Holds x a (record a { tenants = t })
held_tenants law limits x a t h e =
    let g = held_in law limits x a.tenants t (sym h) e in
    record { place = record { pool = Tenants; party = g.0; ticket = x.ticket }; left = g.1; ticket_is = refl; waited = g.2; changes = in_tenants g.0 x.ticket ((shares_as a.tenants g.0 x.ticket).0 ++ x ∷ [], g.1) a t g.3 }

held_strangers : Granting → Limits → (x : Share) (a : Budgets) (t : State) → x ∷ [] ≡ grants a.strangers Next → t ≡ after a.strangers Next → Holds x a (record a { strangers = t })
held_strangers law limits x a t h e =
    let g = held_in law limits x a.strangers t (sym h) e in
    record { place = record { pool = Strangers; party = g.0; ticket = x.ticket }; left = g.1; ticket_is = refl; waited = g.2; changes = in_strangers g.0 x.ticket ((shares_as a.strangers g.0 x.ticket).0 ++ x ∷ [], g.1) a t g.3 }

next_of : Granting → Still → Limits → (r : Option Share) (a : Budgets) (t : State) → option_to_list r ≡ grants a.strangers Next → t ≡ after a.strangers Next → MatchOption r (record a { strangers = t } ≡ a) (λ x. Holds x a (record a { strangers = t }))
next_of law still limits None a t h e = ap (λ (s : State). let z : Budgets = record a { strangers = s } in z) (e ∙ still a.strangers (sym h))
next_of law still limits (Some x) a t h e = held_strangers law limits x a t h e

-- none is granted of the tenants' budget, so that it stays what it is
pub next_strangers : Granting → Still → Limits → (r : Option Share) (a : Budgets) (s t : State) → [] ≡ grants a.tenants Next → s ≡ after a.tenants Next → option_to_list r ≡ grants a.strangers Next → t ≡ after a.strangers Next
    → MatchOption r ((let b : Budgets = record { tenants = s; strangers = t } in b) ≡ a) (λ x. Holds x a (record { tenants = s; strangers = t }))
next_strangers law still limits r a s t n m h e =
    let same : s ≡ a.tenants = m ∙ still a.tenants (sym n) in
    subst (λ (z : State). MatchOption r ((let b : Budgets = record { tenants = z; strangers = t } in b) ≡ a) (λ x. Holds x a (record { tenants = z; strangers = t }))) (sym same) (next_of law still limits r a t h e)
