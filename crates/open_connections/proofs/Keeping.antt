-- What stays so of each connection.
use Rattle.std.proofs.Common.{◌≡◌, ◌≤◌, arith, length, min, ℕ, List, Bool, true, false, Option, Some, None, Result, Ok, Err, sym, ap, ◌∙◌, refl, subst}
use Rattle.std.specs.Prelude.{◌==◌, ◌&&◌, nat_le, IfOk, IfSome, IsTrue, OnErr, is_some, if◌then◌else◌}
use Rattle.std.specs.Option.{option_and_then, option_map}
use Rattle.slab.specs.Slab.{Slab, get, with_value, Updates}
use Rattle.std.proofs.lemmas.Bool.Decides.{nat_tests}
use Rattle.memory_budget.specs.declared.share.Grant.TheVariants.{Granted, Waits}
use Rattle.memory_budget.specs.States.{State, at_once}
use Rattle.wire_frames.specs.declared.parts.TheConstants.{MOST_REPLY}
use Rattle.outbox.specs.Traffic.{Traffic}
use Rattle.connection_turns.specs.Cores.{CoreSteps, IsMost}
use Rattle.connection_turns.specs.Held.{covers_in}
use Rattle.connection_turns.specs.declared.ahead.Ahead.{Ahead}
use Rattle.connection_turns.specs.Planning.{granted}
use Rattle.connection_turns.specs.declared.claim.Need.{Need}
use Rattle.connection_turns.specs.declared.claim.Pool.{Pool}
use Rattle.connection_turns.specs.declared.claim.Purpose.{Purpose}
use Rattle.connection_turns.specs.declared.claim.Purpose.TheVariants as purpose
use Rattle.open_connections.specs.Joined.{claim_asked, claim_by, most_in, within}
use Rattle.open_connections.specs.Shares.{claim_at, in_pool, is_covered}
use Rattle.open_connections.specs.declared.budgets.Budgets.{Budgets}
use Rattle.connection_turns.specs.declared.claim.Claim.{Claim}
use Rattle.connection_turns.specs.declared.connection.Connection.{Connection}
use Rattle.outbox.specs.declared.readiness.Readiness.{Readiness}
use Rattle.connection_turns.specs.declared.connection.Phase.{Phase}
use Rattle.open_connections.specs.declared.open.Open.{Open}
use Rattle.open_connections.specs.Looping.{PassedBy}
use Rattle.open_connections.specs.Opened.{is_open_at, lanes_of}
use Rattle.open_connections.specs.Turns.{AreCovered, IsForReply, IsShort, Keep, OthersStand, StatesStay, asked_by, is_held_in, is_queued_in, number_at, standing_of}
use Rattle.open_connections.proofs.Steps.{everywhere, written}

pub keep_same : {S A : Type 0} (of : Connection S → A) (slab : Slab (Connection S)) → Keep of slab slab
keep_same of slab = record { at = λ q. refl }

pub keep_then : {S A : Type 0} (of : Connection S → A) (a b c : Slab (Connection S)) → Keep of a b → Keep of b c → Keep of a c
keep_then of a b c h k = record { at = λ q. k.at q ∙ h.at q }

pub keep_at : {S A : Type 0} (of : Connection S → A) (slab : Slab (Connection S)) (key : ℕ) (c c' : Connection S) → get slab key ≡ Some c → of c' ≡ of c → Keep of slab (with_value slab key c')
keep_at {S} {A} of slab key c c' h e =
    let slab' : Slab (Connection S) = with_value slab key c' in
    let u : Updates slab slab' key (Some c') = written slab key c c' h in
    let look : Option (Connection S) → Option A = option_map of in
    record {
      at = everywhere key (λ q. look (get slab' q)) (λ q. look (get slab q)) (ap look u.changed ∙ ap (λ (x : A). Some x) e ∙ sym (ap look h)) (λ q n. ap look (u.others q n));
    }

pub alike : {A B C : Type 0} {a a' : A} {b b' : B} {c c' : C} → a' ≡ a → b' ≡ b → c' ≡ c → ◌≡◌ {A = A × B × C} (a', b', c') (a, b, c)
alike e f g = cc

-- a grant leaves what is asked for
picked_alike : (b : Bool) (x y : Claim) → asked_by x ≡ asked_by y → option_map asked_by (if b then Some x else Some y) ≡ Some (asked_by y)
picked_alike true x y e = ap (λ (z : Claim). Some z) e
picked_alike false x y e = refl

pub granted_alike : (ticket now : ℕ) (claim claim' : Option Claim) → claim' ≡ granted ticket now claim → option_map asked_by claim' ≡ option_map asked_by claim
granted_alike ticket now claim claim' e = ap (λ (x : Option Claim). option_map asked_by x) e ∙ alike_so claim
  where
    alike_so : (claim : Option Claim) → option_map asked_by (granted ticket now claim) ≡ option_map asked_by claim
    alike_so None = refl
    alike_so (Some claim) = picked_alike (claim.ticket == ticket) (record claim { is_granted = true; since = now }) claim refl

pub some_still : {S : Type 0} (slot slot' : Option (Connection S)) → option_map (λ c. option_map asked_by c.claim) slot' ≡ option_map (λ c. option_map asked_by c.claim) slot → option_map (λ c. is_some c.claim) slot ≡ Some true → option_map (λ c. is_some c.claim) slot' ≡ Some true
some_still None slot' e h = absurd cc
some_still (Some c) None e h = absurd cc
some_still (Some c) (Some d) e h =
    let same : option_map asked_by d.claim ≡ option_map asked_by c.claim = cc in
    let was : is_some c.claim ≡ true = cc in
    ap (λ (x : Bool). Some x) (as_some d.claim c.claim same was)
  where
    as_some : (x y : Option Claim) → option_map asked_by x ≡ option_map asked_by y → is_some y ≡ true → is_some x ≡ true
    as_some (Some x) y e h = refl
    as_some None None e h = h
    as_some None (Some y) e h = absurd cc

-- ---- What a claim covers

pub claims_at : {S : Type 0} (slot slot' : Option (Connection S)) → option_map (λ c. option_map asked_by c.claim) slot' ≡ option_map (λ c. option_map asked_by c.claim) slot
    → option_map asked_by (option_and_then (λ c. c.claim) slot') ≡ option_map asked_by (option_and_then (λ c. c.claim) slot)
claims_at None None e = refl
claims_at None (Some c) e = absurd cc
claims_at (Some c) None e = absurd cc
claims_at (Some c) (Some d) e = cc

pub held_covers : (x y : Option Claim) (reply : ℕ) → option_map asked_by x ≡ option_map asked_by y → is_held_in x ≡ true → IfSome y (λ claim. covers_in claim.purpose claim.bytes reply ≡ true) → is_covered x reply ≡ true
held_covers None y reply e h k = absurd cc
held_covers (Some c) None reply e h k = absurd cc
held_covers (Some c) (Some d) reply e h k =
    let same : asked_by c ≡ asked_by d = cc in
    let covers : covers_in c.purpose c.bytes reply ≡ true = ap (λ (z : Claim). covers_in z.purpose z.bytes reply) same ∙ k in
    ap (λ (b : Bool). b && covers_in c.purpose c.bytes reply) h ∙ covers

shorter_fits : (reply most bytes : ℕ) → reply ≤ most → nat_le most bytes ≡ true → nat_le reply bytes ≡ true
shorter_fits reply most bytes l e = grind (arith, nat_tests)

shorter_covers : (purpose : Purpose) (bytes reply most : ℕ) → reply ≤ most → covers_in purpose bytes most ≡ true → covers_in purpose bytes reply ≡ true
shorter_covers purpose.Frame bytes reply most l e = refl
shorter_covers purpose.Reply bytes reply most l e = shorter_fits reply most bytes l e
shorter_covers purpose.Written bytes reply most l e = e

-- what covers a reply covers a shorter one
pub shorter_covered : (claim : Option Claim) (reply most : ℕ) → reply ≤ most → is_covered claim most ≡ true → is_covered claim reply ≡ true
shorter_covered None reply most l e = shorter_fits reply most 16384 l e
shorter_covered (Some claim) reply most l e = both claim.is_granted (covers_in claim.purpose claim.bytes most) (covers_in claim.purpose claim.bytes reply) (shorter_covers claim.purpose claim.bytes reply most l) e
  where
    both : (g x y : Bool) → (x ≡ true → y ≡ true) → (g && x) ≡ true → (g && y) ≡ true
    both true x y f e = f e
    both false x y f e = absurd cc

pub for_reply : (need asked : Need) → need ≡ asked → IsForReply asked → IsForReply need
for_reply need asked e h = rw e h

asked_fits : (reply limit : ℕ) → reply ≤ limit → nat_le reply (min reply limit) ≡ true
asked_fits reply limit l = grind (arith, nat_tests)

-- the claim of one that asks for a reply
pub asked_covers : (need : Need) (now : ℕ) (budgets : Budgets) (claim : Claim) → MOST_REPLY ≤ most_in budgets → IsForReply need → claim ≡ claim_asked need now (in_pool need.pool budgets) → covers_in claim.purpose claim.bytes need.bytes ≡ true
asked_covers need now budgets claim l (t, r, f) e =
    let s : State = budgets.tenants in
    let same : claim ≡ claim_asked need now s = e ∙ ap (λ (p : Pool). claim_asked need now (in_pool p budgets)) t in
    ap (λ (z : Claim). covers_in z.purpose z.bytes need.bytes) same ∙ by_answer (at_once s need.party (within need s).bytes)
    ∙ ap (λ (p : Purpose). covers_in p (within need s).bytes need.bytes) r ∙ asked_fits need.bytes (most_in budgets) (omega (arith, f, l))
  where
    by_answer : (b : Bool) → covers_in (claim_by (within need budgets.tenants) (if b then Granted budgets.tenants.next else Waits budgets.tenants.next) now).purpose (claim_by (within need budgets.tenants) (if b then Granted budgets.tenants.next else Waits budgets.tenants.next) now).bytes need.bytes
        ≡ covers_in need.purpose (within need budgets.tenants).bytes need.bytes
    by_answer true = refl
    by_answer false = refl

-- ---- Replies that are covered

-- of a core that is another's inside, at a connection by its key
pub most_at : {C : Type 0} (answers : ℕ → C → List ℕ → C → Type 0) (conn key : ℕ) (inner core : C) (most : ℕ) → conn ≡ key → inner ≡ core → IsMost (answers conn) inner most → IsMost (answers key) core most
most_at answers conn key inner core most n e h = rw (sym n, sym e) h

-- what is in front there, which is not covered
pub short_at : {S C T : Type 0} (s : CoreSteps C) (conn key : ℕ) (inner : C) (o : Open S C T) (ahead : Ahead) → conn ≡ key → inner ≡ o.core → s.aheads conn inner ahead → is_covered (claim_at o.connections key) ahead.most_reply ≡ false → IsShort s key o
short_at s conn key inner o ahead n e h k = (ahead, subst (λ (m : ℕ). s.aheads m o.core ahead) n (subst (λ core. s.aheads conn core ahead) e h), k)

pub short_from : {S C T : Type 0} (s : CoreSteps C) (key : ℕ) (a b : Open S C T) → b.core ≡ a.core → claim_at b.connections key ≡ claim_at a.connections key → IsShort s key b → IsShort s key a
short_from s key a b e f (ahead, h, k) = (ahead, subst (λ core. s.aheads key core ahead) e h, subst (λ (x : Option Claim). is_covered x ahead.most_reply ≡ false) f k)

-- from where nothing changed, and where its share stays
pub covered_from : {S C T : Type 0} (s : CoreSteps C) (told : S → Option Traffic) (key : ℕ) (a b c : Open S C T) → PassedBy key (lanes_of s told a) (lanes_of s told b) → AreCovered s key b c → AreCovered s key a c
covered_from {S} {C} s told key a b c h k = λ j reply core x. k (h.others.joined j) reply core (subst (λ (z : s.Seen). s.answers key z reply core) (sym h.core_stays) x)

pub covered_then : {S C T : Type 0} (s : CoreSteps C) (key : ℕ) (a b c : Open S C T) → claim_at c.connections key ≡ claim_at b.connections key → AreCovered s key a b → AreCovered s key a c
covered_then s key a b c e k = λ j reply core x. subst (λ (z : Option Claim). is_covered z (length reply) ≡ true) (sym e) (k j reply core x)

pub claim_kept : {S : Type 0} (slab : Slab (Connection S)) (key : ℕ) (c c' : Connection S) → get slab key ≡ Some c → c'.claim ≡ c.claim → claim_at (with_value slab key c') key ≡ claim_at slab key
claim_kept {S} slab key c c' h e =
    let at : Option (Connection S) → Option Claim = option_and_then (λ c. c.claim) in
    ap at (written slab key c c' h).changed ∙ e ∙ sym (ap at h)

-- a share that is not held is waited for
pub queued_so : {S : Type 0} (slot : Option (Connection S)) → option_map (λ c. is_some c.claim) slot ≡ Some true
    → (IsTrue (is_some (option_and_then (λ c. c.claim) slot)) → IsTrue (is_queued_in (option_and_then (λ c. c.claim) slot))) → option_map (λ c. is_queued_in c.claim) slot ≡ Some true
queued_so None e h = absurd cc
queued_so (Some c) e h = let some : is_some c.claim ≡ true = cc in ap (λ (x : Bool). Some x) (h some)

-- one that is there still was there
pub there_still : {S A : Type 0} (of : Connection S → A) (P : Type 0) (slot slot' : Option (Connection S)) → option_map of slot' ≡ option_map of slot → IfSome slot' (λ _. P) → IfSome slot (λ _. P)
there_still of P None slot' e h = tt
there_still of P (Some c) None e h = absurd cc
there_still of P (Some c) (Some c') e h = h

pub some_map : {A : Type 0} (P Q : Type 0) (slot : Option A) → (P → Q) → IfSome slot (λ _. P) → IfSome slot (λ _. Q)
some_map P Q None f h = tt
some_map P Q (Some x) f h = f h

-- a result that is handed on
pub ok_map : {A E : Type 0} (P Q : A → Type 0) (r : Result A E) → ((x : A) → P x → Q x) → IfOk r P → IfOk r Q
ok_map P Q (Ok x) f h = f x h
ok_map P Q (Err e) f h = tt

pub err_map : {A E : Type 0} (P Q : Type 0) (r : Result A E) → (P → Q) → OnErr r P → OnErr r Q
err_map P Q (Ok x) f h = tt
err_map P Q (Err e) f h = f h

pub err_always : {A E : Type 0} (P : Type 0) (r : Result A E) → P → OnErr r P
err_always P (Ok x) h = tt
err_always P (Err e) h = h

pub ok_always : {A E : Type 0} (P : A → Type 0) (r : Result A E) → ((x : A) → P x) → IfOk r P
ok_always P (Ok x) h = h x
ok_always P (Err e) h = tt

-- one is open just if it was, if all stay what they are
pub open_alike : {S C T : Type 0} (key : ℕ) (a b : Open S C T) → StatesStay a b → is_open_at key b ≡ is_open_at key a
open_alike {S} key a b h = still (get a.connections key) (get b.connections key) (h.at key)
  where
    still : (slot slot' : Option (Connection S)) → option_map standing_of slot' ≡ option_map standing_of slot → is_some slot' ≡ is_some slot
    still None None e = refl
    still None (Some c) e = absurd cc
    still (Some c) None e = absurd cc
    still (Some c) (Some d) e = refl

-- ---- What becomes of the others

pub others_stand : {S C T : Type 0} (key : ℕ) (a b : Open S C T) → StatesStay a b → OthersStand key a b
others_stand {S} key a b h = record { stand = λ q n. h.at q; none_comes = same_number (get a.connections key) (get b.connections key) (h.at key) }
  where
    same_number : (slot slot' : Option (Connection S)) → option_map standing_of slot' ≡ option_map standing_of slot → IfSome slot' (λ c. option_map (λ c. c.number) slot ≡ Some c.number)
    same_number None None e = tt
    same_number None (Some d) e = absurd cc
    same_number (Some c) None e = tt
    same_number (Some c) (Some d) e = let same : standing_of d ≡ standing_of c = cc in ap (λ (x : ℕ × Phase × Readiness). Some x.0) (sym same)

pub others_then : {S C T : Type 0} (key : ℕ) (a b c : Open S C T) → OthersStand key a b → OthersStand key b c → OthersStand key a c
others_then {S} key a b c h k = record { stand = λ q n. k.stand q n ∙ h.stand q n; none_comes = same_still (get b.connections key) (get c.connections key) h.none_comes k.none_comes }
  where
    same_still : (slot slot' : Option (Connection S)) → IfSome slot (λ x. number_at a.connections key ≡ Some x.number) → IfSome slot' (λ x. option_map (λ c. c.number) slot ≡ Some x.number) → IfSome slot' (λ x. number_at a.connections key ≡ Some x.number)
    same_still slot None f g = tt
    same_still None (Some y) f g = absurd cc
    same_still (Some x) (Some y) f g = f ∙ g

-- one is changed, or gone
pub one_changes : {S C T : Type 0} (key : ℕ) (a b : Open S C T) (slot : Option (Connection S)) → Updates a.connections b.connections key slot → IfSome slot (λ c. number_at a.connections key ≡ Some c.number) → OthersStand key a b
one_changes {S} key a b slot u h = record {
  stand = λ q n. ap (λ (x : Option (Connection S)). option_map standing_of x) (u.others q n);
  none_comes = subst (λ (x : Option (Connection S)). IfSome x (λ c. number_at a.connections key ≡ Some c.number)) (sym u.changed) h;
}
