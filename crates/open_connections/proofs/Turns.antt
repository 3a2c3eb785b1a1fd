-- What a turn at one connection comes to.
use Rattle.std.proofs.Common.{refl, ◌≡◌, ◌<◌, ◌^◌, ℕ, List, Bool, true, false, Option, Some, None, Result, Ok, Err, sym, ap, ◌∙◌, subst, inl, inr}
use Rattle.std.specs.Prelude.{IfSome, IsFalse, IsTrue, length, ◌&&◌}
use Rattle.std.specs.Option.{option_map, option_map_or}
use Rattle.slab.specs.Slab.{Slab, get, Updates}
use Rattle.outbox.specs.Appends.{KeepsWork, OthersKeep}
use Rattle.outbox.specs.Lines.{Event, is_over, read, sent}
use Rattle.outbox.specs.Traffic.{Traffic, IsReadOn, moved}
use Rattle.outbox.specs.Turns.{Advances, DoesAll, can_answer, here}
use Rattle.outbox.specs.declared.readiness.Readiness.{Readiness}
use Rattle.connection_turns.specs.Owed.{is_lost, line_in, line_of, wire_of}
use Rattle.connection_turns.specs.Planning.{can_go_by, ends, plan_of}
use Rattle.connection_turns.specs.Turning.{Adds, AdvancesAt, DrainsOn, Progresses, is_answering, moment_of}
use Rattle.connection_turns.specs.declared.claim.Claim.{Claim}
use Rattle.connection_turns.specs.declared.connection.Connection.{Connection}
use Rattle.connection_turns.specs.declared.connection.Outcome.{Outcome}
use Rattle.connection_turns.specs.declared.connection.Phase.{Phase}
use Rattle.connection_turns.specs.declared.connection.Phase.TheVariants.{Served, Lingering}
use Rattle.connection_turns.specs.declared.connection.TurnPlan.{TurnPlan}
use Rattle.connection_turns.specs.declared.connection.TurnPlan.TheVariants.{Answer}
use Rattle.open_connections.specs.declared.budgets.Budgets.{Budgets}
use Rattle.open_connections.specs.declared.open.Open.{Open}
use Rattle.connection_turns.specs.Cores.{CoreSteps}
use Rattle.open_connections.specs.Looping.{CountsMoved, Does, Drained, HasTurn, PassedBy}
use Rattle.open_connections.specs.Opened.{bytes_of, lanes_of, wires_in}
use Rattle.open_connections.specs.Joined.{Joined}
use Rattle.open_connections.specs.Shares.{claim_at, limits_in}
use Rattle.open_connections.specs.Turns.{AreCovered, DrainsAt, GetsTurn, GetsTurnIn, HasTurnBy, HasTurnIn, IsLeft, IsShort, Prepares, StatesStay, TurnsBy, has_room, plan_at, plan_in, standing_of}
use Rattle.open_connections.proofs.Joined.{claim_is, part_of, same_joined}
use Rattle.open_connections.proofs.Looping.{before_drain, before_turn}
use Rattle.open_connections.proofs.Steps.{does_all, lanes, line_at, others_stay, wire_at}

-- the turn of one that is served, as a step has it
pub turn_lanes : {S C : Type 0} (s : CoreSteps C) (told : S → Option Traffic) (can : Bool) (budgets budgets' : Budgets) (bytes bytes' : ℕ × ℕ) (core core' : C) (slab slab' : Slab (Connection S)) (key conn : ℕ) (c c' : Connection S) (takes answers : s.Seen → List ℕ → s.Seen → Type 0)
    → ((old : s.Seen) (piece : List ℕ) (new : s.Seen) → takes old piece new → s.takes conn old piece new) → ((old : s.Seen) (reply : List ℕ) (new : s.Seen) → answers old reply new → s.answers conn old reply new)
    → conn ≡ key → get slab key ≡ Some c → Updates slab slab' key (Some c') → budgets' ≡ budgets → c'.claim ≡ c.claim → c.phase ≡ Served → c'.phase ≡ c.phase
    → OthersKeep s.left conn core core' → Progresses takes answers (s.idle conn) can (moment_of told (s.seen core) (s.left conn core) c) (moment_of told (s.seen core') (s.left conn core') c') → CountsMoved (wire_of told c) (wire_of told c') bytes bytes' → Does s (HasTurn key) (lanes s told budgets bytes core slab) (lanes s told budgets' bytes' core' slab')
turn_lanes {S} {C} s told can budgets budgets' bytes bytes' core core' slab slab' key conn c c' takes answers t a n h u l q p k o d w =
    let es : List Event = d.turn.events in
    let was : line_of c ≡ Some c.outbox = ap (λ (x : Phase). line_in x c.outbox) p in
    let is : line_of c' ≡ Some c'.outbox = ap (λ (x : Phase). line_in x c'.outbox) (k ∙ p) in
    let others = others_stay s told budgets bytes bytes' core core' slab slab' key (Some c') u (λ r e. o r (λ i. e (i ∙ n))) (same_joined slab slab' key (Some c') u budgets (ap (λ (x : Option Claim). option_map part_of x) (q ∙ sym (claim_is slab key c c.claim h refl)))) in
    record {
      line = c.outbox;
      line' = c'.outbox;
      was = line_at (get slab key) (Some c) h ∙ was;
      is = line_at (get slab' key) (Some c') u.changed ∙ is;
      takes_turn = record {
        events = es;
        line_is = d.turn.line_is;
        wire_is = wire_at told (get slab' key) (Some c') u.changed ∙ d.turn.wire_is ∙ ap (λ (x : Option Traffic). moved (read c.outbox es) (sent c.outbox es) x) (sym (wire_at told (get slab key) (Some c) h));
        core_is = subst (λ (m : ℕ). DoesAll (s.takes m) (s.answers m) c.outbox es (s.seen core) (s.seen core')) n (does_all s conn takes answers t a c.outbox es (s.seen core) (s.seen core') d.turn.core_is);
      };
      counts = subst (λ (x : Option Traffic). CountsMoved x (wires_in told slab' key) bytes bytes') (sym (wire_at told (get slab key) (Some c) h)) (subst (λ (x : Option Traffic). CountsMoved (wire_of told c) x bytes bytes') (sym (wire_at told (get slab' key) (Some c') u.changed)) w);
      others = record { lines_stay = others.lines_stay; wires_stay = others.wires_stay; tasks_stay = others.tasks_stay; limits_stay = ap limits_in l; joined = subst (λ (b : Budgets). Joined (claim_at slab) budgets → Joined (claim_at slab') b) (sym l) others.joined };
    }

-- one that is served has its turn by a plan
pub turned_by : {S C T : Type 0} (s : CoreSteps C) (told : S → Option Traffic) (plan : TurnPlan) (is_held : Bool) (key conn : ℕ) (result : Outcome) (o o' : Open S C T) (c c' : Connection S) (takes answers : s.Seen → List ℕ → s.Seen → Type 0)
    → ((old : s.Seen) (piece : List ℕ) (new : s.Seen) → takes old piece new → s.takes conn old piece new) → ((old : s.Seen) (reply : List ℕ) (new : s.Seen) → answers old reply new → s.answers conn old reply new)
    → conn ≡ key → get o.connections key ≡ Some c → Updates o.connections o'.connections key (Some c') → o'.budgets ≡ o.budgets → c'.claim ≡ c.claim → c.phase ≡ Served → c'.phase ≡ c.phase
    → OthersKeep s.left conn o.core o'.core → Progresses takes answers (s.idle conn) (can_go_by plan c.ready c.outbox) (moment_of told (s.seen o.core) (s.left conn o.core) c) (moment_of told (s.seen o'.core) (s.left conn o'.core) c') → CountsMoved (wire_of told c) (wire_of told c') (bytes_of o) (bytes_of o') → ends result ≡ is_over c'.outbox → Adds plan (s.answers key) (s.seen o.core) (length c.outbox.owed) (length c'.outbox.owed) → (is_held ≡ false → IsTrue (is_answering plan) → can_answer c.ready c.outbox ≡ true → AdvancesAt s told conn o.core o'.core c c') → TurnsBy s told plan is_held key c.ready result o o'
unfolding turn_lanes
turned_by {S} s told plan is_held key conn result o o' c c' takes answers t a n h u l q p k z d w e f v =
    record {
      turn = turn_lanes s told (can_go_by plan c.ready c.outbox) o.budgets o'.budgets (bytes_of o) (bytes_of o') o.core o'.core o.connections o'.connections key conn c c' takes answers t a n h u l q p k z d w;
      ready' = c'.ready;
      is_ready = ap (λ (x : Option (Connection S)). option_map {U = Phase × Readiness} (λ c. (c.phase, c.ready)) x) u.changed ∙ ap (λ (x : Phase). Some (x, c'.ready)) (k ∙ p);
      goes_on = d.goes_on;
      rises = d.rises;
      noted = subst (λ (m : ℕ). (c.ready.waiting ≡ false → s.idle m (s.seen o.core)) → c'.ready.waiting ≡ false → s.idle m (s.seen o'.core)) n d.told;
      over = e;
      adds = f;
      works = λ x. subst (λ (m : ℕ). KeepsWork (s.left m o.core) (s.left m o'.core)) n (d.works x);
      advances = λ x y i. subst (λ (m : ℕ). AdvancesAt s told m o.core o'.core c c') n (v x y i);
    }

-- one that lingers is read, as a step has it
pub drain_lanes : {S C : Type 0} (s : CoreSteps C) (told : S → Option Traffic) (budgets budgets' : Budgets) (bytes bytes' : ℕ × ℕ) (core core' : C) (slab slab' : Slab (Connection S)) (key : ℕ) (c c' : Connection S)
    → get slab key ≡ Some c → Updates slab slab' key (Some c') → budgets' ≡ budgets → c'.claim ≡ c.claim → core' ≡ core → bytes' ≡ bytes → c.phase ≡ Lingering → line_of c' ≡ line_of c → IsReadOn (wire_of told c) (wire_of told c')
    → Does s (Drained key) (lanes s told budgets bytes core slab) (lanes s told budgets' bytes' core' slab')
drain_lanes {S} {C} s told budgets budgets' bytes bytes' core core' slab slab' key c c' h u l q m b p e r =
    let none : line_of c ≡ None = ap (λ (x : Phase). line_in x c.outbox) p in
    let others = others_stay s told budgets bytes bytes' core core' slab slab' key (Some c') u (λ r e. ap (s.left r) m) (same_joined slab slab' key (Some c') u budgets (ap (λ (x : Option Claim). option_map part_of x) (q ∙ sym (claim_is slab key c c.claim h refl)))) in
    record {
      core_stays = ap s.seen m;
      was_gone = line_at (get slab key) (Some c) h ∙ none;
      is_gone = line_at (get slab' key) (Some c') u.changed ∙ e ∙ none;
      reads_on = subst (λ (x : Option Traffic). IsReadOn x (wires_in told slab' key)) (sym (wire_at told (get slab key) (Some c) h)) (subst (λ (x : Option Traffic). IsReadOn (wire_of told c) x) (sym (wire_at told (get slab' key) (Some c') u.changed)) r);
      others = record { lines_stay = others.lines_stay; wires_stay = others.wires_stay; tasks_stay = others.tasks_stay; limits_stay = ap limits_in l; joined = subst (λ (b : Budgets). Joined (claim_at slab) budgets → Joined (claim_at slab') b) (sym l) others.joined };
      bytes_stay = b;
    }

-- one that lingers is read
pub drained_by : {S C T : Type 0} (s : CoreSteps C) (told : S → Option Traffic) (key : ℕ) (result : Outcome) (o o' : Open S C T) (c c' : Connection S)
    → get o.connections key ≡ Some c → Updates o.connections o'.connections key (Some c') → o'.budgets ≡ o.budgets → c'.claim ≡ c.claim → o'.core ≡ o.core → bytes_of o' ≡ bytes_of o → c.phase ≡ Lingering → c'.phase ≡ c.phase
    → line_of c' ≡ line_of c → IsReadOn (wire_of told c) (wire_of told c') → DrainsOn (wire_of told c) (wire_of told c') c'.ready result → DrainsAt s told key result o o'
drained_by {S} s told key result o o' c c' h u l q m b p k e r d =
    let from : wires_in told o.connections key ≡ wire_of told c = wire_at told (get o.connections key) (Some c) h in
    let to : wires_in told o'.connections key ≡ wire_of told c' = wire_at told (get o'.connections key) (Some c') u.changed in
    record {
      drained = drain_lanes s told o.budgets o'.budgets (bytes_of o) (bytes_of o') o.core o'.core o.connections o'.connections key c c' h u l q m b p e r;
      ready' = c'.ready;
      is_ready = ap (λ (x : Option (Connection S)). option_map {U = Phase × Readiness} (λ c. (c.phase, c.ready)) x) u.changed ∙ ap (λ (x : Phase). Some (x, c'.ready)) (k ∙ p);
      goes_on = subst (λ (x : Option Traffic). DrainsOn x (wires_in told o'.connections key) c'.ready result) (sym from) (subst (λ (x : Option Traffic). DrainsOn (wire_of told c) x c'.ready result) (sym to) d);
    }

-- a turn from where nothing changed
then_turned : {S C T : Type 0} (s : CoreSteps C) (told : S → Option Traffic) (plan : TurnPlan) (is_held : Bool) (key : ℕ) (ready : Readiness) (result : Outcome) (a b c : Open S C T)
    → PassedBy key (lanes_of s told a) (lanes_of s told b) → b.core ≡ a.core → (IsTrue (is_answering plan) → is_held ≡ false) → TurnsBy s told plan is_held key ready result b c → TurnsBy s told plan false key ready result a c
unfolding before_turn
then_turned {S} {C} s told plan is_held key ready result a b c h e v d =
    record {
      turn = before_turn s key (lanes_of s told a) (lanes_of s told b) (lanes_of s told c) h d.turn;
      ready' = d.ready';
      is_ready = d.is_ready;
      goes_on = d.goes_on;
      rises = d.rises;
      noted = subst (λ (m : C). (ready.waiting ≡ false → s.idle key (s.seen m)) → d.ready'.waiting ≡ false → s.idle key (s.seen c.core)) e d.noted;
      over = d.over;
      adds = subst (λ (x : s.Seen). Adds plan (s.answers key) x (length d.turn.line.owed) (length d.turn.line'.owed)) h.core_stays d.adds;
      works = λ x. subst (λ (m : C). KeepsWork (s.left key m) (s.left key c.core)) e (d.works x);
      advances = λ x y i. subst (λ (m : C). Advances (s.takes key) (s.answers key) (here d.turn.line None (s.seen m) (s.left key m) ready) (here d.turn.line' None (s.seen c.core) (s.left key c.core) d.ready')) e (d.advances (v y) y i);
    }

then_drained : {S C T : Type 0} (s : CoreSteps C) (told : S → Option Traffic) (key : ℕ) (result : Outcome) (a b c : Open S C T)
    → PassedBy key (lanes_of s told a) (lanes_of s told b) → DrainsAt s told key result b c → DrainsAt s told key result a c
then_drained s told key result a b c h d = record {
  drained = before_drain s key (lanes_of s told a) (lanes_of s told b) (lanes_of s told c) h d.drained;
  ready' = d.ready';
  is_ready = d.is_ready;
  goes_on = subst (λ (x : Option Traffic). DrainsOn x ((lanes_of s told c).wires key) d.ready' result) h.wire_stays d.goes_on;
}

-- what was prepared is done
done_in : {S C T : Type 0} (phase : Phase) (s : CoreSteps C) (told : S → Option Traffic) (waits : ℕ → C → Bool) (plan next : TurnPlan) (is_held : Bool) (key : ℕ) (ready : Readiness) (result : Outcome) (a b c : Open S C T)
    → PassedBy key (lanes_of s told a) (lanes_of s told b) → b.core ≡ a.core → (IsTrue (is_answering next) → is_held ≡ false) → Prepares waits key (plan_in phase plan) (Ok next) a b → (next ≡ Answer → AreCovered s key a c) → HasTurnIn phase s told next is_held key ready result b c → GetsTurnIn phase s told waits (plan_in phase plan) key ready result a c
done_in {S} {C} {T} Served s told waits plan next is_held key ready result a b c h o f p v d =
    let t : TurnsBy s told next false key ready result a c = then_turned s told next is_held key ready result a b c h o f d in
    elim p [
      | inl e ↦ inl (subst (λ (x : TurnPlan). TurnsBy s told x false key ready result a c) e t, λ k. v (e ∙ k))
      | inr k ↦ inr (inl (k.1, subst (λ (x : TurnPlan). TurnsBy s told x false key ready result a c) k.0 t))
    ]
done_in Lingering s told waits plan next is_held key ready result a b c h o f p v d = then_drained s told key result a b c h d

left_in : {S C T : Type 0} (phase : Phase) (s : CoreSteps C) (told : S → Option Traffic) (waits : ℕ → C → Bool) (plan : TurnPlan) (key : ℕ) (ready : Readiness) (result : Outcome) (a c : Open S C T)
    → IsLeft s told key a c → StatesStay a c → Prepares waits key (plan_in phase plan) (Err result) a c → IsShort s key a → GetsTurnIn phase s told waits (plan_in phase plan) key ready result a c
left_in Served s told waits plan key ready result a c h k p i = inr (inr (h, k, p, i))
left_in Lingering s told waits plan key ready result a c h k p i = let f : false ≡ true = ap is_answering p.0 in absurd cc

pub done_at : {S C T : Type 0} (s : CoreSteps C) (told : S → Option Traffic) (waits : ℕ → C → Bool) (next : TurnPlan) (is_held : Bool) (key : ℕ) (result : Outcome) (a b c : Open S C T) (slot slot' : Option (Connection S))
    → PassedBy key (lanes_of s told a) (lanes_of s told b) → b.core ≡ a.core → (IsTrue (is_answering next) → key < 2 ^ 32 → IfSome slot (λ _. is_held ≡ false)) → option_map standing_of slot' ≡ option_map standing_of slot
    → IfSome slot (λ x. key < 2 ^ 32 → Prepares waits key (plan_at x a) (Ok next) a b) → (next ≡ Answer → AreCovered s key a c) → IfSome slot' (λ x. key < 2 ^ 32 → HasTurnBy s told next is_held key x result b c)
    → IfSome slot (λ x. key < 2 ^ 32 → IsFalse (is_lost x) → GetsTurn s told waits key x result a c)
done_at s told waits next is_held key result a b c None slot' h o f e p v d = tt
done_at s told waits next is_held key result a b c (Some x) None h o f e p v d = absurd cc
done_at {S} {C} {T} s told waits next is_held key result a b c (Some x) (Some y) h o f e p v d = λ k l.
    let same : standing_of y ≡ standing_of x = cc in
    done_in x.phase s told waits (plan_of (has_room a.budgets) x) next is_held key x.ready result a b c h o (λ y. f y k) (p k) v (subst (λ (z : ℕ × Phase × Readiness). HasTurnIn z.1 s told next is_held key z.2 result b c) same (d k))

pub left_at : {S C T : Type 0} (s : CoreSteps C) (told : S → Option Traffic) (waits : ℕ → C → Bool) (key : ℕ) (result : Outcome) (a c : Open S C T) (slot : Option (Connection S)) → IsLeft s told key a c → StatesStay a c
    → IfSome slot (λ x. key < 2 ^ 32 → Prepares waits key (plan_at x a) (Err result) a c) → (key < 2 ^ 32 → IfSome slot (λ _. IsShort s key a)) → IfSome slot (λ x. key < 2 ^ 32 → IsFalse (is_lost x) → GetsTurn s told waits key x result a c)
left_at s told waits key result a c None h t p i = tt
left_at s told waits key result a c (Some x) h t p i = λ k l. left_in x.phase s told waits (plan_of (has_room a.budgets) x) key x.ready result a c h t (p k) (i k)

-- one that is lost has none
pub lost_in : {S C T : Type 0} (s : CoreSteps C) (told : S → Option Traffic) (waits : ℕ → C → Bool) (key : ℕ) (result : Outcome) (a c : Open S C T) (slot : Option (Connection S)) → option_map_or (λ x. is_lost x) slot false ≡ true
    → IfSome slot (λ x. key < 2 ^ 32 → IsFalse (is_lost x) → GetsTurn s told waits key x result a c)
lost_in s told waits key result a c None e = tt
lost_in s told waits key result a c (Some x) e = λ k l. let f : true ≡ false = sym e ∙ l in absurd cc

-- what is so of the one that is there
pub at_slot : {A : Type 0} (P : A → Type 0) (slot : Option A) (x : A) → slot ≡ Some x → P x → IfSome slot P
at_slot {A} P slot x e h = subst (λ (z : Option A). IfSome z P) (sym e) h

-- what is prepared by the plan of the one that is there
-- what comes before a turn rests on the core alone
pub prepares_from : {S C T : Type 0} (waits : ℕ → C → Bool) (key : ℕ) (plan : TurnPlan) (result : Result TurnPlan Outcome) (a b c : Open S C T) → b.core ≡ a.core → Prepares waits key plan result b c → Prepares waits key plan result a c
prepares_from {C = C} waits key plan (Ok next) a b c e p = elim p [ inl h ↦ inl h | inr k ↦ inr (k.0, subst (λ (core : C). (is_answering plan && waits key core) ≡ true) e k.1) ]
prepares_from waits key plan (Err result) a b c e p = p

pub prepared : {S C T : Type 0} (waits : ℕ → C → Bool) (key : ℕ) (plan : TurnPlan) (result : Result TurnPlan Outcome) (old new : Open S C T) (slot : Option (Connection S)) → Some plan ≡ option_map (λ c. plan_at c old) slot
    → IfSome slot (λ _. key < 2 ^ 32 → Prepares waits key plan result old new) → IfSome slot (λ c. key < 2 ^ 32 → Prepares waits key (plan_at c old) result old new)
prepared waits key plan result old new None e h = tt
prepared {S} {C} {T} waits key plan result old new (Some c) e h = let same : plan ≡ plan_at c old = cc in λ k. subst (λ (x : TurnPlan). Prepares waits key x result old new) same (h k)

pub unplanned : {A B : Type 0} (of : A → B) (P : A → Type 0) (slot : Option A) → None ≡ option_map of slot → IfSome slot P
unplanned of P None e = tt
unplanned of P (Some x) e = absurd cc

-- what is so anyway
pub at_any : {A : Type 0} (P : Type 0) (slot : Option A) → P → IfSome slot (λ _. P)
at_any P None h = tt
at_any P (Some x) h = h

pub served_by : {S C T : Type 0} (s : CoreSteps C) (told : S → Option Traffic) (plan : TurnPlan) (is_held : Bool) (key : ℕ) (c : Connection S) (result : Outcome) (o o' : Open S C T) → c.phase ≡ Served → TurnsBy s told plan is_held key c.ready result o o' → HasTurnBy s told plan is_held key c result o o'
served_by s told plan is_held key c result o o' p t = subst (λ (x : Phase). HasTurnIn x s told plan is_held key c.ready result o o') (sym p) t

pub lingers_by : {S C T : Type 0} (s : CoreSteps C) (told : S → Option Traffic) (plan : TurnPlan) (is_held : Bool) (key : ℕ) (c : Connection S) (result : Outcome) (o o' : Open S C T) → c.phase ≡ Lingering → DrainsAt s told key result o o' → HasTurnBy s told plan is_held key c result o o'
lingers_by s told plan is_held key c result o o' p t = subst (λ (x : Phase). HasTurnIn x s told plan is_held key c.ready result o o') (sym p) t
