-- What a change of one connection comes to.
use Rattle.std.proofs.Common.{◌≡◌, ◌≢◌, ◌⊎◌, ℕ, true, false, List, [], ◌∷◌, Option, Some, None, sym, ap, ◌∙◌, refl, subst, inl, inr}
use Rattle.std.specs.Prelude.{◌==◌, is_some}
use Rattle.std.specs.Option.{option_and_then, option_map, option_map_or}
use Rattle.std.proofs.lemmas.Bool.{cases_Bool, eqb-true, eqb-false}
use Rattle.slab.specs.Slab.{Slab, get, with_value, Updates}
use Rattle.slab.proofs.SlabLemmas.{Updates-with_value}
use Rattle.connection_turns.specs.declared.connection.Connection.{Connection}
use Rattle.outbox.specs.Appends.{OthersKeep}
use Rattle.outbox.specs.Lines.{Line, Event, Readable, Declined, Answered, Writable, Ends, Fails, Worked, after}
use Rattle.outbox.specs.Traffic.{Traffic}
use Rattle.outbox.specs.Turns.{DoesAll}
use Rattle.connection_turns.specs.Cores.{CoreSteps}
use Rattle.open_connections.specs.Looping.{Lanes, LetGo, Does, KeepsTask, OthersStay, PassedBy, Stays}
use Rattle.connection_turns.specs.Owed.{line_of, wire_of}
use Rattle.connection_turns.specs.declared.claim.Claim.{Claim}
use Rattle.open_connections.specs.declared.budgets.Budgets.{Budgets}
use Rattle.open_connections.specs.Joined.{Joined}
use Rattle.open_connections.specs.Opened.{is_due_in, lines_in, task_in, wires_in}
use Rattle.open_connections.specs.Shares.{claim_at, limits_in}
use Rattle.open_connections.proofs.Joined.{claim_is, part_of, same_joined}
use Rattle.open_connections.proofs.Looping.{keeps_left}

abbrev pub lanes : {S C : Type 0} → (s : CoreSteps C) → (S → Option Traffic) → (budgets : Budgets) (bytes : ℕ × ℕ) → C → Slab (Connection S) → Lanes s.Seen
lanes s told budgets bytes core slab = record { core = s.seen core; lines = lines_in slab; wires = wires_in told slab; claims = claim_at slab; budgets = budgets; bytes = bytes; tasks = task_in s core slab }

due_at : {S : Type 0} (x y : Option (Connection S)) → x ≡ y → option_map_or (λ c. c.is_due) x false ≡ option_map_or (λ c. c.is_due) y false
due_at {S} x y e = ap (λ (z : Option (Connection S)). option_map_or (λ c. c.is_due) z false) e

-- one is due still that stands there still, and what is left of its work stays
task_kept : {S C : Type 0} (s : CoreSteps C) (core core' : C) (slab slab' : Slab (Connection S)) (q : ℕ) → get slab' q ≡ get slab q → s.left q core' ≡ s.left q core → KeepsTask (task_in s core slab q) (task_in s core' slab' q)
task_kept s core core' slab slab' q e l = keeps_left _ _ (λ d. due_at (get slab' q) (get slab q) e ∙ d) l

pub line_at : {S : Type 0} (x y : Option (Connection S)) → x ≡ y → option_and_then (λ c. line_of c) x ≡ option_and_then (λ c. line_of c) y
line_at {S} x y e = ap (λ (z : Option (Connection S)). option_and_then (λ c. line_of c) z) e

pub wire_at : {S : Type 0} (told : S → Option Traffic) (x y : Option (Connection S)) → x ≡ y → option_and_then (λ c. wire_of told c) x ≡ option_and_then (λ c. wire_of told c) y
wire_at {S} told x y e = ap (λ (z : Option (Connection S)). option_and_then (λ c. wire_of told c) z) e

-- a write to one that is there
pub written : {S : Type 0} (slab : Slab (Connection S)) (key : ℕ) (c c' : Connection S) → get slab key ≡ Some c → Updates slab (with_value slab key c') key (Some c')
written {S} slab key c c' h = Updates-with_value slab key c' (ap (λ (x : Option (Connection S)). is_some x) h)

pub due_written : {S : Type 0} (slab : Slab (Connection S)) (key : ℕ) (c c' : Connection S) → get slab key ≡ Some c → is_due_in (with_value slab key c') key ≡ c'.is_due
due_written {S} slab key c c' h = due_at (get (with_value slab key c') key) (Some c') (written slab key c c' h).changed

-- what is so at all others is so at all, if it is at this one
pub everywhere : {A : Type 0} (key : ℕ) (f g : ℕ → A) → f key ≡ g key → ((q : ℕ) → q ≢ key → f q ≡ g q) → (q : ℕ) → f q ≡ g q
everywhere {A} key f g here there q = elim (cases_Bool (q == key)) [
  | inl e ↦ let k : q ≡ key = eqb-true q key e in ap f k ∙ here ∙ sym (ap g k)
  | inr e ↦ there q (eqb-false q key e)
]

pub others_stay : {S C : Type 0} (s : CoreSteps C) (told : S → Option Traffic) (budgets : Budgets) (bytes bytes' : ℕ × ℕ) (core core' : C) (slab slab' : Slab (Connection S)) (key : ℕ) (slot : Option (Connection S)) → Updates slab slab' key slot
    → ((q : ℕ) → q ≢ key → s.left q core' ≡ s.left q core) → (Joined (claim_at slab) budgets → Joined (claim_at slab') budgets)
    → OthersStay key (lanes s told budgets bytes core slab) (lanes s told budgets bytes' core' slab')
others_stay s told budgets bytes bytes' core core' slab slab' key slot u l j = record {
  lines_stay = λ q e. line_at (get slab' q) (get slab q) (u.others q e);
  wires_stay = λ q e. wire_at told (get slab' q) (get slab q) (u.others q e);
  tasks_stay = λ q e. task_kept s core core' slab slab' q (u.others q e) (l q e);
  limits_stay = refl;
  joined = j;
}

-- in its turn a connection changes, and nothing of that
pub passed_at : {S C : Type 0} (s : CoreSteps C) (told : S → Option Traffic) (budgets : Budgets) (bytes : ℕ × ℕ) (core core' : C) (slab : Slab (Connection S)) (key : ℕ) (c c' : Connection S) → get slab key ≡ Some c → line_of c' ≡ line_of c → wire_of told c' ≡ wire_of told c
    → option_map part_of c'.claim ≡ option_map part_of c.claim → s.seen core' ≡ s.seen core → ((q : ℕ) → q ≢ key → s.left q core' ≡ s.left q core) → PassedBy key (lanes s told budgets bytes core slab) (lanes s told budgets bytes core' (with_value slab key c'))
passed_at {S} s told budgets bytes core core' slab key c c' h l w e k o =
    let slab' : Slab (Connection S) = with_value slab key c' in
    let u : Updates slab slab' key (Some c') = written slab key c c' h in
    record {
      core_stays = k;
      line_stays = line_at (get slab' key) (Some c') u.changed ∙ l ∙ sym (line_at (get slab key) (Some c) h);
      wire_stays = wire_at told (get slab' key) (Some c') u.changed ∙ w ∙ sym (wire_at told (get slab key) (Some c) h);
      others = others_stay s told budgets bytes bytes core core' slab slab' key (Some c') u o (same_joined slab slab' key (Some c') u budgets (e ∙ ap (λ (x : Option Claim). option_map part_of x) (sym (claim_is slab key c c.claim h refl))));
      bytes_stay = refl;
    }

-- nothing of that changes of one either that keeps its turn and its work
pub stays_past : {C : Type 0} (key : ℕ) (a b : Lanes C) → PassedBy key a b → KeepsTask (a.tasks key) (b.tasks key) → Stays a b
stays_past key a b h k = record {
  core_stays = h.core_stays;
  lines_stay = everywhere key b.lines a.lines h.line_stays h.others.lines_stay;
  wires_stay = everywhere key b.wires a.wires h.wire_stays h.others.wires_stay;
  tasks_stay = λ q. elim (cases_Bool (q == key)) [
    | inl e ↦ subst (λ (x : ℕ). KeepsTask (a.tasks x) (b.tasks x)) (sym (eqb-true q key e)) k
    | inr e ↦ h.others.tasks_stay q (eqb-false q key e)
  ];
  limits_stay = h.others.limits_stay;
  joined = h.others.joined;
  bytes_stay = h.bytes_stay;
}

-- a connection and the budgets change, and nothing of that but what belongs together
pub stays_with : {S C : Type 0} (s : CoreSteps C) (told : S → Option Traffic) (budgets budgets' : Budgets) (bytes : ℕ × ℕ) (core : C) (slab : Slab (Connection S)) (key : ℕ) (c c' : Connection S) → get slab key ≡ Some c → (c.is_due ≡ true → c'.is_due ≡ true) → line_of c' ≡ line_of c → wire_of told c' ≡ wire_of told c
    → limits_in budgets' ≡ limits_in budgets → (Joined (claim_at slab) budgets → Joined (claim_at (with_value slab key c')) budgets') → Stays (lanes s told budgets bytes core slab) (lanes s told budgets' bytes core (with_value slab key c'))
stays_with {S} s told budgets budgets' bytes core slab key c c' h d l w m j =
    let slab' : Slab (Connection S) = with_value slab key c' in
    let u : Updates slab slab' key (Some c') = written slab key c c' h in
    record {
      core_stays = refl;
      limits_stay = m;
      joined = j;
      bytes_stay = refl;
      lines_stay = everywhere key (lines_in slab') (lines_in slab) (line_at (get slab' key) (Some c') u.changed ∙ l ∙ sym (line_at (get slab key) (Some c) h)) (λ q n. line_at (get slab' q) (get slab q) (u.others q n));
      wires_stay = everywhere key (wires_in told slab') (wires_in told slab) (wire_at told (get slab' key) (Some c') u.changed ∙ w ∙ sym (wire_at told (get slab key) (Some c) h)) (λ q n. wire_at told (get slab' q) (get slab q) (u.others q n));
      tasks_stay = λ q. elim (cases_Bool (q == key)) [
        | inl e ↦ subst (λ (x : ℕ). KeepsTask (task_in s core slab x) (task_in s core slab' x)) (sym (eqb-true q key e)) (keeps_left _ _ (λ f. due_at (get slab' key) (Some c') u.changed ∙ d (sym (due_at (get slab key) (Some c) h) ∙ f)) refl)
        | inr e ↦ task_kept s core core slab slab' q (u.others q (eqb-false q key e)) refl
      ];
    }

-- its share stays what it is
pub stays_at : {S C : Type 0} (s : CoreSteps C) (told : S → Option Traffic) (budgets : Budgets) (bytes : ℕ × ℕ) (core : C) (slab : Slab (Connection S)) (key : ℕ) (c c' : Connection S) → get slab key ≡ Some c → (c.is_due ≡ true → c'.is_due ≡ true) → line_of c' ≡ line_of c → wire_of told c' ≡ wire_of told c
    → option_map part_of c'.claim ≡ option_map part_of c.claim → Stays (lanes s told budgets bytes core slab) (lanes s told budgets bytes core (with_value slab key c'))
stays_at s told budgets bytes core slab key c c' h d l w e = stays_with s told budgets budgets bytes core slab key c c' h d l w refl (same_joined slab (with_value slab key c') key (Some c') (written slab key c c' h) budgets (e ∙ ap (λ (x : Option Claim). option_map part_of x) (sym (claim_is slab key c c.claim h refl))))

-- what a core that is counted has done, as a step has it
pub does_all : {C : Type 0} (s : CoreSteps C) (conn : ℕ) (takes answers : s.Seen → List ℕ → s.Seen → Type 0) → ((old : s.Seen) (piece : List ℕ) (new : s.Seen) → takes old piece new → s.takes conn old piece new)
    → ((old : s.Seen) (reply : List ℕ) (new : s.Seen) → answers old reply new → s.answers conn old reply new)
    → (line : Line) (es : List Event) (old new : s.Seen) → DoesAll takes answers line es old new → DoesAll (s.takes conn) (s.answers conn) line es old new
does_all s conn takes answers t a line [] old new d = d
does_all s conn takes answers t a line (Readable piece ∷ es) old new d = (d.0, (d.1.0, t old piece d.0 d.1.1), does_all s conn takes answers t a (after line (Readable piece)) es d.0 new d.2)
does_all s conn takes answers t a line (Declined piece ∷ es) old new d = (d.0, d.1, does_all s conn takes answers t a (after line (Declined piece)) es d.0 new d.2)
does_all s conn takes answers t a line (Answered reply ∷ es) old new d = (d.0, (d.1.0, a old reply d.0 d.1.1), does_all s conn takes answers t a (after line (Answered reply)) es d.0 new d.2)
does_all s conn takes answers t a line (Writable room ∷ es) old new d = (d.0, d.1, does_all s conn takes answers t a (after line (Writable room)) es d.0 new d.2)
does_all s conn takes answers t a line (Ends ∷ es) old new d = (d.0, d.1, does_all s conn takes answers t a (after line Ends) es d.0 new d.2)
does_all s conn takes answers t a line (Fails ∷ es) old new d = (d.0, d.1, does_all s conn takes answers t a (after line Fails) es d.0 new d.2)
does_all s conn takes answers t a line (Worked ∷ es) old new d = (d.0, d.1, does_all s conn takes answers t a line es d.0 new d.2)

-- one that is served no further: still there, with what moved so far, or gone
pub gone_steps : {S C : Type 0} (s : CoreSteps C) (told : S → Option Traffic) (budgets : Budgets) (bytes : ℕ × ℕ) (core core' : C) (slab slab' : Slab (Connection S)) (key conn : ℕ) (slot : Option (Connection S)) → conn ≡ key → Updates slab slab' key slot
    → option_and_then (λ c. line_of c) slot ≡ None → (option_and_then (λ c. wire_of told c) slot ≡ None) ⊎ (option_and_then (λ c. wire_of told c) slot ≡ wires_in told slab key) → s.closes conn (s.seen core) (s.seen core')
    → OthersKeep s.left conn core core' → (Joined (claim_at slab) budgets → Joined (claim_at slab') budgets) → Does s (LetGo key) (lanes s told budgets bytes core slab) (lanes s told budgets bytes core' slab')
gone_steps {S} s told budgets bytes core core' slab slab' key conn slot n u h w k o j =
    let at : wires_in told slab' key ≡ option_and_then (λ c. wire_of told c) slot = wire_at told (get slab' key) slot u.changed in
    record {
      closes = subst (λ (m : ℕ). s.closes m (s.seen core) (s.seen core')) n k;
      is_gone = line_at (get slab' key) slot u.changed ∙ h;
      wire_stays = elim w [ inl e ↦ inl (at ∙ e) | inr e ↦ inr (at ∙ e) ];
      others = others_stay s told budgets bytes bytes core core' slab slab' key slot u (λ q e. o q (λ i. e (i ∙ n))) j;
      bytes_stay = refl;
    }
