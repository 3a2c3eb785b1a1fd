-- Steps one after the other.
use Rattle.std.proofs.Common.{◌≡◌, ◌⊎◌, ℕ, Bool, true, false, [], Option, Some, None, sym, ap, ◌∙◌, subst, refl, inl, inr, arith}
use Rattle.std.proofs.lemmas.Bool.{MatchBool-at_false, MatchBool-at_true, cases_Bool}
use Rattle.std.proofs.lemmas.List.{append-nil}
use Rattle.std.specs.Bool.{MatchBool}
use Rattle.outbox.specs.Lines.{Line, read, sent}
use Rattle.outbox.specs.Traffic.{Traffic, IsUnused, IsReadOn, moved, with_read}
use Rattle.outbox.specs.Turns.{DoesAll}
use Rattle.connection_turns.specs.Turning.{TakesTurn}
use Rattle.connection_turns.specs.Cores.{CoreSteps}
use Rattle.connection_turns.specs.declared.claim.Claim.{Claim}
use Rattle.open_connections.specs.declared.budgets.Budgets.{Budgets}
use Rattle.open_connections.specs.Joined.{Joined}
use Rattle.open_connections.specs.Shares.{limits_in}
use Rattle.open_connections.specs.Looping.{CountsMoved, Lanes, Step, TakenIn, HasTurn, LetGo, Drained, OthersStay, Does, DoesAtMost, KeepsTask, PassedBy, Task, TurnsAtMost, Stays}

-- ---- Work under way

at_true : (P Q : Type 0) (b : Bool) → b ≡ true → P → MatchBool b P Q
at_true P Q b e p = subst (λ (x : Bool). MatchBool x P Q) (sym e) p

at_false : (P Q : Type 0) (b : Bool) → b ≡ false → Q → MatchBool b P Q
at_false P Q b e q = subst (λ (x : Bool). MatchBool x P Q) (sym e) q

-- one that is due is so still, and what is left stays
pub keeps_left : (a b : Task) → (a.is_due ≡ true → b.is_due ≡ true) → b.left ≡ a.left → KeepsTask a b
keeps_left a b d l = elim (cases_Bool a.is_due) [
  | inl e ↦ at_true (b ≡ a) ((b.left ≡ a.left) ⊎ (b.left ≡ None)) a.is_due e (λ i. record { is_due = (d e ∙ sym e) i; left = l i })
  | inr e ↦ at_false (b ≡ a) ((b.left ≡ a.left) ⊎ (b.left ≡ None)) a.is_due e (inl l)
]

-- work of one that is not due is given up
pub gives_up : (a b : Task) → a.is_due ≡ false → b.left ≡ None → KeepsTask a b
gives_up a b d l = at_false (b ≡ a) ((b.left ≡ a.left) ⊎ (b.left ≡ None)) a.is_due d (inr l)

pub keeps_same : (task : Task) → KeepsTask task task
keeps_same task = keeps_left task task (λ e. e) refl

pub keeps_then : (a b c : Task) → KeepsTask a b → KeepsTask b c → KeepsTask a c
keeps_then a b c h k = elim (cases_Bool a.is_due) [
  | inl e ↦ let same : b ≡ a = MatchBool-at_true _ _ e h in subst (λ (x : Task). KeepsTask x c) same k
  | inr e ↦ at_false (c ≡ a) ((c.left ≡ a.left) ⊎ (c.left ≡ None)) a.is_due e (left_then (MatchBool-at_false _ _ e h))
]
  where
    left_from : (b.left ≡ a.left) ⊎ (b.left ≡ None) → c.left ≡ b.left → (c.left ≡ a.left) ⊎ (c.left ≡ None)
    left_from (inl e) f = inl (f ∙ e)
    left_from (inr e) f = inr (f ∙ e)

    left_then : (b.left ≡ a.left) ⊎ (b.left ≡ None) → (c.left ≡ a.left) ⊎ (c.left ≡ None)
    left_then l = elim (cases_Bool b.is_due) [
      | inl e ↦ let same : c ≡ b = MatchBool-at_true _ _ e k in left_from l (ap (λ (x : Task). x.left) same)
      | inr e ↦ elim (MatchBool-at_false _ _ e k) [ inl f ↦ left_from l f | inr f ↦ inr f ]
    ]

-- ---- Steps

still : (o : Option Traffic) → o ≡ moved [] [] o
still None = refl
still (Some o) = λ i. Some (record { read = sym (append-nil o.read) i; written = sym (append-nil o.written) i })

unread : (o : Option Traffic) → o ≡ with_read [] o
unread None = refl
unread (Some o) = λ i. Some (record { read = sym (append-nil o.read) i; written = o.written })

-- only the budgets change
pub stays_in : {C : Type 0} (core : C) (lines : ℕ → Option Line) (wires : ℕ → Option Traffic) (claims : ℕ → Option Claim) (budgets budgets' : Budgets) (bytes : ℕ × ℕ) (tasks : ℕ → Task) → limits_in budgets' ≡ limits_in budgets → (Joined claims budgets → Joined claims budgets')
    → Stays (record { core = core; lines = lines; wires = wires; claims = claims; budgets = budgets; bytes = bytes; tasks = tasks }) (record { core = core; lines = lines; wires = wires; claims = claims; budgets = budgets'; bytes = bytes; tasks = tasks })
stays_in core lines wires claims budgets budgets' bytes tasks e j = record { core_stays = refl; lines_stay = λ q. refl; wires_stay = λ q. refl; tasks_stay = λ q. keeps_same (tasks q); limits_stay = e; joined = j; bytes_stay = refl }

pub stays_then : {C : Type 0} (a b c : Lanes C) → Stays a b → Stays b c → Stays a c
stays_then a b c h k = record {
  core_stays = k.core_stays ∙ h.core_stays;
  lines_stay = λ q. k.lines_stay q ∙ h.lines_stay q;
  wires_stay = λ q. k.wires_stay q ∙ h.wires_stay q;
  tasks_stay = λ q. keeps_then _ _ _ (h.tasks_stay q) (k.tasks_stay q);
  limits_stay = k.limits_stay ∙ h.limits_stay;
  joined = λ j. k.joined (h.joined j);
  bytes_stay = k.bytes_stay ∙ h.bytes_stay;
}

-- nothing changes of any other either
pub passes_by : {C : Type 0} (conn : ℕ) (a b : Lanes C) → Stays a b → PassedBy conn a b
passes_by conn a b h = record {
  core_stays = h.core_stays;
  line_stays = h.lines_stay conn;
  wire_stays = h.wires_stay conn;
  others = record { lines_stay = λ q e. h.lines_stay q; wires_stay = λ q e. h.wires_stay q; tasks_stay = λ q e. h.tasks_stay q; limits_stay = h.limits_stay; joined = h.joined };
  bytes_stay = h.bytes_stay;
}

-- a step from where nothing changed, and one behind which nothing changes
pub before_others : {C : Type 0} (conn : ℕ) (a b c : Lanes C) → OthersStay conn a b → OthersStay conn b c → OthersStay conn a c
before_others conn a b c h k = record { lines_stay = λ q e. k.lines_stay q e ∙ h.lines_stay q e; wires_stay = λ q e. k.wires_stay q e ∙ h.wires_stay q e; tasks_stay = λ q e. keeps_then _ _ _ (h.tasks_stay q e) (k.tasks_stay q e); limits_stay = k.limits_stay ∙ h.limits_stay; joined = λ j. k.joined (h.joined j) }

others_then : {C : Type 0} (conn : ℕ) (a b c : Lanes C) → OthersStay conn a b → Stays b c → OthersStay conn a c
others_then conn a b c k h = record { lines_stay = λ q e. h.lines_stay q ∙ k.lines_stay q e; wires_stay = λ q e. h.wires_stay q ∙ k.wires_stay q e; tasks_stay = λ q e. keeps_then _ _ _ (k.tasks_stay q e) (h.tasks_stay q); limits_stay = h.limits_stay ∙ k.limits_stay; joined = λ j. h.joined (k.joined j) }

-- what is counted of a turn
pub counts_from : {C : Type 0} (conn : ℕ) (a b c : Lanes C) → PassedBy conn a b → CountsMoved (b.wires conn) (c.wires conn) b.bytes c.bytes → CountsMoved (a.wires conn) (c.wires conn) a.bytes c.bytes
counts_from conn a b c h d =
    subst (λ (x : Option Traffic). CountsMoved x (c.wires conn) a.bytes c.bytes) h.wire_stays (subst (λ (x : ℕ × ℕ). CountsMoved (b.wires conn) (c.wires conn) x c.bytes) h.bytes_stay d)

counts_to : {C : Type 0} (conn : ℕ) (a b c : Lanes C) → Stays b c → CountsMoved (a.wires conn) (b.wires conn) a.bytes b.bytes → CountsMoved (a.wires conn) (c.wires conn) a.bytes c.bytes
counts_to conn a b c h d =
    subst (λ (x : Option Traffic). CountsMoved (a.wires conn) x a.bytes c.bytes) (sym (h.wires_stay conn)) (subst (λ (x : ℕ × ℕ). CountsMoved (a.wires conn) (b.wires conn) a.bytes x) (sym h.bytes_stay) d)

-- a turn from where nothing was done in it yet
unfoldable pub before_turn : {C : Type 0} (s : CoreSteps C) (conn : ℕ) (a b c : Lanes s.Seen) → PassedBy conn a b → Does s (HasTurn conn) b c → Does s (HasTurn conn) a c
before_turn {C} s conn a b c h d =
    let t = d.takes_turn in
    record {
      line = d.line;
      line' = d.line';
      was = sym h.line_stays ∙ d.was;
      is = d.is;
      takes_turn = record {
        events = t.events;
        line_is = t.line_is;
        wire_is = t.wire_is ∙ ap (λ (x : Option Traffic). moved (read d.line t.events) (sent d.line t.events) x) h.wire_stays;
        core_is = subst (λ (x : s.Seen). DoesAll (s.takes conn) (s.answers conn) d.line t.events x c.core) h.core_stays t.core_is;
      };
      counts = counts_from conn a b c h d.counts;
      others = before_others conn a b c h.others d.others;
    }

pub before_drain : {C : Type 0} (s : CoreSteps C) (conn : ℕ) (a b c : Lanes s.Seen) → PassedBy conn a b → Does s (Drained conn) b c → Does s (Drained conn) a c
before_drain {C} s conn a b c h d = record {
  core_stays = d.core_stays ∙ h.core_stays;
  was_gone = sym h.line_stays ∙ d.was_gone;
  is_gone = d.is_gone;
  reads_on = subst (λ (x : Option Traffic). IsReadOn x (c.wires conn)) h.wire_stays d.reads_on;
  others = before_others conn a b c h.others d.others;
  bytes_stay = d.bytes_stay ∙ h.bytes_stay;
}

pub before_step : {C : Type 0} (s : CoreSteps C) (step : Step) (a b c : Lanes s.Seen) → Stays a b → Does s step b c → Does s step a c
before_step {C} s (TakenIn conn) a b c h d = record {
  opens = subst (λ (x : s.Seen). s.opens conn x c.core) h.core_stays d.opens;
  was_free = sym (h.lines_stay conn) ∙ d.was_free;
  is_fresh = d.is_fresh;
  is_unused = d.is_unused;
  others = before_others conn a b c (passes_by conn a b h).others d.others;
  bytes_stay = d.bytes_stay ∙ h.bytes_stay;
}
before_step s (HasTurn conn) a b c h d = before_turn s conn a b c (passes_by conn a b h) d
before_step {C} s (LetGo conn) a b c h d = record {
  closes = subst (λ (x : s.Seen). s.closes conn x c.core) h.core_stays d.closes;
  is_gone = d.is_gone;
  wire_stays = elim d.wire_stays [ inl e ↦ inl e | inr e ↦ inr (e ∙ h.wires_stay conn) ];
  others = before_others conn a b c (passes_by conn a b h).others d.others;
  bytes_stay = d.bytes_stay ∙ h.bytes_stay;
}
before_step s (Drained conn) a b c h d = before_drain s conn a b c (passes_by conn a b h) d

pub step_then : {C : Type 0} (s : CoreSteps C) (step : Step) (a b c : Lanes s.Seen) → Does s step a b → Stays b c → Does s step a c
step_then {C} s (TakenIn conn) a b c d h = record {
  opens = subst (λ (x : s.Seen). s.opens conn a.core x) (sym h.core_stays) d.opens;
  was_free = d.was_free;
  is_fresh = h.lines_stay conn ∙ d.is_fresh;
  is_unused = subst (λ (x : Option Traffic). IsUnused x) (sym (h.wires_stay conn)) d.is_unused;
  others = others_then conn a b c d.others h;
  bytes_stay = h.bytes_stay ∙ d.bytes_stay;
}
step_then {C} s (HasTurn conn) a b c d h =
    let w : Option Traffic = a.wires conn in
    let t : TakesTurn (s.takes conn) (s.answers conn) d.line w a.core d.line' (b.wires conn) c.core = subst (λ (x : s.Seen). TakesTurn (s.takes conn) (s.answers conn) d.line w a.core d.line' (b.wires conn) x) (sym h.core_stays) d.takes_turn in
    let u : TakesTurn (s.takes conn) (s.answers conn) d.line w a.core d.line' (c.wires conn) c.core = subst (λ (x : Option Traffic). TakesTurn (s.takes conn) (s.answers conn) d.line w a.core d.line' x c.core) (sym (h.wires_stay conn)) t in
    record { line = d.line; line' = d.line'; was = d.was; is = h.lines_stay conn ∙ d.is; takes_turn = u; counts = counts_to conn a b c h d.counts; others = others_then conn a b c d.others h }
step_then {C} s (LetGo conn) a b c d h = record {
  closes = subst (λ (x : s.Seen). s.closes conn a.core x) (sym h.core_stays) d.closes;
  is_gone = h.lines_stay conn ∙ d.is_gone;
  wire_stays = elim d.wire_stays [ inl e ↦ inl (h.wires_stay conn ∙ e) | inr e ↦ inr (h.wires_stay conn ∙ e) ];
  others = others_then conn a b c d.others h;
  bytes_stay = h.bytes_stay ∙ d.bytes_stay;
}
step_then {C} s (Drained conn) a b c d h = record {
  core_stays = h.core_stays ∙ d.core_stays;
  was_gone = d.was_gone;
  is_gone = h.lines_stay conn ∙ d.is_gone;
  reads_on = subst (λ (x : Option Traffic). IsReadOn (a.wires conn) x) (sym (h.wires_stay conn)) d.reads_on;
  others = others_then conn a b c d.others h;
  bytes_stay = h.bytes_stay ∙ d.bytes_stay;
}

pub then_at_most : {C : Type 0} (s : CoreSteps C) (step : Step) (a b c : Lanes s.Seen) → Stays a b → DoesAtMost s step b c → DoesAtMost s step a c
then_at_most s step a b c h d = elim d [ inl x ↦ inl (before_step s step a b c h x) | inr k ↦ inr (stays_then a b c h k) ]

pub at_most_then : {C : Type 0} (s : CoreSteps C) (step : Step) (a b c : Lanes s.Seen) → DoesAtMost s step a b → Stays b c → DoesAtMost s step a c
at_most_then s step a b c d h = elim d [ inl x ↦ inl (step_then s step a b c x h) | inr k ↦ inr (stays_then a b c k h) ]

pub then_turn : {C : Type 0} (s : CoreSteps C) (conn : ℕ) (a b c : Lanes s.Seen) → PassedBy conn a b → TurnsAtMost s conn b c → TurnsAtMost s conn a c
then_turn s conn a b c h d = elim d [ inl x ↦ inl (before_turn s conn a b c h x) | inr x ↦ inr (before_drain s conn a b c h x) ]

-- nothing is done behind it, or before it
pub passed_then : {C : Type 0} (conn : ℕ) (a b c : Lanes C) → PassedBy conn a b → PassedBy conn b c → PassedBy conn a c
passed_then conn a b c h k = record {
  core_stays = k.core_stays ∙ h.core_stays;
  line_stays = k.line_stays ∙ h.line_stays;
  wire_stays = k.wire_stays ∙ h.wire_stays;
  others = before_others conn a b c h.others k.others;
  bytes_stay = k.bytes_stay ∙ h.bytes_stay;
}

-- bytes that are counted do not change where none moves
none_counted : (o : Option Traffic) (bytes : ℕ × ℕ) → CountsMoved o o bytes bytes
none_counted o bytes = record {
  read = 0;
  written = 0;
  moved = record { piece = []; bytes = []; is = still o; read_is = refl; written_is = refl };
  read_is = omega arith;
  written_is = omega arith;
}

-- a turn in which nothing is done is one without events
pub turn_without : {C : Type 0} (s : CoreSteps C) (conn : ℕ) (a b : Lanes s.Seen) → PassedBy conn a b → TurnsAtMost s conn a b
turn_without {C} s conn a b h = at (a.lines conn) refl
  where
    quiet : b.wires conn ≡ moved [] [] (a.wires conn)
    quiet = h.wire_stays ∙ still (a.wires conn)

    at : (o : Option Line) → a.lines conn ≡ o → TurnsAtMost s conn a b
    at None e = inr (record { core_stays = h.core_stays; was_gone = e; is_gone = h.line_stays ∙ e; reads_on = ([], h.wire_stays ∙ unread (a.wires conn)); others = h.others; bytes_stay = h.bytes_stay })
    at (Some line) e = inl (record {
      line = line;
      line' = line;
      was = e;
      is = h.line_stays ∙ e;
      takes_turn = record { events = []; line_is = refl; wire_is = quiet; core_is = h.core_stays };
      counts = subst (λ (x : Option Traffic). CountsMoved (a.wires conn) x a.bytes b.bytes) (sym h.wire_stays) (subst (λ (x : ℕ × ℕ). CountsMoved (a.wires conn) (a.wires conn) a.bytes x) (sym h.bytes_stay) (none_counted (a.wires conn) a.bytes));
      others = h.others;
    })

-- nothing is done where there is no connection
pub turn_of_none : {C : Type 0} (s : CoreSteps C) (conn : ℕ) (a : Lanes s.Seen) → TurnsAtMost s conn a a
turn_of_none s conn a = turn_without s conn a a (passes_by conn a a (record { core_stays = refl; lines_stay = λ q. refl; wires_stay = λ q. refl; tasks_stay = λ q. keeps_same (a.tasks q); limits_stay = refl; joined = λ j. j; bytes_stay = refl }))
