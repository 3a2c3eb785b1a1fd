-- Whether a turn does anything hangs neither on room for a reply nor on a query under way.
use Rattle.std.proofs.Common.{◌≡◌, ℕ, Bool, true, false, Option, Some, None, refl, sym, ap, ◌∙◌}
use Rattle.std.specs.Prelude.{not, ◌&&◌, ◌||◌, if◌then◌else◌}
use Rattle.std.specs.Option.{option_map_or}
use Rattle.slab.specs.Slab.{Slab, Updates, get, with_value}
use Rattle.outbox.specs.Lines.{Line, reads}
use Rattle.outbox.specs.Turns as turns
use Rattle.outbox.specs.declared.readiness.Readiness.{Readiness}
use Rattle.connection_turns.specs.Owed.{is_lost}
use Rattle.connection_turns.specs.Planning.{can_go_by, can_go_on, goes_in, next_of, owes_little, plan_in}
use Rattle.connection_turns.specs.declared.claim.Claim.{Claim}
use Rattle.connection_turns.specs.declared.connection.Connection.{Connection}
use Rattle.connection_turns.specs.declared.connection.TurnPlan.{TurnPlan}
use Rattle.connection_turns.specs.declared.connection.TurnPlan.TheVariants.{Write, Read, Answer, All}
use Rattle.open_connections.proofs.Steps.{written}

or_true : (x : Bool) → (x || true) ≡ true
or_true true = refl
or_true false = refl

or_false : (x : Bool) → (x || false) ≡ x
or_false true = refl
or_false false = refl

over_if : (f : TurnPlan → Bool) (b : Bool) (x y : TurnPlan) → f (if b then x else y) ≡ (if b then f x else f y)
over_if f true x y = refl
over_if f false x y = refl

-- a read, an answer or a write
one_of_all : (readable waiting reads writes : Bool)
    → ((readable || waiting) && reads || writes) ≡ (if writes || false then writes else (if waiting then waiting && reads else ((readable && not waiting) && reads)))
one_of_all r w s true = or_true ((r || w) && s)
one_of_all true true s false = or_false s
one_of_all true false s false = or_false s
one_of_all false true s false = or_false s
one_of_all false false s false = refl

goes_with : (has_room is_working is_little : Bool) (ready : Readiness) (line : Line)
    → can_go_by (if has_room && (not is_working && is_little) then All else (if turns.can_write ready line || not is_little then Write else next_of ready)) ready line
    ≡ can_go_by (if turns.can_write ready line || not is_little then Write else next_of ready) ready line
goes_with false w little ready line = refl
goes_with true true little ready line = refl
goes_with true false false ready line = refl
goes_with true false true ready line =
    let writes : Bool = turns.can_write ready line in
    let goes : TurnPlan → Bool = λ plan. can_go_by plan ready line in
    one_of_all ready.readable ready.waiting (reads line) writes
    ∙ sym (over_if goes (writes || false) Write (next_of ready) ∙ ap (λ (x : Bool). if writes || false then writes else x) (over_if goes ready.waiting Answer Read))

goes_in_plan : (has_room is_working : Bool) (claim : Option Claim) (ready : Readiness) (line : Line)
    → can_go_by (plan_in has_room is_working claim ready line) ready line ≡ can_go_by (plan_in false false claim ready line) ready line
goes_in_plan h w (Some claim) ready line = refl
goes_in_plan h w None ready line = goes_with h w (owes_little line) ready line

goes_alike : {S : Type 0} (has_room : Bool) (c : Connection S) → can_go_on has_room c ≡ can_go_on false (record c { is_working = false })
goes_alike h c = ap (λ (x : Bool). is_lost c || goes_in c.phase c.ready.readable x) (goes_in_plan h c.is_working c.claim c.ready c.outbox)

-- one whose query is given up is awake just if it was
pub awake_alike : {S : Type 0} (missed : Bool) (slab : Slab (Connection S)) (key : ℕ) (c : Connection S) → get slab key ≡ Some c
    → (missed || option_map_or (λ c. c.is_due || not (can_go_on false c)) (get (with_value slab key (record c { is_working = false })) key) true) ≡ (missed || option_map_or (λ c. c.is_due || not (can_go_on false c)) (get slab key) true)
awake_alike {S} missed slab key c h =
    let look : Option (Connection S) → Bool = λ slot. missed || option_map_or (λ c. c.is_due || not (can_go_on false c)) slot true in
    let u : Updates slab (with_value slab key (record c { is_working = false })) key (Some (record c { is_working = false })) = written slab key c (record c { is_working = false }) h in
    ap look u.changed ∙ ap (λ (x : Bool). missed || (c.is_due || not x)) (sym (goes_alike false c)) ∙ sym (ap look h)

-- one that cannot go on is
pub rests_awake : {S : Type 0} (missed has_room : Bool) (slot : Option (Connection S)) (c : Connection S) → slot ≡ Some c → can_go_on has_room c ≡ false → (missed || option_map_or (λ c. c.is_due || not (can_go_on false c)) slot true) ≡ true
rests_awake {S} missed h slot c e f =
    ap (λ (x : Option (Connection S)). missed || option_map_or (λ c. c.is_due || not (can_go_on false c)) x true) e
    ∙ ap (λ (x : Bool). missed || (c.is_due || not x)) (goes_alike false c ∙ sym (goes_alike h c) ∙ f) ∙ ap (λ (x : Bool). missed || x) (or_true c.is_due) ∙ or_true missed
