-- What is done of a query at each document (this project's own).
use Rattle.std.specs.Prelude.{◌≡◌, ◌<◌, ◌≤◌, ◌+◌, ℕ, List, ◌++◌, length, Option, None, Some, MatchOption}
use Rattle.path_grammar.specs.Tree.{Segments}
use Rattle.tape_select.specs.Budget.{budget}
use Rattle.tape_select.specs.Charge.{charge}
use Rattle.store_names.specs.Lengths.{payload_limit}
use Rattle.tenant_map.specs.declared.faults.StoreFault.{StoreFault}
use Rattle.tenant_map.specs.declared.faults.StoreFault.TheVariants.{ReplyTooLarge, NoMemory, Costly}
use Rattle.query_machine.specs.Evaluators.{left_on}
use Rattle.query_machine.specs.declared.evaluator.Evaluator.{Evaluator}
use Rattle.tenant_store.specs.declared.walk.Reached.{Reached}
use Rattle.tenant_store.specs.declared.walk.Visited.{Visited}
use Rattle.tenant_store.specs.Hits.{hits}
use Rattle.tenant_store.specs.Payloads.{Text, found_in}
use Rattle.tenant_store.specs.Walks.{spent_on}

-- the numbers of a query whose payload begins at `start` of so many bytes
pub record AreSizes (place : Reached) (start size : ℕ) : Type 0 where
  pub budgeted : place.units ≤ budget
  pub long : start + 4 ≤ size
  pub few : start + place.hits ≤ size
  pub within : size ≤ start + payload_limit

-- one more text is passed
pub record Adds (q : Segments) (t : Text) (place next : Reached) (before after : List ℕ) : Type 0 where
  pub left : next.documents + 1 ≡ place.documents
  pub spent : next.units + charge t.tree q ≡ place.units
  pub counted : next.hits ≡ place.hits + length (hits t.tree q)
  pub appended : after ≡ before ++ found_in q t

-- the text shows this fault, where so many units are left, and these bytes are behind so many others
abbrev pub FailsAt : Segments → Text → (units start : ℕ) → (before : List ℕ) → StoreFault → Type 0
FailsAt q t units start before Costly = units < charge t.tree q
FailsAt q t units start before ReplyTooLarge = (charge t.tree q ≤ units) × (start + payload_limit < length (before ++ found_in q t))
FailsAt q t units start before NoMemory = Unit {0}
FailsAt q t units start before _ = ⊥

-- One more text is passed; or it is not, more than the share is spent on it, and nothing is added. No more is spent on it than its charge.
abbrev pub PassesOne : (next : Option Reached) → Segments → Text → (share : ℕ) → Reached → (old new : Evaluator) → (before after : List ℕ) → Type 0
PassesOne None q t share place old new before after =
    (after ≡ before) × (left_on place.units new.evaluation + share < left_on place.units old.evaluation) × (place.units ≤ left_on place.units new.evaluation + charge t.tree q)
PassesOne (Some next) q t share place old new before after = Adds q t place next before after × (new.evaluation ≡ None) × (place.units ≤ left_on place.units old.evaluation + charge t.tree q)

-- the units that are left then
abbrev pub left_passed : (next : Option Reached) → Reached → Evaluator → ℕ
left_passed None place new = left_on place.units new.evaluation
left_passed (Some next) place new = next.units

-- One text, in a step that has so many units left. It ends where more than these are spent, within the text or behind it.
pub record Visits (to : Visited) (q : Segments) (t : Text) (more : ℕ) (place : Reached) (old new : Evaluator) (before after : List ℕ) : Type 0 where
  pub passed : MatchOption new.evaluation (Adds q t place to.place before after) (λ w. (to.place ≡ place) × (after ≡ before))
  pub step : MatchOption to.more (more + spent_on place.units old < charge t.tree q) (λ left. (left + charge t.tree q ≡ more + spent_on place.units old) × (new.evaluation ≡ None))
  pub share : MatchOption to.more (more + left_on to.place.units new.evaluation < left_on place.units old.evaluation) (λ left. left + left_on place.units old.evaluation ≡ more + left_on to.place.units new.evaluation)
