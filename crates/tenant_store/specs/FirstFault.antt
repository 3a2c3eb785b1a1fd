-- Which document decides that a query is refused (this project's own rule): the first, in key order, that shows a fault.
use Rattle.std.specs.Prelude.{◌<◌, ◌≤◌, ◌↔◌, ◌+◌, ℕ, suc, List, ◌++◌, length, take}
use Rattle.path_grammar.specs.Tree.{Segments}
use Rattle.tape_select.specs.Budget.{budget}
use Rattle.tape_select.specs.Charge.{total_of, charge}
use Rattle.tenant_map.specs.declared.faults.StoreFault.TheVariants.{ReplyTooLarge, Costly}
use Rattle.tenant_map.specs.Maps.{Documents}
use Rattle.store_names.specs.Lengths.{payload_limit}
use Rattle.tenant_store.specs.Payloads.{Text, AreTextsOf, found_bytes, payload, AnswersQuery, RefusesQuery}

-- the charge on the documents up to the one at this place
abbrev pub charge_through : Segments → List Text → ℕ → ℕ
charge_through q ts place = total_of (λ t. charge t.tree q) (take (suc place) ts)

-- the bytes of the payload with the hits of the documents up to the one at this place
abbrev pub size_through : Segments → List Text → ℕ → ℕ
size_through q ts place = 4 + length (found_bytes q (take (suc place) ts))

-- at the document at this place the charge so far is above the budget
abbrev pub ShowsCostly : Segments → List Text → ℕ → Type 0
ShowsCostly q ts place = (place < length ts) × (budget < charge_through q ts place)

-- at the document at this place the payload so far is too long
abbrev pub ShowsTooLarge : Segments → List Text → ℕ → Type 0
ShowsTooLarge q ts place = (place < length ts) × (payload_limit < size_through q ts place)

-- a document that shows Costly comes before every one that shows ReplyTooLarge, or is the first of them
abbrev pub IsCostlyFirst : Segments → List Text → Type 0
IsCostlyFirst q ts = (place : ℕ) × ShowsCostly q ts place × ((other : ℕ) → other < place → ShowsTooLarge q ts other → ⊥)

-- a document that shows ReplyTooLarge comes before every one that shows Costly
abbrev pub IsTooLargeFirst : Segments → List Text → Type 0
IsTooLargeFirst q ts = (place : ℕ) × ShowsTooLarge q ts place × ((other : ℕ) → other ≤ place → ShowsCostly q ts other → ⊥)

-- no document shows a fault
abbrev pub AreWithin : Segments → List Text → Type 0
AreWithin q ts = (place : ℕ) → (ShowsCostly q ts place → ⊥) × (ShowsTooLarge q ts place → ⊥)

-- a query on the documents of a collection, whose texts are these, in key order
pub record QueriesRefuseInOrder : Type 0 where
  pub costly : (q : Segments) (ds : Documents) (ts : List Text) → AreTextsOf ds ts → RefusesQuery q ds Costly ↔ IsCostlyFirst q ts
  pub too_large : (q : Segments) (ds : Documents) (ts : List Text) → AreTextsOf ds ts → RefusesQuery q ds ReplyTooLarge ↔ IsTooLargeFirst q ts
  pub answered : (q : Segments) (ds : Documents) (ts : List Text) (old : List ℕ) → AreTextsOf ds ts → AnswersQuery q ds old (old ++ payload q ts) ↔ AreWithin q ts
