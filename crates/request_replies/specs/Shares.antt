-- A request of a tenant that is answered a share at a time (this project's own): a query may pause, and all else is answered.
use Rattle.std.specs.Prelude.{◌≡◌, ◌<◌, ℕ, List, [], ◌++◌, Option, Some, None, Result, Ok, Err, Box}
use Rattle.std.specs.declared.alloc.Global.{Global}
use Rattle.path_grammar.specs.Tree.{Segments}
use Rattle.path_grammar.specs.View.{query_view}
use Rattle.path_types.specs.Verdict.{IsValidQuery}
use Rattle.tenant_map.specs.Maps.{Documents, Map, documents_of}
use Rattle.tenant_map.specs.Tenancy.{Tenancy, place_in}
use Rattle.tape_select.specs.Budget.{budget}
use Rattle.tenant_store.specs.Walks.{Charges, IsOnWay, SpendsShare, query_of, units_left, work_left}
use Rattle.tenant_store.specs.declared.tasks.Progress.{Progress}
use Rattle.tenant_store.specs.declared.tasks.Progress.TheVariants.{Complete, Paused}
use Rattle.tenant_store.specs.declared.tasks.QueryTask.{QueryTask}
use Rattle.wire_frames.specs.Readings.{asked_of}
use Rattle.wire_frames.specs.Replies.{reply}
use Rattle.wire_frames.specs.Requests.{Asked, Asks, Query, reading}
use Rattle.request_replies.specs.Answers.{Gives}
use Rattle.request_replies.specs.declared.placing.Placed.{Placed}
use Rattle.request_replies.specs.declared.queries.Stage.{Stage}
use Rattle.request_replies.specs.declared.queries.Stage.TheVariants as stage

-- the body asks this of the tenant at the place
pub record IsPlaced (t : Tenancy) (body : List ℕ) (request : Placed) : Type 0 where
  pub key : List ℕ
  pub reads : Asks request.number key (asked_of request.command) ≡ reading body
  pub at : place_in t.keys key ≡ Some request.place

-- a reply with this status and no payload is the answer
abbrev pub Settles : Map → Asked → ℕ → Map → Type 0
Settles old asked status new = (number : ℕ) (before : List ℕ) → Gives old asked number before (before ++ reply status number []) new

-- the query that the text is, on its way to its answer from the collection of this map
pub record Goes (collection text : List ℕ) (m : Map) (task : QueryTask) : Type 0 where
  pub valid : IsValidQuery text (query_of task)
  pub on_way : IsOnWay (query_of task) (documents_of collection m) task

-- so is what is asked
abbrev pub IsUnderWay : Asked → Map → QueryTask → Type 0
IsUnderWay asked m task = (collection : List ℕ) × (text : List ℕ) × (asked ≡ Query collection text) × Goes collection text m task

-- if units are told, they are the charge of the query on the collection of this map
abbrev pub IsCharge : Option ℕ → (collection text : List ℕ) → Map → Type 0
IsCharge None collection text m = Unit {0}
IsCharge (Some units) collection text m = (q : Segments) × IsValidQuery text q × Charges q (documents_of collection m) units

-- so they are of what is asked
abbrev pub IsChargeOf : Option ℕ → Asked → Map → Type 0
IsChargeOf None asked m = Unit {0}
IsChargeOf (Some units) asked m = (collection : List ℕ) × (text : List ℕ) × (asked ≡ Query collection text) × IsCharge (Some units) collection text m

-- What a share leaves: the answer and the charge, or the query under way and nothing else.
abbrev pub AnswersSome : Result (Option ℕ) (Box QueryTask Global) → Asked → (number : ℕ) → Map → List ℕ → Map → List ℕ → Type 0
AnswersSome (Ok charge) asked number old before new after = Gives old asked number before after new × IsChargeOf charge asked old
AnswersSome (Err task) asked number old before new after = (new ≡ old) × (after ≡ before) × IsUnderWay asked old task.value

-- the units with which a share begins
abbrev pub left_with : Option (Box QueryTask Global) → ℕ
left_with None = budget
left_with (Some task) = units_left task.value

-- a share of the query that is asked spends these and one step of it
pub record SpendsOn (asked : Asked) (m : Map) (units left : ℕ) (to : Progress) : Type 0 where
  pub collection : List ℕ
  pub text : List ℕ
  pub asks : asked ≡ Query collection text
  pub tree : Segments
  pub valid : IsValidQuery text tree
  pub spends : SpendsShare tree (documents_of collection m) units left to

-- where it is a query that goes on, or whose charge is told
abbrev pub Spends : Result (Option ℕ) (Box QueryTask Global) → Asked → Map → (units left : ℕ) → Type 0
Spends (Ok None) asked m units left = Unit {0}
Spends (Ok (Some charge)) asked m units left = SpendsOn asked m units left (Complete charge)
Spends (Err task) asked m units left = SpendsOn asked m units left (Paused task.value)

-- ---- Of a query

-- its tree
abbrev pub tree_of : Stage → Segments
tree_of (stage.Fresh query) = query_view query.now
tree_of (stage.UnderWay task) = query_of task.value

abbrev pub IsReady : Stage → Documents → Type 0
IsReady (stage.Fresh query) ds = Unit {0}
IsReady (stage.UnderWay task) ds = IsOnWay (query_of task.value) ds task.value

-- less is left than was
abbrev pub LeavesLess : Stage → (left : ℕ) → Type 0
LeavesLess (stage.Fresh query) left = Unit {0}
LeavesLess (stage.UnderWay task) left = left < work_left task.value

abbrev pub IsFresh : Stage → Type 0
IsFresh (stage.Fresh query) = Unit {0}
IsFresh (stage.UnderWay task) = ⊥

-- a share answers, or goes on, for each text of a query that has this tree
abbrev pub AnswersTree : Result (Option ℕ) (Box QueryTask Global) → Segments → (collection : List ℕ) → (number : ℕ) → Map → (before after : List ℕ) → Type 0
AnswersTree (Ok charge) q collection number m before after = (text : List ℕ) → IsValidQuery text q → Gives m (Query collection text) number before after m × IsCharge charge collection text m
AnswersTree (Err task) q collection number m before after = (after ≡ before) × IsOnWay q (documents_of collection m) task.value

abbrev pub left_at : Stage → ℕ
left_at (stage.Fresh query) = budget
left_at (stage.UnderWay task) = units_left task.value

abbrev pub SpendsTree : Result (Option ℕ) (Box QueryTask Global) → Segments → Documents → (units left : ℕ) → Type 0
SpendsTree (Ok None) q ds units left = Unit {0}
SpendsTree (Ok (Some charge)) q ds units left = SpendsShare q ds units left (Complete charge)
SpendsTree (Err task) q ds units left = SpendsShare q ds units left (Paused task.value)
