-- A query that is evaluated in steps (this project's own): what it has done, what is left, and how far a step goes. The documents are passed one after the other, in key order,
-- and a step ends within one of them or behind it.
use Rattle.std.specs.Prelude.{◌≡◌, ◌⊎◌, ◌<◌, ◌≤◌, ◌+◌, ◌-◌, ℕ, List, [], ◌∷◌, ◌++◌, length, drop, nat_lt, if◌then◌else◌, Option, None, Some}
use Rattle.json_tape.specs.Document.{Doc, tree_of}
use Rattle.json_tape.specs.Verdict.{IsAccepted}
use Rattle.path_grammar.specs.Tree.{Segments}
use Rattle.tape_select.specs.Budget.{budget}
use Rattle.tape_select.specs.Charge.{total_of, charge}
use Rattle.query_machine.specs.Evaluators.{IsAtRest, IsEvaluating, left_on, query_in}
use Rattle.query_machine.specs.Levels.{IsOneStep}
use Rattle.query_machine.specs.declared.evaluator.Evaluator.{Evaluator}
use Rattle.query_machine.specs.declared.levels.Machine.{Machine}
use Rattle.tenant_map.specs.Listings.{number}
use Rattle.tenant_map.specs.Maps.{Documents}
use Rattle.tenant_store.specs.declared.walk.Reached.{Reached}
use Rattle.tenant_store.specs.declared.tasks.QueryTask.{QueryTask}
use Rattle.tenant_store.specs.declared.tasks.Progress.{Progress}
use Rattle.tenant_store.specs.declared.tasks.Progress.TheVariants.{Complete, Paused}
use Rattle.tenant_store.specs.Payloads.{Text, AreTextsOf, found_bytes, hit_count, query_fault, AnswersQuery}

-- Some of the texts are passed, and `rest` is left. Those that are passed show no fault. Their charges and the units are the budget. What is
-- written is their hits, behind four zeros in place of the number.
pub record Passes (q : Segments) (texts rest : List Text) (units count : ℕ) (written : List ℕ) : Type 0 where
  pub passed : List Text
  pub all : texts ≡ passed ++ rest
  pub no_fault : query_fault q 0 4 passed ≡ None
  pub spent : units + total_of (λ t. charge t.tree q) passed ≡ budget
  pub counted : count ≡ hit_count q passed
  pub bytes : written ≡ number 0 ++ found_bytes q passed

-- the query has so many texts left, and so many units and hits
pub record IsAt (q : Segments) (texts : List Text) (place : Reached) (written : List ℕ) : Type 0 where
  pub rest : List Text
  pub left : length rest ≡ place.documents
  pub passes : Passes q texts rest place.units place.hits written

-- the last ones, so many
abbrev pub last_of : {A : Type 0} → ℕ → List A → List A
last_of n xs = drop (length xs - n) xs

-- the evaluator begins with the first of these documents, or goes on with it, for so many units in all
abbrev pub IsReady : Documents → (units : ℕ) → Evaluator → Type 0
IsReady [] units e = IsAtRest e
IsReady (d ∷ ds) units e = IsEvaluating d.1 units e

-- the query is under way on the documents, of which some are left
pub record IsOnWay (q : Segments) (ds : Documents) (task : QueryTask) : Type 0 where
  pub texts : List Text
  pub read : AreTextsOf ds texts
  pub at : IsAt q texts task.place task.payload.items
  pub some : 1 ≤ task.place.documents
  pub query : query_in task.evaluator ≡ q
  pub ready : IsReady (last_of task.place.documents ds) task.place.units task.evaluator

-- the query that it answers
abbrev pub query_of : QueryTask → Segments
query_of task = query_in task.evaluator

-- how many units are left
abbrev pub units_left : QueryTask → ℕ
units_left task = left_on task.place.units task.evaluator.evaluation

-- a number that falls with each step
abbrev pub work_left : QueryTask → ℕ
work_left task = units_left task + 1

abbrev pub left_in : Progress → ℕ
left_in (Complete units) = 0
left_in (Paused task) = work_left task

-- the charges on all documents are so many units
pub record Charges (q : Segments) (ds : Documents) (units : ℕ) : Type 0 where
  pub texts : List Text
  pub read : AreTextsOf ds texts
  pub sum : units ≡ total_of (λ t. charge t.tree q) texts

-- the query is answered and charged, or under way, with nothing appended
abbrev pub Reaches : Progress → Segments → Documents → (old new : List ℕ) → Type 0
Reaches (Complete units) q ds old new = AnswersQuery q ds old new × Charges q ds units
Reaches (Paused task) q ds old new = IsOnWay q ds task × (new ≡ old)

-- a step that may go to the end does
abbrev pub IsComplete : Progress → Type 0
IsComplete (Complete units) = Unit {0}
IsComplete (Paused task) = ⊥

-- how many documents are left
abbrev pub documents_left : Progress → ℕ
documents_left (Complete units) = 0
documents_left (Paused task) = task.place.documents

-- 1 where it paused within the first of them
abbrev pub cut_of : Option Machine → ℕ
cut_of None = 0
cut_of (Some e) = 1

abbrev pub cut_in : Progress → ℕ
cut_in (Complete units) = 0
cut_in (Paused task) = cut_of task.evaluator.evaluation

-- what was spent on it
abbrev pub spent_on : (units : ℕ) → Evaluator → ℕ
spent_on units e = units - left_on units e.evaluation

-- it paused only where more than so many units were spent of those that were left
abbrev pub HasSpent : (units left : ℕ) → Progress → Type 0
HasSpent units left (Complete charge) = Unit {0}
HasSpent units left (Paused task) = units + units_left task < left

-- what a step of so many units leaves of these texts: it ends behind the one by which more are spent
unfoldable pub left_by : Segments → (units : ℕ) → List Text → List Text
left_by q units [] = []
left_by q units (t ∷ ts) = if nat_lt units (charge t.tree q) then ts else left_by q (units - charge t.tree q) ts

-- A step of so many units, begun where so many documents and units were left, and some units were spent on the first of these documents. It ends behind the one by which more
-- are spent, or within it.
pub record IsStep (q : Segments) (ds : Documents) (units documents begun left : ℕ) (to : Progress) : Type 0 where
  pub texts : List Text
  pub read : AreTextsOf ds texts
  pub passed : documents_left to ≡ length (left_by q (units + begun) (last_of documents texts)) + cut_in to
  pub spent : HasSpent units left to

-- ---- What a step spends at most

-- one step of the query on one of these documents takes so many units to so many others at least
pub record IsOneStepOn (q : Segments) (ds : Documents) (old new : ℕ) : Type 0 where
  pub document : Doc
  pub accepted : IsAccepted document.text (tree_of document)
  pub place : ℕ
  pub name : List ℕ
  pub others : Documents
  pub its : last_of place ds ≡ (name, document.text) ∷ others
  pub evaluator : Evaluator
  pub query : query_in evaluator ≡ q
  pub one : IsOneStep document evaluator.parts old new

-- or none
abbrev pub IsLittle : Segments → Documents → (old new : ℕ) → Type 0
IsLittle q ds old new = (old ≤ new) ⊎ IsOneStepOn q ds old new

-- the units that are left then
abbrev pub left_then : Progress → ℕ
left_then (Complete charge) = budget - charge
left_then (Paused task) = units_left task

-- A step of so many units, begun where so many were left, spends these and one step of the query.
pub record SpendsShare (q : Segments) (ds : Documents) (units left : ℕ) (to : Progress) : Type 0 where
  pub little : IsLittle q ds left (units + left_then to)
