-- A share of work on a request.
use Rattle.std.proofs.Common.{◌≡◌, ℕ, List, Option, Some, None, Result, Ok, Err, refl, sym, ◌∙◌, subst}
use Rattle.std.specs.Prelude.{Box}
use Rattle.std.specs.declared.alloc.Global.{Global}
use Rattle.path_grammar.specs.Tree.{Segments}
use Rattle.path_types.specs.Verdict.{IsValidQuery}
use Rattle.tenant_map.specs.Maps.{Map, documents_of}
use Rattle.tenant_store.specs.Walks.{IsOnWay}
use Rattle.tenant_store.specs.declared.tasks.QueryTask.{QueryTask}
use Rattle.wire_frames.specs.Readings.{asked_of}
use Rattle.wire_frames.specs.Requests.{Asked, Query}
use Rattle.wire_frames.specs.declared.requests.Command.{Command}
use Rattle.request_replies.specs.Answers.{Gives}
use Rattle.request_replies.specs.Shares.{AnswersSome, AnswersTree, Goes, IsCharge, IsChargeOf, IsUnderWay, Spends, SpendsTree}

-- a request that is answered, and is no query with hits
pub answers_none : (command other : Command) (n : ℕ) (m m' : Map) (before after : List ℕ) → command ≡ other → Gives m (asked_of other) n before after m' → AnswersSome (Ok None) (asked_of command) n m before m' after
answers_none command other n m m' before after e g = (subst (λ k. Gives m (asked_of k) n before after m') (sym e) g, tt)

charge_of : (charge : Option ℕ) (c text : List ℕ) (m : Map) → IsCharge charge c text m → IsChargeOf charge (Query c text) m
charge_of None c text m h = tt
charge_of (Some units) c text m h = (c, text, refl, h)

-- a share of the query that a text is
pub of_tree : (r : Result (Option ℕ) (Box QueryTask Global)) (asked : Asked) (q : Segments) (c text : List ℕ) (n : ℕ) (m : Map) (before after : List ℕ) → asked ≡ Query c text → IsValidQuery text q → AnswersTree r q c n m before after → AnswersSome r asked n m before m after
of_tree (Ok charge) asked q c text n m before after e valid a =
    let b = a text valid in
    subst (λ k. AnswersSome (Ok charge) k n m before m after) (sym e) (b.0, charge_of charge c text m b.1)
of_tree (Err task) asked q c text n m before after e valid a =
    (refl, a.0, (c, text, e, record { valid = subst (λ k. IsValidQuery text k) (sym a.1.query) valid; on_way = subst (λ k. IsOnWay k (documents_of c m) task.value) (sym a.1.query) a.1 }))

-- what is under way is the query that is asked
pub goes_at : (asked : Asked) (c text : List ℕ) (m : Map) (task : QueryTask) → asked ≡ Query c text → IsUnderWay asked m task → Goes c text m task
goes_at asked c text m task e (c', text', e', g) =
    let same : Query c' text' ≡ Query c text = sym e' ∙ e in
    let x : c' ≡ c = cc in
    let y : text' ≡ text = cc in
    subst (λ k. Goes k text m task) x (subst (λ k. Goes c' k m task) y g)

-- what a share of it spends
pub spends_on : (r : Result (Option ℕ) (Box QueryTask Global)) (asked : Asked) (q : Segments) (c text : List ℕ) (m : Map) (units left : ℕ) → asked ≡ Query c text → IsValidQuery text q → SpendsTree r q (documents_of c m) units left → Spends r asked m units left
spends_on (Ok None) asked q c text m units left e valid s = tt
spends_on (Ok (Some charge)) asked q c text m units left e valid s = record { collection = c; text = text; asks = e; tree = q; valid = valid; spends = s }
spends_on (Err task) asked q c text m units left e valid s = record { collection = c; text = text; asks = e; tree = q; valid = valid; spends = s }
