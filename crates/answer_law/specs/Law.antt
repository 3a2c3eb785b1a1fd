-- The law of answers: this project's own. What is a text (RFC 8259) and what a query (RFC 9535) is said by grammars, which decide nothing, so that there is an answer is said as: it cannot be that there is none.
use Rattle.std.specs.Prelude.{ℕ, List, []}
use Rattle.std.specs.List.{AllByRecursion}
use Rattle.tenant_map.specs.Answers.{IsDocument}
use Rattle.tenant_map.specs.Maps.{Documents, Map}
use Rattle.request_replies.specs.Answers.{Answers, Alone}

-- it cannot be that there is none
abbrev pub IsThere : Type 0 → Type 0
IsThere A = (A → ⊥) → ⊥

-- each text is accepted
abbrev pub AreDocuments : Documents → Type 0
AreDocuments ds = AllByRecursion (λ d. IsDocument d.1) ds

abbrev pub HoldsDocuments : Map → Type 0
HoldsDocuments m = AllByRecursion (λ e. AreDocuments e.1) m

-- a reply to the body, and a map of accepted texts after it
pub record HasAnswer (m : Map) (body : List ℕ) : Type 0 where
  pub frame : List ℕ
  pub after : Map
  pub answers : Answers m body frame after
  pub holds : HoldsDocuments after

abbrev pub BodiesAreAnswered : Type 0
BodiesAreAnswered = (m : Map) (body : List ℕ) → HoldsDocuments m → IsThere (HasAnswer m body)

-- replies to a tenant's requests, one after another, from a map
abbrev pub HasReplies : Map → List (List ℕ) → Type 0
HasReplies m bodies = (frames : List (List ℕ)) × Alone m bodies frames

abbrev pub ListsAreAnswered : Type 0
ListsAreAnswered = (bodies : List (List ℕ)) → IsThere (HasReplies [] bodies)
