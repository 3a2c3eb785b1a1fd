-- A tenant's answer to a request, from a plain map of its texts: this project's own commands and statuses. It is said as a relation, since the verdicts on texts (RFC 8259) and queries (RFC 9535) are relations.
use Rattle.std.specs.Prelude.{◌≡◌, ◌≢◌, ◌⊎◌, ℕ, List, [], ◌∷◌, ◌++◌, Option, Some, None, slice_index, ◌==◌, Bool, true, false, not, ◌&&◌, ◌||◌, nat_le, IsTrue}
use Rattle.std.specs.Bool.{MatchBool}
use Rattle.std.specs.Map.{lookup}
use Rattle.path_grammar.specs.Tree.{Segments}
use Rattle.path_types.specs.Verdict.{IsValidQuery, RefusesQueryText}
use Rattle.path_types.specs.declared.query_text.QueryFault.{QueryFault}
use Rattle.path_types.specs.declared.query_text.QueryFault.TheVariants as query
use Rattle.tenant_map.specs.declared.faults.StoreFault.{StoreFault}
use Rattle.tenant_map.specs.declared.faults.StoreFault.TheVariants as store
use Rattle.tenant_map.specs.Statuses.{status_of}
use Rattle.tenant_map.specs.Keyed.{at}
use Rattle.tenant_map.specs.Maps.{Map, text_at, documents_of, remove_text, drop_texts}
use Rattle.tenant_map.specs.Answers.{AcceptsPut, RefusesPut, AcceptsPutNew, RefusesPutNew, missing}
use Rattle.tenant_map.specs.Listings.{number, listing}
use Rattle.tenant_store.specs.Payloads.{AnswersQuery, RefusesQuery}
use Rattle.tenant_map.specs.Quotas.{usage_of}
use Rattle.wire_frames.specs.Requests.{Asked, Put, Get, Remove, ListNames, Query, DropCollection, Usage, PutNew, Reading, Short, BadCommand, BadFields, Asks, reading}
use Rattle.wire_frames.specs.Replies.{reply}

-- three numbers: collections, documents and bytes of texts
abbrev pub usage_payload : Map → List ℕ
usage_payload m = number (usage_of m).collections ++ number (usage_of m).documents ++ number (usage_of m).bytes

-- the query's text is valid, and its hits on the collection's documents are the payload
abbrev pub Finds : (collection text : List ℕ) → Map → List ℕ → Type 0
Finds collection text m payload = (tree : Segments) × IsValidQuery text tree × AnswersQuery tree (documents_of collection m) [] payload

-- The command is done: the payload of its reply, and the map after it.
abbrev pub Does : Asked → Map → List ℕ → Map → Type 0
Does (Put c d text) m payload m' = AcceptsPut c d text m m' × (payload ≡ [])
Does (Get c d) m payload m' = (text_at c d m ≡ Some payload) × (m' ≡ m)
Does (Remove c d) m payload m' = (missing (text_at c d m) ≡ None) × (payload ≡ []) × (m' ≡ remove_text c d m)
Does (ListNames c) m payload m' = (payload ≡ listing (documents_of c m)) × (m' ≡ m)
Does (Query c text) m payload m' = Finds c text m payload × (m' ≡ m)
Does (DropCollection c) m payload m' = (missing (lookup (at c) m) ≡ None) × (payload ≡ []) × (m' ≡ drop_texts c m)
Does Usage m payload m' = (payload ≡ usage_payload m) × (m' ≡ m)
Does (PutNew c d text) m payload m' = AcceptsPutNew c d text m m' × (payload ≡ [])

-- the status of one of these faults that is not want of memory
abbrev pub HasStatus : (StoreFault → Type 0) → ℕ → Type 0
HasStatus refused status = (fault : StoreFault) × refused fault × (fault ≢ store.NoMemory) × (status ≡ status_of fault)

-- what is looked for is not there
abbrev pub IsMissing : {X : Type 0} → Option X → StoreFault → Type 0
IsMissing look fault = missing look ≡ Some fault

abbrev pub query_status : QueryFault → ℕ
query_status query.QueryTooLong = 16
query_status query.NotWellFormed = 17
query_status query.NotValid = 18
query_status query.Memory = 21

-- the query's text is refused
abbrev pub RefusesText : List ℕ → ℕ → Type 0
RefusesText text status = (fault : QueryFault) × RefusesQueryText text fault × (fault ≢ query.Memory) × (status ≡ query_status fault)

-- or its evaluation on the collection's documents
abbrev pub RefusesHits : (collection text : List ℕ) → Map → ℕ → Type 0
RefusesHits collection text m status = (tree : Segments) × IsValidQuery text tree × HasStatus (RefusesQuery tree (documents_of collection m)) status

-- Or it is refused with a status, and changes nothing.
abbrev pub Refuses : Asked → Map → ℕ → Type 0
Refuses (Put c d text) m status = HasStatus (RefusesPut c d text m) status
Refuses (Get c d) m status = HasStatus (IsMissing (text_at c d m)) status
Refuses (Remove c d) m status = HasStatus (IsMissing (text_at c d m)) status
Refuses (ListNames c) m status = ⊥
Refuses (Query c text) m status = RefusesText text status ⊎ RefusesHits c text m status
Refuses (DropCollection c) m status = HasStatus (IsMissing (lookup (at c) m)) status
Refuses Usage m status = ⊥
Refuses (PutNew c d text) m status = HasStatus (RefusesPutNew c d text m) status

pub record IsDone (asked : Asked) (number : ℕ) (m : Map) (frame : List ℕ) (m' : Map) : Type 0 where
  pub payload : List ℕ
  pub does : Does asked m payload m'
  pub frame_is : frame ≡ reply 0 number payload

pub record IsRefused (asked : Asked) (number : ℕ) (m : Map) (frame : List ℕ) (m' : Map) : Type 0 where
  pub status : ℕ
  pub refuses : Refuses asked m status
  pub frame_is : frame ≡ reply status number []
  pub map_is : m' ≡ m

-- the reply frame to a command, and the map after it
abbrev pub IsAnswer : Asked → ℕ → Map → List ℕ → Map → Type 0
IsAnswer asked number m frame m' = IsDone asked number m frame m' ⊎ IsRefused asked number m frame m'

abbrev pub AnswersReading : Reading → Map → List ℕ → Map → Type 0
AnswersReading (Short number) m frame m' = (frame ≡ reply 1 number []) × (m' ≡ m)
AnswersReading (BadCommand number key) m frame m' = (frame ≡ reply 3 number []) × (m' ≡ m)
AnswersReading (BadFields number key) m frame m' = (frame ≡ reply 4 number []) × (m' ≡ m)
AnswersReading (Asks number key asked) m frame m' = IsAnswer asked number m frame m'

-- The reply frame to a body, and the map after it.
abbrev pub Answers : Map → List ℕ → List ℕ → Map → Type 0
Answers m body frame m' = AnswersReading (reading body) m frame m'

-- The replies to bodies, one after another, from a map.
abbrev pub Alone : Map → List (List ℕ) → List (List ℕ) → Type 0
Alone m [] [] = Unit {0}
Alone m [] (frame ∷ frames) = ⊥
Alone m (body ∷ bodies) [] = ⊥
Alone m (body ∷ bodies) (frame ∷ frames) = (m' : Map) × Answers m body frame m' × Alone m' bodies frames

-- ---- Want of memory

abbrev pub status_in : List ℕ → ℕ
status_in frame = slice_index frame 4

-- a reply that memory ran out
abbrev pub is_no_memory : List ℕ → Bool
is_no_memory frame = status_in frame == 21

-- the statuses that need no memory
abbrev pub is_free : ℕ → Bool
is_free status = (nat_le 1 status && nat_le status 6) || status == 15 || status == 16

-- the commands whose Ok needs none
abbrev pub is_plain : Asked → Bool
is_plain (Put c d text) = false
is_plain (Get c d) = false
is_plain (Remove c d) = true
is_plain (ListNames c) = false
is_plain (Query c text) = false
is_plain (DropCollection c) = true
is_plain Usage = true
is_plain (PutNew c d text) = false

-- a request that gets this reply may want memory
abbrev pub may_want : Asked → List ℕ → Bool
may_want asked frame = not (is_free (status_in frame)) && not (status_in frame == 0 && is_plain asked)

abbrev pub reading_wants : Reading → List ℕ → Bool
reading_wants (Short number) frame = false
reading_wants (BadCommand number key) frame = false
reading_wants (BadFields number key) frame = false
reading_wants (Asks number key asked) frame = may_want asked frame

-- memory may be wanted only where no reply is promised without it
abbrev pub MayWant : Asked → ℕ → Map → Type 0
MayWant asked number m = (frame : List ℕ) (m' : Map) → IsAnswer asked number m frame m' → IsTrue (may_want asked frame)

-- what is appended is the answer's frame, or the reply that memory ran out, and then nothing changes
abbrev pub Gives : Map → Asked → ℕ → List ℕ → List ℕ → Map → Type 0
Gives old asked number before after new = (frame : List ℕ) × (after ≡ before ++ frame)
    × MatchBool (is_no_memory frame) ((frame ≡ reply 21 number []) × (new ≡ old) × MayWant asked number old) (IsAnswer asked number old frame new)
