-- What a query on a text answers (this project's own): the first refusal that applies, or a line for each hit.
use Rattle.std.specs.Prelude.{◌≡◌, ◌<◌, ◌≤◌, ℕ, ◌++◌, List}
use Rattle.json_tape.specs.Tree.{Tree}
use Rattle.json_tape.specs.Verdict.{IsRefused, IsAccepted}
use Rattle.json_tape.specs.Answer.{NoneApplies}
use Rattle.json_text.specs.declared.tape.TextFault.TheVariants as text
use Rattle.path_grammar.specs.Tree.{Segments}
use Rattle.path_types.specs.Verdict.{IsValidQuery, RefusesQueryText}
use Rattle.path_types.specs.declared.query_text.QueryFault.TheVariants as verdict
use Rattle.tape_select.specs.Budget.{budget}
use Rattle.tape_select.specs.Charge.{charge}
use Rattle.tenant_store.specs.Hits.{hits}
use Rattle.path_server.specs.Lines.{lines_of}
use Rattle.path_server.specs.declared.fault.QueryTextFault.{QueryTextFault}
use Rattle.path_server.specs.declared.fault.QueryTextFault.TheVariants.{TooLong, NotUtf8, NotJson, TooDeep, NumberLimit, LoneSurrogate, DuplicateName, QueryTooLong, NotWellFormed, NotValid, Costly, Memory}

-- no refusal of a text applies to the document
abbrev pub IsDocument : List ℕ → Type 0
IsDocument document = (t : Tree) × IsAccepted document t

-- Why a query on a document is refused: the first refusal that applies, in the order of the cases. Want of memory is met only with a document that is neither too long nor not UTF-8.
abbrev pub Refuses : (query document : List ℕ) → QueryTextFault → Type 0
Refuses query document TooLong = IsRefused document text.TooLong
Refuses query document NotUtf8 = IsRefused document text.NotUtf8
Refuses query document NotJson = IsRefused document text.NotJson
Refuses query document TooDeep = IsRefused document text.TooDeep
Refuses query document NumberLimit = IsRefused document text.NumberLimit
Refuses query document LoneSurrogate = IsRefused document text.LoneSurrogate
Refuses query document DuplicateName = IsRefused document text.DuplicateName
Refuses query document QueryTooLong = IsDocument document × RefusesQueryText query verdict.QueryTooLong
Refuses query document NotWellFormed = IsDocument document × RefusesQueryText query verdict.NotWellFormed
Refuses query document NotValid = IsDocument document × RefusesQueryText query verdict.NotValid
Refuses query document Costly = (t : Tree) × (q : Segments) × IsAccepted document t × IsValidQuery query q × (budget < charge t q)
Refuses query document Memory = NoneApplies document 2

-- the query is answered: the lines of its hits stand behind what stood there before
pub record Answers (query document old new : List ℕ) : Type 0 where
  pub tree : Tree
  pub segments : Segments
  pub accepted : IsAccepted document tree
  pub valid : IsValidQuery query segments
  pub within : charge tree segments ≤ budget
  pub appended : new ≡ old ++ lines_of (hits tree segments)
