-- What a query on a stream does (this project's own): to the text that a reader has left it answers or refuses as to a text at hand, and only an answer is written.
use Rattle.std.specs.Prelude.{◌≡◌, ◌⊎◌, ℕ, List, [], IfSome}
use Rattle.std.specs.Io.KnownBytes.{Keeps, Appends}
use Rattle.std.specs.declared.option.Option.{Option}
use Rattle.standard_streams.specs.Fronts.{StopsShort}
use Rattle.path_server.specs.QueryText.{Refuses, Answers}
use Rattle.path_server.specs.declared.fault.QueryTextFault.TheVariants.{Memory}
use Rattle.path_server.specs.declared.streams.QueryStreamFault.{QueryStreamFault}
use Rattle.path_server.specs.declared.streams.QueryStreamFault.TheVariants.{Read, Refused, Write}

-- the lines of the hits in the reader's text, where that is known, are written behind what the writer held
abbrev pub AnswersStream : (query : List ℕ) → (left old new : Option (List ℕ)) → Type 0
AnswersStream query left old new = IfSome left (λ document. (lines : List ℕ) × Answers query document [] lines × Appends old new lines)

-- the lines of the hits in the reader's text, where that is known, are broken off: a front of them is written, and there is more of them
abbrev pub BreaksOff : (query : List ℕ) → (left old new : Option (List ℕ)) → Type 0
BreaksOff query left old new = IfSome left (λ document. (lines : List ℕ) × Answers query document [] lines × StopsShort lines old new)

-- a refusal is one of the reader's text, and nothing is written before the text is read and answered; after that memory or the writer breaks the lines off
abbrev pub FailsStream : (query : List ℕ) → (left old new : Option (List ℕ)) → QueryStreamFault → Type 0
FailsStream query left old new (Read fault) = Keeps old new
FailsStream query left old new (Refused fault) = IfSome left (λ document. Refuses query document fault) × (Keeps old new ⊎ (fault ≡ Memory) × BreaksOff query left old new)
FailsStream query left old new (Write fault) = BreaksOff query left old new
