-- What a wire over a stream does to the bytes that the stream has left and holds, where it tells them: this project's own.
use Rattle.std.specs.Prelude.{ℕ, ◌<◌, List, [], length, take, Option}
use Rattle.std.specs.Io.KnownBytes.{Keeps, Appends, Consumes, IsAtEnd}
use Rattle.outbox.specs.declared.wire.Given.{Given}
use Rattle.outbox.specs.declared.wire.Given.TheVariants as given
use Rattle.outbox.specs.declared.wire.Taken.{Taken}
use Rattle.outbox.specs.declared.wire.Taken.TheVariants as taken

-- a read takes what it gives off the bytes that are left; the end comes where none is
abbrev pub GivesFrom : Option (List ℕ) → Option (List ℕ) → Given → List ℕ → Type 0
GivesFrom old new (given.Bytes n) buffer = Consumes old new (take n buffer)
GivesFrom old new given.Ended buffer = Consumes old new [] × (0 < length buffer → IsAtEnd new)
GivesFrom old new given.Blocked buffer = Keeps old new
GivesFrom old new given.Failed buffer = Keeps old new

-- a write adds what it took to the bytes that are held
abbrev pub TakesTo : Option (List ℕ) → Option (List ℕ) → Taken → List ℕ → Type 0
TakesTo old new (taken.Bytes n) bytes = Appends old new (take n bytes)
TakesTo old new taken.Blocked bytes = Keeps old new
TakesTo old new taken.Failed bytes = Appends old new []
