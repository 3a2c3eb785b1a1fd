-- How many bytes a pipe gives and takes: this project's own.
use Rattle.std.specs.Prelude.{ℕ, List, length}
use Rattle.outbox.specs.Moves.{IsSome}
use Rattle.outbox.specs.declared.wire.Given.{Given}
use Rattle.outbox.specs.declared.wire.Given.TheVariants as given
use Rattle.outbox.specs.declared.wire.Taken.{Taken}
use Rattle.outbox.specs.declared.wire.Taken.TheVariants as taken

abbrev pub HasGiven : Given → List ℕ → Type 0
HasGiven (given.Bytes n) buffer = IsSome n (length buffer)
HasGiven given.Ended buffer = Unit {0}
HasGiven given.Blocked buffer = Unit {0}
HasGiven given.Failed buffer = Unit {0}

abbrev pub HasTaken : Taken → List ℕ → Type 0
HasTaken (taken.Bytes n) bytes = IsSome n (length bytes)
HasTaken taken.Blocked bytes = Unit {0}
HasTaken taken.Failed bytes = Unit {0}
