-- What a read gives, and a write takes: this project's own contract with a wire that never waits.
use Rattle.std.specs.Prelude.{◌≡◌, ℕ, ◌<◌, ◌≤◌, List, length, take, Option}
use Rattle.outbox.specs.Traffic.{Traffic, with_read, with_written}
use Rattle.outbox.specs.declared.wire.Given.{Given}
use Rattle.outbox.specs.declared.wire.Given.TheVariants as given
use Rattle.outbox.specs.declared.wire.Taken.{Taken}
use Rattle.outbox.specs.declared.wire.Taken.TheVariants as taken

-- so many of the bytes, and at least one where there is one
pub record IsSome (count all : ℕ) : Type 0 where
  pub within : count ≤ all
  pub some : 0 < all → 0 < count

abbrev pub Gives : Option Traffic → Given → List ℕ → Option Traffic → Type 0
Gives old (given.Bytes n) buffer new = IsSome n (length buffer) × (new ≡ with_read (take n buffer) old)
Gives old given.Ended buffer new = new ≡ old
Gives old given.Blocked buffer new = new ≡ old
Gives old given.Failed buffer new = new ≡ old

abbrev pub Takes : Option Traffic → List ℕ → Taken → Option Traffic → Type 0
Takes old bytes (taken.Bytes n) new = IsSome n (length bytes) × (new ≡ with_written (take n bytes) old)
Takes old bytes taken.Blocked new = new ≡ old
Takes old bytes taken.Failed new = new ≡ old
