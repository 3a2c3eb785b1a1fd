-- How the split of a stream follows from what the stream begins with: this project's own framing, as its users walk along it.
use Rattle.std.specs.Prelude.{◌≡◌, ℕ, ◌<◌, List, [], ◌++◌, length}
use Rattle.wire_frames.specs.Frames.{Whole, Wait, Fault, front, split, and_then, after_frames, frames, rest}

pub record Splitting : Type 0 where
  pub whole : (stream body more : List ℕ) → front stream ≡ Whole body more → split stream ≡ and_then body (split more)
  pub wait : (stream : List ℕ) → front stream ≡ Wait → split stream ≡ record { frames = []; rest = stream }
  pub fault : (stream : List ℕ) → front stream ≡ Fault → split stream ≡ record { frames = []; rest = stream }
  pub shorter : (stream body more : List ℕ) → front stream ≡ Whole body more → length more < length stream
  pub short : (stream : List ℕ) → length stream < 4 → front stream ≡ Wait
  pub fault_stays : (stream more : List ℕ) → front stream ≡ Fault → front (stream ++ more) ≡ Fault
  pub prefix : (stream more : List ℕ) → split (stream ++ more) ≡ after_frames (frames stream) (split (rest stream ++ more))
