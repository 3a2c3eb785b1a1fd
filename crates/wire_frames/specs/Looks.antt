-- What a look at the first bytes shows of the frame that they begin.
use Rattle.std.specs.Prelude.{◌≡◌, ℕ, ◌+◌, ◌≤◌, List, length, take, drop}
use Rattle.wire_frames.specs.Frames as frames
use Rattle.wire_frames.specs.Frames.{front}
use Rattle.wire_frames.specs.declared.framing.Look.{Look}
use Rattle.wire_frames.specs.declared.framing.Look.TheVariants.{Frame, Wait, Fault}

abbrev pub Shows : List ℕ → Look → Type 0
Shows stream (Frame n) = (4 + n ≤ length stream) × (front stream ≡ frames.Whole (take n (drop 4 stream)) (drop n (drop 4 stream)))
Shows stream Wait = front stream ≡ frames.Wait
Shows stream Fault = front stream ≡ frames.Fault
