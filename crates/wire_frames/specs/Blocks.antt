-- The bytes of a stream that wait, as a block of memory holds them: this project's own.
use Rattle.std.specs.Prelude.{ℕ, List, [], Option, Some, None, Box}
use Rattle.std.specs.declared.alloc.Global.{Global}
use Rattle.wire_frames.specs.declared.block.Block.{Block}

-- none where there is no block
abbrev pub bytes_in : Option (Box Block Global) → List ℕ
bytes_in None = []
bytes_in (Some block) = block.value.bytes.items
