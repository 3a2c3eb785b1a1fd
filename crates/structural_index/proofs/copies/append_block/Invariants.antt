use Rattle.std.proofs.Common.{◌≡◌, ◌+◌, ◌++◌, take, vec_len, vec_capacity}
use Rattle.structural_index.proofs.copies.append_block.Given as goal

abbrev pub invariant-loop-k : goal.invariant-loop-k
invariant-loop-k l =
    record {
      appended : l.copy.items ≡ l.fn.copy.items ++ take l.k l.lanes;
      len : vec_len l.copy ≡ vec_len l.fn.copy + l.k;
      capacity : vec_capacity l.copy ≡ vec_capacity l.fn.copy;
    }
