-- A word is the number and the byte that it was joined of.
use Rattle.std.proofs.Common.{◌≡◌, ℕ, ◌+◌, ◌*◌, ◌^◌, ◌<◌, arith}
use Rattle.std.proofs.lemmas.Nat.{mod-mul-add, div-mul-add, div_below, mod_below}
use Rattle.tape_cells.specs.Cells.{low, high}

pub low_joined : (byte number : ℕ) → number < 2 ^ 24 → low (byte * 16777216 + number) ≡ number
unfolding low
low_joined byte number h = mod-mul-add byte 16777216 number h

pub high_joined : (byte number : ℕ) → number < 2 ^ 24 → high (byte * 16777216 + number) ≡ byte
unfolding high
high_joined byte number h = div-mul-add byte 16777216 number h

pub low_small : (word : ℕ) → low word < 2 ^ 24
unfolding low
low_small word = mod_below word 16777216 (omega arith)

pub high_small : (word : ℕ) → word < 2 ^ 32 → high word < 256
unfolding high
high_small word h = div_below word 16777216 256 (omega arith) h
