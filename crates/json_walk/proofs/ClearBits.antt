-- How many bits of a word that are not set follow one another, where the last one is set.
use Rattle.std.proofs.Common.{◌≡◌, ℕ, ◌+◌, ◌-◌, ◌/◌, ◌^◌, ◌<◌, ◌≤◌, inl, inr, w64, sym, ◌∙◌, arith}
use Rattle.std.specs.Int.{bit_at, trailing_zeros}
use Rattle.std.proofs.lemmas.Bool.{cases_lt}
use Rattle.std.proofs.Math.Nat.{div-le_self}
use Rattle.std.proofs.lemmas.Nat.{shr-shr}
use Rattle.std.proofs.lemmas.Nat.Bits.{bit_at-trailing_zeros}

some_bit : (m i : ℕ) → bit_at m i ≡ 1 → 0 < m
some_bit x0 i e = grind arith

module _ (mask from : ℕ) (fits : mask < 2 ^ 64) (most : from < 64) (end : bit_at mask 63 ≡ 1) where
  abbrev word : ℕ
  word = mask / 2 ^ from

  same_bit : (i : ℕ) → bit_at word i ≡ bit_at mask (from + i)
  same_bit i = grind (arith, shr-shr mask from i)

  set_at : (n : ℕ) → from ≤ n → bit_at mask n ≡ 1 → bit_at word (n - from) ≡ 1
  set_at n above set = let back : from + (n - from) ≡ n = omega arith in grind (arith, same_bit (n - from), back, set)

  first_set : (trailing_zeros w64 word < 64) × (bit_at word (trailing_zeros w64 word) ≡ 1) × ((i : ℕ) → i < trailing_zeros w64 word → bit_at word i ≡ 0)
  first_set = let less = div-le_self mask (2 ^ from) in bit_at-trailing_zeros w64 word (some_bit word (63 - from) (set_at 63 (omega arith) end)) (omega (arith, less, fits))

  pub few_clear : (n : ℕ) → from ≤ n → n < 64 → bit_at mask n ≡ 1 → from + trailing_zeros w64 word ≤ n
  few_clear n above inside set = elim (cases_lt (n - from) (trailing_zeros w64 word)) [
    | inl past ↦ absurd (let clear = first_set.2 (n - from) past in let here = set_at n above set in omega (arith, clear, here))
    | inr within ↦ omega arith
  ]

  pub clear_from : (i : ℕ) → i < trailing_zeros w64 word → bit_at mask (from + i) ≡ 0
  clear_from i before = sym (same_bit i) ∙ first_set.2 i before
