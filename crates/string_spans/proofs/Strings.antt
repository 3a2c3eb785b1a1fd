-- The words that `spans` makes of the parities of the real quotes.
use Rattle.std.proofs.Common.{◌≡◌, ℕ, suc, ◌+◌, ◌/◌, ◌^◌, ◌<◌, Bool, ◌==◌, cond, sym, ap₂, ◌∙◌, arith}
use lib.Bits.{bit_and, bit_xor, xor_lt}
use Rattle.bit_words.specs.Words.{is_set, is_odd, HasBits}
use Rattle.bit_words.proofs.Bits.{xor, odd_suc, is_set-and, is_set-xor, complement, is_set-complement, top_bit, spread, is_set-spread, spread_lt}
use Rattle.string_spans.specs.Quotes.{ones_below, parity_through, quotes_before, is_opening, is_closing, is_interior}
use Rattle.string_spans.proofs.Folds.{parity, parity-suc}

-- a block that begins within a string turns every parity
before : (s : Bool) (n : ℕ) → is_odd (cond s 1 0 + n) ≡ xor (is_odd n) s
before s n = grind (arith, odd_suc)

module _ (s : Bool) (q p : ℕ) (q_lt : q < 2 ^ 64) (p_lt : p < 2 ^ 64) (folds : HasBits p (parity_through q)) where
  -- the bytes within a string, an opening quote among them and a closing one not
  abbrev pub within : ℕ
  within = bit_xor p (spread s)

  within_lt : within < 2 ^ 64
  within_lt = xor_lt 64 p (spread s) p_lt (spread_lt s)

  abbrev odd : ℕ → Bool
  odd i = is_odd (quotes_before s q i)

  is_within : (i : ℕ) → i < 64 → is_set within i ≡ xor (parity q (suc i)) s
  is_within i h = is_set-xor p (spread s) i ∙ ap₂ xor (folds i h) (is_set-spread s i h)

  step : (i : ℕ) → i < 64 → is_set within i ≡ xor (odd i) (is_set q i)
  step i h =
      grind (arith, is_within i h, parity-suc q i, before s (ones_below q i))

  pub opening : HasBits (bit_and within q) (is_opening s q)
  opening i h = grind (arith, is_set-and, step i h)

  pub closing : HasBits (bit_and q (complement within)) (is_closing s q)
  closing i h = grind (arith, is_set-and, is_set-complement within i within_lt h, step i h)

  pub interior : HasBits (bit_and within (complement q)) (is_interior s q)
  interior i h = grind (arith, is_set-and, is_set-complement q i q_lt h, step i h)

  pub last : (within / 2 ^ 63 == 1) ≡ odd 64
  last = top_bit within within_lt ∙ is_within 63 (omega arith) ∙ sym (before s (ones_below q 64))
