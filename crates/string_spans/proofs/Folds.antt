-- The parities of runs of bits, as a word folded over itself gives them.
use Rattle.std.proofs.Common.{◌≡◌, ℕ, zero, suc, ◌+◌, ◌-◌, ◌<◌, ◌≤◌, inl, inr, Bool, false, refl, sym, ap, ap₂, ◌∙◌, arith}
use Rattle.std.proofs.lemmas.Bool.{cases_lt}
use lib.Bits.{bit_xor}
use Rattle.bit_words.specs.Words.{is_set, is_odd, HasBits}
use Rattle.bit_words.proofs.Bits.{xor, odd_suc, is_set-xor, shifted, is_set-shifted, is_set-shifted_low}
use Rattle.string_spans.specs.Quotes.{ones_below, parity_through}

-- the parity of the bits below bit i
abbrev pub parity : ℕ → ℕ → Bool
parity word i = is_odd (ones_below word i)

pub parity-suc : (word i : ℕ) → parity word (suc i) ≡ xor (parity word i) (is_set word i)
unfolding ones_below
parity-suc word i = grind (arith, odd_suc)

pub parity-zero : (word : ℕ) → parity word 0 ≡ false
unfolding ones_below
parity-zero word = refl

-- the sum of n bits from bit i downwards, or of all of them where there are fewer
unfoldable pub sum_down : (word i n : ℕ) → Bool
sum_down word i zero = false
sum_down word zero (suc n) = is_set word zero
sum_down word (suc i) (suc n) = xor (is_set word (suc i)) (sum_down word i n)

-- a sum in two parts, the lower of which begins n bits further down
in_parts : (word n i j k m : ℕ) → i ≡ n + j → k ≡ n + m → sum_down word i k ≡ xor (sum_down word i n) (sum_down word j m)
unfolding sum_down
in_parts word zero i j k m e f = grind arith
in_parts word (suc n) zero j k m e f = absurd (omega arith)
in_parts word (suc n) (suc i) j zero m e f = absurd (omega arith)
in_parts word (suc n) (suc i) j (suc k) m e f =
    grind (arith, in_parts word n i j k m (omega arith) (omega arith))

-- of more bits than there are, all are summed up
all_down : (word i n : ℕ) → i < n → sum_down word i n ≡ parity_through word i
unfolding sum_down
all_down word i zero h = absurd (omega arith)
all_down word zero (suc n) h = grind (arith, parity-zero, parity-suc)
all_down word (suc i) (suc n) h = grind (arith, all_down word i n (omega arith), parity-suc)

-- each bit of the fold is the sum of n bits of the word
pub record Folded (word n fold : ℕ) : Type 0 where
  pub sums : HasBits fold (λ i. sum_down word i n)

pub unfolded : (word : ℕ) → Folded word 1 word
unfolding sum_down
unfolded word = record { sums = λ i h. one i }
  where
    one : (i : ℕ) → is_set word i ≡ sum_down word i 1
    one zero = refl
    one (suc i) = grind arith

-- to fold once more doubles the bits that are summed up
pub folded : (word n fold : ℕ) → Folded word n fold → Folded word (n + n) (bit_xor fold (shifted fold n))
folded word n fold f = record { sums = λ i h. is_set-xor fold (shifted fold n) i ∙ elim (cases_lt i n) [ inl few ↦ lower i h few | inr many ↦ upper i h many ] }
  where
    lower : (i : ℕ) → i < 64 → i < n → xor (is_set fold i) (is_set (shifted fold n) i) ≡ sum_down word i (n + n)
    lower i h few =
        grind (arith, is_set-shifted_low fold n i few h, f.sums i h, all_down word i n few, all_down word i (n + n) (omega arith))

    upper : (i : ℕ) → i < 64 → n ≤ i → xor (is_set fold i) (is_set (shifted fold n) i) ≡ sum_down word i (n + n)
    upper i h many =
        let below : i ≡ n + (i - n) = omega arith in
        let moved = ap (is_set (shifted fold n)) below ∙ is_set-shifted fold n (i - n) (omega arith) in
        ap₂ xor (f.sums i h) (moved ∙ f.sums (i - n) (omega arith)) ∙ sym (in_parts word n i (i - n) (n + n) n below refl)

pub whole : (word fold : ℕ) → Folded word 64 fold → HasBits fold (parity_through word)
whole word fold f i h = f.sums i h ∙ all_down word i 64 h
