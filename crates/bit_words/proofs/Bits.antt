-- The bits of what the operations on words give, in terms of the bits of their operands.
use Rattle.std.proofs.Common.{◌≡◌, ℕ, zero, suc, ◌+◌, ◌-◌, ◌*◌, ◌/◌, ◌%◌, ◌^◌, ◌<◌, min, max, Bool, true, false, not, ◌&&◌, ◌||◌, ◌==◌, refl, sym, ap, ◌∙◌, arith, pow_pos, add-zero, w64}
use Rattle.std.specs.Int.{bit_at}
use Rattle.std.proofs.lemmas.Nat.Bits.{bit_at_and, bit_at_or, bit_at_xor, bit_at_not, bit_at-lt, bit_at-zero, bit_at_ones, bit_at_above, bit_at_cat_low, bit_at_cat_high}
use Rattle.std.proofs.lemmas.Bool.Decides.{nat_tests}
use lib.Bits.{bit_and, bit_or, bit_xor, and_mask}
use mir.Val.{bool_byte}
use Rattle.bit_words.specs.Words.{is_set, is_odd}

abbrev pub xor : Bool → Bool → Bool
xor true b = not b
xor false b = b

-- ---- numbers below 2 as tests

min_test : (a b : ℕ) → a < 2 → b < 2 → (min a b == 1) ≡ ((a == 1) && (b == 1))
min_test a b la lb = grind (arith, nat_tests)

max_test : (a b : ℕ) → a < 2 → b < 2 → (max a b == 1) ≡ ((a == 1) || (b == 1))
max_test a b la lb = grind (arith, nat_tests)

sum_test : (a b : ℕ) → a < 2 → b < 2 → ((a + b) % 2 == 1) ≡ xor (a == 1) (b == 1)
sum_test zero b la lb = grind (arith, nat_tests)
sum_test (suc a) b la lb = grind (arith, nat_tests)

not_test : (a b : ℕ) → a < 2 → a + b ≡ 1 → (b == 1) ≡ not (a == 1)
not_test zero b la e = grind (arith, nat_tests)
not_test (suc a) b la e = grind (arith, nat_tests)

pub odd_suc : (n : ℕ) → is_odd (suc n) ≡ not (is_odd n)
odd_suc n = not_test (n % 2) (suc n % 2) (omega arith) (omega arith)

-- ---- bit by bit

pub is_set-and : (a b i : ℕ) → is_set (bit_and a b) i ≡ (is_set a i && is_set b i)
unfolding is_set
is_set-and a b i = ap (λ n. n == 1) (bit_at_and a b i) ∙ min_test (bit_at a i) (bit_at b i) (bit_at-lt a i) (bit_at-lt b i)

pub is_set-or : (a b i : ℕ) → is_set (bit_or a b) i ≡ (is_set a i || is_set b i)
unfolding is_set
is_set-or a b i = ap (λ n. n == 1) (bit_at_or a b i) ∙ max_test (bit_at a i) (bit_at b i) (bit_at-lt a i) (bit_at-lt b i)

pub is_set-xor : (a b i : ℕ) → is_set (bit_xor a b) i ≡ xor (is_set a i) (is_set b i)
unfolding is_set
is_set-xor a b i = ap (λ n. n == 1) (bit_at_xor a b i) ∙ sum_test (bit_at a i) (bit_at b i) (bit_at-lt a i) (bit_at-lt b i)

pub is_set-zero : (i : ℕ) → is_set 0 i ≡ false
unfolding is_set
is_set-zero i = ap (λ n. n == 1) (bit_at-zero i)

-- `!x`
abbrev pub complement : ℕ → ℕ
complement x = 18446744073709551615 - x

pub is_set-complement : (x i : ℕ) → x < 2 ^ 64 → i < 64 → is_set (complement x) i ≡ not (is_set x i)
unfolding is_set
is_set-complement x i fits within =
    ap (λ n. n == 1) (bit_at_not w64 x i fits within) ∙ not_test (bit_at x i) (1 - bit_at x i) (bit_at-lt x i) (let lt = bit_at-lt x i in omega arith)

-- ---- shifts

pub is_set-mod : (x i : ℕ) → i < 64 → is_set (x % 2 ^ 64) i ≡ is_set x i
unfolding is_set
is_set-mod x i within = sym (ap (λ n. is_set n i) (and_mask x 64)) ∙ is_set-and x (2 ^ 64 - 1) i ∙ ap (λ t. is_set x i && (t == 1)) (bit_at_ones 64 i within) ∙ and-true (is_set x i)
  where
    and-true : (b : Bool) → (b && true) ≡ b
    and-true true = refl
    and-true false = refl

-- `x << k`
abbrev pub shifted : ℕ → ℕ → ℕ
shifted x k = x * 2 ^ k % 2 ^ 64

pub is_set-shifted_low : (x k i : ℕ) → i < k → i < 64 → is_set (shifted x k) i ≡ false
unfolding is_set
is_set-shifted_low x k i low within =
    is_set-mod (x * 2 ^ k) i within ∙ ap (λ n. is_set n i) (sym (add-zero (x * 2 ^ k))) ∙ ap (λ n. n == 1) (bit_at_cat_low x k 0 i low) ∙ is_set-zero i

pub is_set-shifted : (x k i : ℕ) → k + i < 64 → is_set (shifted x k) (k + i) ≡ is_set x i
unfolding is_set
is_set-shifted x k i within =
    let e : (k + i) - k ≡ i = omega arith in
    is_set-mod (x * 2 ^ k) (k + i) within ∙ ap (λ n. is_set n (k + i)) (sym (add-zero (x * 2 ^ k))) ∙ ap (λ n. n == 1) (bit_at_cat_high x k 0 (k + i) (pow_pos k) (omega arith)) ∙ ap (is_set x) e

-- `x >> 63 == 1`
pub top_bit : (x : ℕ) → x < 2 ^ 64 → (x / 2 ^ 63 == 1) ≡ is_set x 63
unfolding is_set
top_bit x fits = let e : x / 2 ^ 63 ≡ x / 2 ^ 63 % 2 = omega arith in ap (λ n. n == 1) e

-- ---- a flag as a word

-- `flag as u64`
pub is_set-flag_zero : (flag : Bool) → is_set (bool_byte flag) 0 ≡ flag
unfolding is_set
is_set-flag_zero true = refl
is_set-flag_zero false = refl

pub is_set-flag_suc : (flag : Bool) (i : ℕ) → is_set (bool_byte flag) (suc i) ≡ false
unfolding is_set
is_set-flag_suc true i = ap (λ n. n == 1) (bit_at_above 1 1 (suc i) (omega arith) (omega arith))
is_set-flag_suc false i = is_set-zero (suc i)

pub flag_lt : (flag : Bool) → bool_byte flag < 2 ^ 64
flag_lt true = omega arith
flag_lt false = omega arith

-- `0.wrapping_sub(flag as u64)`, whose bits are all the flag
abbrev pub spread : Bool → ℕ
spread flag = (0 + (18446744073709551616 - bool_byte flag)) % 18446744073709551616

pub is_set-spread : (flag : Bool) (i : ℕ) → i < 64 → is_set (spread flag) i ≡ flag
unfolding is_set
is_set-spread true i within = ap (λ n. n == 1) (bit_at_ones 64 i within)
is_set-spread false i within = is_set-zero i

pub spread_lt : (flag : Bool) → spread flag < 2 ^ 64
spread_lt true = omega arith
spread_lt false = omega arith
