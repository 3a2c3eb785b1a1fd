-- The bits of a difference of words, by what each bit carries into the next.
use Rattle.std.proofs.Common.{◌≡◌, ℕ, zero, suc, ◌+◌, ◌-◌, ◌/◌, ◌%◌, ◌^◌, ◌<◌, Bool, true, not, ◌&&◌, ◌||◌, ◌==◌, refl, sym, ap, ap₂, ◌∙◌, arith, add-one, shr-shr}
use Rattle.std.proofs.lemmas.Bool.Decides.{nat_tests}
use Rattle.std.proofs.lemmas.Nat.Bits.{bit_at-lt}
use Rattle.std.specs.Int.{bit_at}
use Rattle.bit_words.specs.Words.{is_set}
use Rattle.bit_words.proofs.Bits.{xor, complement, is_set-complement, is_set-mod}

-- what the bits below bit i of a + b + 1 carry into it, 0 or 1
unfoldable pub carried : ℕ → ℕ → ℕ → ℕ
carried a b zero = 1
carried a b (suc i) = (bit_at a i + bit_at b i + carried a b i) / 2

-- whether a bit is carried
abbrev pub carries : ℕ → ℕ → ℕ → Bool
carries a b i = carried a b i == 1

carried-lt : (a b i : ℕ) → carried a b i < 2
unfolding carried
carried-lt a b zero = omega arith
carried-lt a b (suc i) = let x = bit_at-lt a i in let y = bit_at-lt b i in let z = carried-lt a b i in omega arith

halved : (a b c : ℕ) → (a + b + c) / 2 ≡ a / 2 + b / 2 + (a % 2 + b % 2 + c) / 2
halved a b c = omega arith

half : (a i : ℕ) → a / 2 ^ suc i ≡ a / 2 ^ i / 2
half a i = ap (λ n. a / 2 ^ n) (sym (add-one i)) ∙ sym (shr-shr a i 1)

above : (a b i : ℕ) → (a + b + 1) / 2 ^ i ≡ a / 2 ^ i + b / 2 ^ i + carried a b i
unfolding carried
above a b zero = omega arith
above a b (suc i) =
    half (a + b + 1) i ∙ ap (λ n. n / 2) (above a b i) ∙ halved (a / 2 ^ i) (b / 2 ^ i) (carried a b i)
    ∙ ap₂ (λ x y. x + y + carried a b (suc i)) (sym (half a i)) (sym (half b i))

sum_test : (a b c : ℕ) → a < 2 → b < 2 → c < 2 → ((a + b + c) % 2 == 1) ≡ xor (xor (a == 1) (b == 1)) (c == 1)
sum_test zero zero c la lb lc = grind (arith, nat_tests)
sum_test zero (suc b) c la lb lc = grind (arith, nat_tests)
sum_test (suc a) zero c la lb lc = grind (arith, nat_tests)
sum_test (suc a) (suc b) c la lb lc = grind (arith, nat_tests)

carry_test : (a b c : ℕ) → a < 2 → b < 2 → c < 2 → ((a + b + c) / 2 == 1) ≡ (((a == 1) && (b == 1)) || ((c == 1) && ((a == 1) || (b == 1))))
carry_test zero zero c la lb lc = grind (arith, nat_tests)
carry_test zero (suc b) c la lb lc = grind (arith, nat_tests)
carry_test (suc a) zero c la lb lc = grind (arith, nat_tests)
carry_test (suc a) (suc b) c la lb lc = grind (arith, nat_tests)

is_set-sum : (a b i : ℕ) → is_set (a + b + 1) i ≡ xor (xor (is_set a i) (is_set b i)) (carries a b i)
unfolding is_set
is_set-sum a b i =
    ap (λ n. n % 2 == 1) (above a b i) ∙ ap (λ n. n == 1) (low (a / 2 ^ i) (b / 2 ^ i) (carried a b i))
    ∙ sum_test (bit_at a i) (bit_at b i) (carried a b i) (bit_at-lt a i) (bit_at-lt b i) (carried-lt a b i)
  where
    low : (x y c : ℕ) → (x + y + c) % 2 ≡ (x % 2 + y % 2 + c) % 2
    low x y c = omega arith

-- what is carried into the next bit, the majority of three
pub carries-suc : (a b i : ℕ) → carries a b (suc i) ≡ ((is_set a i && is_set b i) || (carries a b i && (is_set a i || is_set b i)))
unfolding is_set carried
carries-suc a b i = carry_test (bit_at a i) (bit_at b i) (carried a b i) (bit_at-lt a i) (bit_at-lt b i) (carried-lt a b i)

pub carries-zero : (a b : ℕ) → carries a b 0 ≡ true
unfolding carried
carries-zero a b = refl

-- `a.wrapping_sub(b)` is a + !b + 1
pub is_set-difference : (a b i : ℕ) → b < 2 ^ 64 → i < 64
    → is_set ((a + (18446744073709551616 - b)) % 18446744073709551616) i ≡ xor (xor (is_set a i) (not (is_set b i))) (carries a (complement b) i)
is_set-difference a b i fits within =
    let e : a + (18446744073709551616 - b) ≡ a + complement b + 1 = omega arith in
    is_set-mod (a + (18446744073709551616 - b)) i within ∙ ap (λ n. is_set n i) e ∙ is_set-sum a (complement b) i
    ∙ ap (λ t. xor (xor (is_set a i) t) (carries a (complement b) i)) (is_set-complement b i fits within)
