-- The words of short texts, put together from their bytes.
use Rattle.std.proofs.Common.{◌≡◌, ℕ, ◌+◌, ◌-◌, ◌*◌, ◌%◌, ◌^◌, ◌<◌, ◌≤◌, List, [], ◌∷◌, length, get_or, take, drop, bit_and, refl, arith, w32}
use Rattle.std.proofs.lemmas.Grind.{and_numeral}
use Rattle.std.specs.Int.{from_be_bytes}
use Rattle.decimal_order.specs.Words.{word}

pub word_of_one : (xs : List ℕ) → length xs < 2 → word xs ≡ get_or xs 0 0 * 256 ^ 7
unfolding word
word_of_one [] l = refl
word_of_one (a ∷ []) l = omega arith
word_of_one (a ∷ b ∷ xs) l = absurd (omega arith)

pub word_of_two : (xs : List ℕ) → length xs < 3 → word xs ≡ get_or xs 0 0 * 256 ^ 7 + get_or xs 1 0 * 256 ^ 6
unfolding word
word_of_two [] l = refl
word_of_two (a ∷ []) l = omega arith
word_of_two (a ∷ b ∷ []) l = omega arith
word_of_two (a ∷ b ∷ c ∷ xs) l = absurd (omega arith)

pub word_of_three : (xs : List ℕ) → length xs < 4 → word xs ≡ get_or xs 0 0 * 256 ^ 7 + get_or xs 1 0 * 256 ^ 6 + get_or xs 2 0 * 256 ^ 5
unfolding word
word_of_three [] l = refl
word_of_three (a ∷ []) l = omega arith
word_of_three (a ∷ b ∷ []) l = omega arith
word_of_three (a ∷ b ∷ c ∷ []) l = omega arith
word_of_three (a ∷ b ∷ c ∷ d ∷ xs) l = absurd (omega arith)

pub word_of_many : (xs : List ℕ) → ((i : ℕ) → get_or xs i 0 < 256) → 4 ≤ length xs → length xs ≤ 8
    → from_be_bytes w32 (take 4 xs) * 2 ^ 32 + (from_be_bytes w32 (drop (length xs - 4) xs) * 2 ^ (64 - 8 * length xs)) % 2 ^ 32 ≡ word xs
unfolding word
word_of_many (a ∷ b ∷ c ∷ d ∷ []) h l m = let p = h 0 in let q = h 1 in let r = h 2 in let s = h 3 in omega arith
word_of_many (a ∷ b ∷ c ∷ d ∷ e ∷ []) h l m = let p = h 1 in let q = h 2 in let r = h 3 in let s = h 4 in omega arith
word_of_many (a ∷ b ∷ c ∷ d ∷ e ∷ f ∷ []) h l m = let p = h 2 in let q = h 3 in let r = h 4 in let s = h 5 in omega arith
word_of_many (a ∷ b ∷ c ∷ d ∷ e ∷ f ∷ g ∷ []) h l m = let p = h 3 in let q = h 4 in let r = h 5 in let s = h 6 in omega arith
word_of_many (a ∷ b ∷ c ∷ d ∷ e ∷ f ∷ g ∷ i ∷ []) h l m = let p = h 4 in let q = h 5 in let r = h 6 in let s = h 7 in omega arith
word_of_many (a ∷ b ∷ c ∷ d ∷ e ∷ f ∷ g ∷ i ∷ j ∷ xs) h l m = absurd (omega arith)
word_of_many [] h l m = absurd (omega arith)
word_of_many (a ∷ []) h l m = absurd (omega arith)
word_of_many (a ∷ b ∷ []) h l m = absurd (omega arith)
word_of_many (a ∷ b ∷ c ∷ []) h l m = absurd (omega arith)

pub joined : (m n p q k v : ℕ) → m < 2 ^ 32 → m ≡ p → n ≡ q → p * 2 ^ 32 + (q * k) % 2 ^ 32 ≡ v → (m * 0x100000000) % 2 ^ 64 + bit_and ((n * k) % 2 ^ 64) 0xffffffff ≡ v
joined m n p q k v l e f h = let a = and_numeral ((n * k) % 2 ^ 64) 0xfffffffe refl in rw (a, e, f) (omega arith)
