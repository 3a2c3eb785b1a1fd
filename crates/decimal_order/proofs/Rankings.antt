-- How two numbers compare, from a comparison of two others that differ.
use Rattle.std.proofs.Common.{◌≡◌, ℕ, ◌<◌, ◌≤◌, List, length, get_or, nat_cmp, arith, sym}
use Rattle.std.specs.Cmp.{ranks}
use Rattle.std.specs.Ordering.{MatchOrdering}
use Rattle.std.specs.declared.cmp.Ordering.{Ordering}
use Rattle.std.specs.declared.cmp.Ordering.TheVariants.{Less, Equal, Greater}
use Rattle.decimal_order.specs.Number.{AreDigits}
use Rattle.decimal_order.specs.Value.{digits_value}
use Rattle.decimal_order.specs.Places.{digit, made, Ranks}
use Rattle.decimal_order.proofs.Digits.{first_less, value_less}

by_case : (o : Ordering) (a b : ℕ) (X Y Z : Type 0) → MatchOrdering o (a < b) (a ≡ b) (b < a) → (a ≡ b → ⊥) → (a < b → X) → (b < a → Z) → MatchOrdering o X Y Z
by_case Less a b X Y Z h n f g = f h
by_case Equal a b X Y Z h n f g = absurd (n h)
by_case Greater a b X Y Z h n f g = g h

pub ranks_apart : (o : Ordering) (a b : ℕ) (X Y Z : Type 0) → o ≡ nat_cmp a b → (a ≡ b → ⊥) → (a < b → X) → (b < a → Z) → MatchOrdering o X Y Z
ranks_apart o a b X Y Z e n f g = by_case o a b X Y Z (rw e (ranks a b)) n f g

-- rows of digits, at the first place where they differ
pub made_ranks : (f g : ℕ → ℕ) (k n a b : ℕ) (o : Ordering) → ((i : ℕ) → f i ≤ 9) → ((i : ℕ) → g i ≤ 9) → made f k ≡ made g k → k < n → a ≡ f k → b ≡ g k → o ≡ nat_cmp a b → (a ≡ b → ⊥) → Ranks o (made f n) (made g n)
made_ranks f g k n a b o p q e l x y c d =
    ranks_apart o a b (made f n < made g n) (made f n ≡ made g n) (made g n < made f n) c d (λ h. first_less f g k n p q e (omega arith) l) (λ h. first_less g f k n q p (sym e) (omega arith) l)

-- digits of equal number, at the first byte where they differ
pub bytes_rank : (xs ys : List ℕ) (i : ℕ) (o : Ordering) → AreDigits xs → AreDigits ys → length xs ≡ length ys → i < length xs → made (digit xs) i ≡ made (digit ys) i → o ≡ nat_cmp (get_or xs i 0) (get_or ys i 0) → (get_or xs i 0 ≡ get_or ys i 0 → ⊥) → Ranks o (digits_value xs) (digits_value ys)
bytes_rank xs ys i o h k l g e c d =
    ranks_apart o (get_or xs i 0) (get_or ys i 0) (digits_value xs < digits_value ys) (digits_value xs ≡ digits_value ys) (digits_value ys < digits_value xs) c d
    (λ p. value_less xs ys i h k l g e p) (λ p. value_less ys xs i k h (sym l) (omega arith) (sym e) p)
