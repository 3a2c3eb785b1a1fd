-- Numbers that bytes make, the highest first.
use Rattle.std.proofs.Common.{◌≡◌, ℕ, zero, suc, ◌+◌, ◌-◌, ◌*◌, ◌^◌, ◌<◌, ◌≤◌, nat_cmp, bit_and, ⊎_elim, refl, sym, ap, ◌∙◌, arith, add-zero, add-suc}
use Rattle.std.proofs.Math.Nat.{pow-suc}
use Rattle.std.proofs.lemmas.Nat.{and_block}
use Rattle.std.proofs.lemmas.Bool.{cases_lt}
use Rattle.std.specs.Cmp.{ranks}
use Rattle.std.specs.declared.cmp.Ordering.{Ordering}
use Rattle.std.specs.declared.cmp.Ordering.TheVariants.{Less, Equal, Greater}
use Rattle.decimal_order.specs.Places.{made, Ranks}
use Rattle.decimal_order.specs.Words.{bytes_number}

abbrev pub AllBelow : ℕ → (ℕ → ℕ) → Type 0
AllBelow n f = (i : ℕ) → f i < n

pub number_same : (f g : ℕ → ℕ) (k : ℕ) → ((i : ℕ) → i < k → f i ≡ g i) → bytes_number f k ≡ bytes_number g k
number_same f g zero h = refl
number_same f g (suc k) h = let s = number_same f g k (λ i l. h i (omega arith)) in let t = h k (omega arith) in omega arith

pub number_and : (f g : ℕ → ℕ) (k : ℕ) → AllBelow 256 f → AllBelow 256 g → bit_and (bytes_number f k) (bytes_number g k) ≡ bytes_number (λ i. bit_and (f i) (g i)) k
number_and f g zero h l = refl
number_and f g (suc k) h l = and_block 8 (bytes_number f k) (bytes_number g k) (f k) (g k) (h k) (l k) ∙ ap (λ n. n * 256 + bit_and (f k) (g k)) (number_and f g k h l)

pub number_times : (f : ℕ → ℕ) (c k : ℕ) → bytes_number (λ i. f i * c) k ≡ bytes_number f k * c
number_times f c zero = omega arith
number_times f c (suc k) = rw (number_times f c k) (omega arith)

pub number_minus : (f g : ℕ → ℕ) (k : ℕ) → ((i : ℕ) → f i ≤ g i) → bytes_number (λ i. g i - f i) k + bytes_number f k ≡ bytes_number g k
number_minus f g zero h = refl
number_minus f g (suc k) h = let s = number_minus f g k h in let t = h k in omega arith

pub number_zero : (f : ℕ → ℕ) (k i : ℕ) → bytes_number f k ≡ 0 → i < k → f i ≡ 0
number_zero f zero i e l = absurd (omega arith)
number_zero f (suc k) i e l = ⊎_elim (λ (h : i < k). number_zero f k i (omega arith) h) (λ (h : k ≤ i). let s : i ≡ k = omega arith in ap f s ∙ omega arith) (cases_lt i k)

pub zero_number : (f : ℕ → ℕ) (k : ℕ) → ((i : ℕ) → i < k → f i ≡ 0) → bytes_number f k ≡ 0
zero_number f zero h = refl
zero_number f (suc k) h = let s = zero_number f k (λ i l. h i (omega arith)) in let t = h k (omega arith) in omega arith

pub number_below : (f : ℕ → ℕ) (k : ℕ) → AllBelow 256 f → bytes_number f k < 256 ^ k
number_below f zero h = omega arith
number_below f (suc k) h = let e : 256 ^ suc k ≡ 256 * 256 ^ k = omega (arith, pow-suc 256 k) in rw e (omega (arith, number_below f k h, h k))

pub number_split : (f : ℕ → ℕ) (k j : ℕ) → bytes_number f (k + j) ≡ bytes_number f k * 256 ^ j + bytes_number (λ i. f (k + i)) j
number_split f k zero = rw (add-zero k) (omega arith)
number_split f k (suc j) = let h = number_split f k j in let e : 256 ^ suc j ≡ 256 * 256 ^ j = omega (arith, pow-suc 256 j) in rw (add-suc, e) (omega arith)

pub number_plus : (f g : ℕ → ℕ) (k : ℕ) → bytes_number (λ i. f i + g i) k ≡ bytes_number f k + bytes_number g k
number_plus f g zero = refl
number_plus f g (suc k) = let s = number_plus f g k in omega arith

-- equal numbers have equal bytes
pub bytes_same : (f g : ℕ → ℕ) (k i : ℕ) → AllBelow 256 f → AllBelow 256 g → bytes_number f k ≡ bytes_number g k → i < k → f i ≡ g i
bytes_same f g zero i h l e r = absurd (omega arith)
bytes_same f g (suc k) i h l e r =
    let a = h k in
    let b = l k in
    ⊎_elim
    (λ (s : i < k). bytes_same f g k i h l (omega arith) s)
    (λ (s : k ≤ i). let t : i ≡ k = omega arith in let v : f k ≡ g k = omega arith in ap f t ∙ v ∙ ap g (sym t))
    (cases_lt i k)

-- ---- bytes that are the values of digits

abbrev pub AreNines : (ℕ → ℕ) → ℕ → Type 0
AreNines f n = (i : ℕ) → i < n → f i ≤ 9

fewer : (f : ℕ → ℕ) (n : ℕ) → AreNines f (suc n) → AreNines f n
fewer f n h i l = h i (omega arith)

pub digits_same : (f g : ℕ → ℕ) (n : ℕ) → AreNines f n → AreNines g n → bytes_number f n ≡ bytes_number g n → made f n ≡ made g n
digits_same f g zero h k e = refl
digits_same f g (suc n) h k e =
    let a = h n (omega arith) in
    let b = k n (omega arith) in
    let s = digits_same f g n (fewer f n h) (fewer g n k) (omega arith) in
    let t : f n ≡ g n = omega arith in
    omega arith

pub digits_below : (f g : ℕ → ℕ) (n : ℕ) → AreNines f n → AreNines g n → bytes_number f n < bytes_number g n → made f n < made g n
digits_below f g zero h k l = absurd (omega arith)
digits_below f g (suc n) h k l =
    let a = h n (omega arith) in
    let b = k n (omega arith) in
    ⊎_elim
    (λ (p : bytes_number f n < bytes_number g n). let s = digits_below f g n (fewer f n h) (fewer g n k) p in omega arith)
    (λ (p : bytes_number g n ≤ bytes_number f n). let s = digits_same f g n (fewer f n h) (fewer g n k) (omega arith) in let t : f n < g n = omega arith in omega arith)
    (cases_lt (bytes_number f n) (bytes_number g n))

pub digits_rank : (o : Ordering) (f g : ℕ → ℕ) (n : ℕ) → AreNines f n → AreNines g n → Ranks o (bytes_number f n) (bytes_number g n) → Ranks o (made f n) (made g n)
digits_rank Less f g n h k r = digits_below f g n h k r
digits_rank Equal f g n h k r = digits_same f g n h k r
digits_rank Greater f g n h k r = digits_below g f n k h r

-- two numbers that are as far above two others
pub shifted_rank : (o : Ordering) (a b c d n : ℕ) → o ≡ nat_cmp a b → a ≡ c + n → b ≡ d + n → Ranks o c d
shifted_rank o a b c d n e f g = down o a b c d n (rw e (ranks a b)) f g
  where
    down : (o : Ordering) (a b c d n : ℕ) → Ranks o a b → a ≡ c + n → b ≡ d + n → Ranks o c d
    down Less a b c d n r f g = omega arith
    down Equal a b c d n r f g = omega arith
    down Greater a b c d n r f g = omega arith
