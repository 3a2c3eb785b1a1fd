-- The number that the first digits of a list make, and what follows for its whole value.
use Rattle.std.proofs.Common.{true, ◌≡◌, ℕ, zero, suc, ◌+◌, ◌-◌, ◌*◌, ◌^◌, ◌<◌, ◌≤◌, List, [], ◌∷◌, ◌++◌, length, get_or, refl, sym, ap, subst, arith, add-zero, add-one, add-suc}
use Rattle.std.proofs.Math.Nat.{pow-suc, mul-le-mul_left, mul-lt-mul_of_pos_right, one-le-pow, pow-le-pow_right}
use Rattle.std.proofs.lemmas.Nat.{pow-add}
use Rattle.std.proofs.lemmas.Bool.Decides.{nat_tests}
use Rattle.std.specs.Char.{is_ascii_digit}
use Rattle.decimal_order.specs.Number.{IsDigit, AreDigits}
use Rattle.decimal_order.specs.Value.{digits_value}
use Rattle.decimal_order.specs.Places.{digit, made}

pub made-head : (f : ℕ → ℕ) (k : ℕ) → made f (suc k) ≡ f 0 * 10 ^ k + made (λ i. f (suc i)) k
made-head f zero = omega arith
made-head f (suc k) = let h = made-head f k in let e : 10 ^ suc k ≡ 10 * 10 ^ k = omega (arith, pow-suc 10 k) in rw e (omega arith)

pub value_is_made : (ds : List ℕ) → digits_value ds ≡ made (digit ds) (length ds)
value_is_made [] = refl
value_is_made (d ∷ ds) = let h = value_is_made ds in let e = made-head (digit (d ∷ ds)) (length ds) in omega (arith, e, h)

pub made-split : (f : ℕ → ℕ) (k j : ℕ) → made f (k + j) ≡ made f k * 10 ^ j + made (λ i. f (k + i)) j
made-split f k zero = rw (add-zero k) (omega arith)
made-split f k (suc j) = let h = made-split f k j in let e : 10 ^ suc j ≡ 10 * 10 ^ j = omega (arith, pow-suc 10 j) in rw (add-suc, e) (omega arith)

pub made_zero : (f : ℕ → ℕ) (k : ℕ) → ((i : ℕ) → i < k → f i ≡ 0) → made f k ≡ 0
made_zero f zero h = refl
made_zero f (suc k) h = omega (arith, made_zero f k (λ i g. h i (omega arith)), h k (omega arith))

pub made_below : (f : ℕ → ℕ) (k : ℕ) → ((i : ℕ) → f i ≤ 9) → made f k < 10 ^ k
made_below f zero h = omega arith
made_below f (suc k) h = let e : 10 ^ suc k ≡ 10 * 10 ^ k = omega (arith, pow-suc 10 k) in rw e (omega (arith, made_below f k h, h k))

-- ---- places

digit_at_out : (ds : List ℕ) → AreDigits ds → (i : ℕ) → IsDigit (get_or ds i 48)
digit_at_out [] h i = (omega arith, omega arith)
digit_at_out (d ∷ ds) h zero = h.0
digit_at_out (d ∷ ds) h (suc i) = digit_at_out ds h.1 i

pub digit_bound : (ds : List ℕ) → AreDigits ds → (i : ℕ) → digit ds i ≤ 9
digit_bound ds h i = let k = digit_at_out ds h i in let a = k.0 in let b = k.1 in omega arith

pub digit_low : (ds : List ℕ) → AreDigits ds → (i : ℕ) → i < length ds → 48 ≤ get_or ds i 0
digit_low [] h i l = absurd (omega arith)
digit_low (d ∷ ds) h zero l = h.0.0
digit_low (d ∷ ds) h (suc i) l = digit_low ds h.1 i (omega arith)

pub digit_high : (ds : List ℕ) → AreDigits ds → (i : ℕ) → i < length ds → get_or ds i 0 ≤ 57
digit_high [] h i l = absurd (omega arith)
digit_high (d ∷ ds) h zero l = h.0.1
digit_high (d ∷ ds) h (suc i) l = digit_high ds h.1 i (omega arith)

pub digit_inside : (ds : List ℕ) (i : ℕ) → i < length ds → digit ds i ≡ get_or ds i 0 - 48
digit_inside [] i l = absurd (omega arith)
digit_inside (d ∷ ds) zero l = refl
digit_inside (d ∷ ds) (suc i) l = digit_inside ds i (omega arith)

pub digit_past : (ds : List ℕ) (i : ℕ) → length ds ≤ i → digit ds i ≡ 0
digit_past [] i l = refl
digit_past (d ∷ ds) zero l = absurd (omega arith)
digit_past (d ∷ ds) (suc i) l = digit_past ds i (omega arith)

pub digit_front : (xs ys : List ℕ) (i : ℕ) → i < length xs → digit (xs ++ ys) i ≡ digit xs i
digit_front [] ys i l = absurd (omega arith)
digit_front (x ∷ xs) ys zero l = refl
digit_front (x ∷ xs) ys (suc i) l = digit_front xs ys i (omega arith)

pub digit_back : (xs ys : List ℕ) (i : ℕ) → length xs ≤ i → digit (xs ++ ys) i ≡ digit ys (i - length xs)
digit_back [] ys i l = let e : i - 0 ≡ i = omega arith in rw e refl
digit_back (x ∷ xs) ys zero l = absurd (omega arith)
digit_back (x ∷ xs) ys (suc i) l = let e : suc i - length (x ∷ xs) ≡ i - length xs = omega arith in rw e (digit_back xs ys i (omega arith))

-- ---- the numbers that digits make

-- what follows the place k has fewer than j more digits
pub made_within : (f : ℕ → ℕ) (k j : ℕ) → ((i : ℕ) → f i ≤ 9) → (made f k * 10 ^ j ≤ made f (k + j)) × (made f (k + j) < (made f k + 1) * 10 ^ j)
made_within f k j h = let e = made-split f k j in let b = made_below (λ i. f (k + i)) j (λ i. h (k + i)) in (omega arith, omega arith)

less_at : (f g : ℕ → ℕ) (k j : ℕ) → ((i : ℕ) → f i ≤ 9) → ((i : ℕ) → g i ≤ 9) → made f k ≡ made g k → f k < g k → made f (suc k + j) < made g (suc k + j)
less_at f g k j p q e h =
    let a = (made_within f (suc k) j p).1 in
    let b = (made_within g (suc k) j q).0 in
    let d : made f (suc k) + 1 ≤ made g (suc k) = omega arith in
    let m : 10 ^ j * (made f (suc k) + 1) ≤ 10 ^ j * made g (suc k) = mul-le-mul_left (10 ^ j) d in
    omega arith

-- the first place where two rows of digits differ decides
pub first_less : (f g : ℕ → ℕ) (k n : ℕ) → ((i : ℕ) → f i ≤ 9) → ((i : ℕ) → g i ≤ 9) → made f k ≡ made g k → f k < g k → k < n → made f n < made g n
first_less f g k n p q e h l =
    let j : n ≡ suc k + (n - suc k) = omega arith in
    let P : ℕ → Type 0 = λ x. made f x < made g x in
    subst P (sym j) (less_at f g k (n - suc k) p q e h)

-- zeros in front change nothing
pub made_from : (f : ℕ → ℕ) (zeros n : ℕ) → ((i : ℕ) → i < zeros → f i ≡ 0) → made f (zeros + n) ≡ made (λ i. f (zeros + i)) n
made_from f zeros n h = let e = made-split f zeros n in let z = made_zero f zeros h in rw e (rw z (omega arith))

-- zeros behind multiply
pub made_padded : (f : ℕ → ℕ) (n r : ℕ) → ((i : ℕ) → n ≤ i → f i ≡ 0) → made f (n + r) ≡ made f n * 10 ^ r
made_padded f n r h = let e = made-split f n r in let z = made_zero (λ i. f (n + i)) r (λ i g. h (n + i) (omega arith)) in rw e (rw z (omega arith))

-- a first digit that is not 0
pub made_above : (f : ℕ → ℕ) (n : ℕ) → 0 < f 0 → 10 ^ n ≤ made f (suc n)
made_above f n h = let e = made-head f n in let m : 10 ^ n * 1 ≤ 10 ^ n * f 0 = mul-le-mul_left (10 ^ n) h in omega arith

-- fewer digits, less: below 10 ^ i against at least 10 ^ j
pub lead_less : (a b i j r s : ℕ) → a < 10 ^ i → 10 ^ j ≤ b → i + r ≤ j + s → a * 10 ^ r < b * 10 ^ s
lead_less a b i j r s p q h =
    let t : 0 < 10 ^ r = one-le-pow r 10 (omega arith) in
    let u : 0 < 10 = omega arith in
    let x : a * 10 ^ r < 10 ^ i * 10 ^ r = mul-lt-mul_of_pos_right p t in
    let y : 10 ^ (i + r) ≤ 10 ^ (j + s) = pow-le-pow_right u h in
    let z : 10 ^ s * 10 ^ j ≤ 10 ^ s * b = mul-le-mul_left (10 ^ s) q in
    let k = pow-add 10 i r in
    let l = pow-add 10 j s in
    omega arith

made_grows : (f : ℕ → ℕ) (k j : ℕ) → made f k ≤ made f (k + j)
made_grows f k zero = rw (add-zero k) (omega arith)
made_grows f k (suc j) = rw add-suc (let h = made_grows f k j in omega arith)

-- the first digits make no more than all
pub value_front : (ds : List ℕ) (i : ℕ) → i < length ds → 10 * made (digit ds) i + (get_or ds i 0 - 48) ≤ digits_value ds
value_front ds i l =
    let j : length ds ≡ suc i + (length ds - suc i) = omega arith in
    let h = made_grows (digit ds) (suc i) (length ds - suc i) in
    let e : made (digit ds) (length ds) ≡ made (digit ds) (suc i + (length ds - suc i)) = ap (made (digit ds)) j in
    let v = value_is_made ds in
    let d = digit_inside ds i l in
    omega arith

pub value_bound : (ds : List ℕ) → AreDigits ds → digits_value ds < 10 ^ length ds
value_bound ds h = rw (value_is_made ds) (made_below (digit ds) (length ds) (λ i. digit_bound ds h i))

-- digits of equal number, at the first place where they differ
pub value_less : (xs ys : List ℕ) (i : ℕ) → AreDigits xs → AreDigits ys → length xs ≡ length ys → i < length xs → made (digit xs) i ≡ made (digit ys) i → get_or xs i 0 < get_or ys i 0 → digits_value xs < digits_value ys
value_less xs ys i h k l g e d =
    let p = digit_inside xs i g in
    let q = digit_inside ys i (omega arith) in
    let r = digit_low xs h i g in
    let s = first_less (digit xs) (digit ys) i (length xs) (λ j. digit_bound xs h j) (λ j. digit_bound ys k j) e (omega arith) g in
    rw (value_is_made xs, value_is_made ys, sym l) s

-- digits alone, byte by byte
pub digits_at : (xs : List ℕ) (n : ℕ) → length xs ≤ n → ((k : ℕ) → k < n → is_ascii_digit (get_or xs k 0) ≡ true) → AreDigits xs
digits_at [] n l h = tt
digits_at (x ∷ xs) zero l h = absurd (omega arith)
digits_at (x ∷ xs) (suc n) l h = (digit_of x (h 0 (omega arith)), digits_at xs n (omega arith) (λ k g. h (suc k) (omega arith)))
  where
    digit_of : (b : ℕ) → is_ascii_digit b ≡ true → IsDigit b
    digit_of b e = (grind (arith, nat_tests), grind (arith, nat_tests))

pub at_digits : (xs : List ℕ) → AreDigits xs → (k : ℕ) → k < length xs → is_ascii_digit (get_or xs k 0) ≡ true
at_digits [] h k l = absurd (omega arith)
at_digits (x ∷ xs) h zero l = of_digit x h.0
  where
    of_digit : (b : ℕ) → IsDigit b → is_ascii_digit b ≡ true
    of_digit b e = grind (arith, nat_tests)
at_digits (x ∷ xs) h (suc k) l = at_digits xs h.1 k (omega arith)

-- one more digit
pub made_next : (f g : ℕ → ℕ) (i : ℕ) → made f i ≡ made g i → f i ≡ g i → made f (i + 1) ≡ made g (i + 1)
made_next f g i e h = rw add-one (omega arith)
