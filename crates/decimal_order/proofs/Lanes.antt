-- What a mask says of the bytes that it compares.
use Rattle.std.proofs.Common.{◌≡◌, ℕ, suc, ◌+◌, ◌*◌, ◌^◌, ◌%◌, ◌<◌, ◌≤◌, Bool, true, false, cond, List, [], ◌∷◌, length, map, replicate, refl, sym, ◌∙◌, arith, w8}
use Rattle.std.proofs.Math.Nat.{pow-suc}
use Rattle.std.proofs.lemmas.Bool.Decides.{nat_tests}
use Rattle.std.proofs.lemmas.Simd.{bitmask_splat}
use Rattle.std.specs.Prelude.{nat_lt, nat_eq, IsTrue}
use lib.Lanes.{mask_l, zip2, top}
use Rattle.decimal_order.specs.Number.{AreDigits}

abbrev AllBelow : ℕ → List ℕ → Type 0
AllBelow n [] = Unit {0}
AllBelow n (x ∷ xs) = (x < n) × AllBelow n xs

abbrev AllFrom : ℕ → List ℕ → Type 0
AllFrom n [] = Unit {0}
AllFrom n (x ∷ xs) = (n ≤ x) × AllFrom n xs

abbrev below : ℕ → List ℕ → ℕ
below n xs = mask_l (map (λ x. nat_lt x n) xs)

none_step : (n x : ℕ) (xs : List ℕ) (b : Bool) → nat_lt x n ≡ b → cond b 1 0 + 2 * below n xs ≡ 0 → (below n xs ≡ 0 → AllFrom n xs) → AllFrom n (x ∷ xs)
none_step n x xs true p h r = absurd (omega arith)
none_step n x xs false p h r = (grind (arith, nat_tests), r (omega arith))

none_below : (n : ℕ) (xs : List ℕ) → below n xs ≡ 0 → AllFrom n xs
none_below n [] e = tt
none_below n (x ∷ xs) e = none_step n x xs (nat_lt x n) refl e (none_below n xs)

from_none : (n : ℕ) (xs : List ℕ) → AllFrom n xs → below n xs ≡ 0
from_none n [] h = refl
from_none n (x ∷ xs) h = let a = h.0 in let e : nat_lt x n ≡ false = grind (arith, nat_tests) in let r = from_none n xs h.1 in rw e (omega arith)

all_step : (n x : ℕ) (xs : List ℕ) (b : Bool) → nat_lt x n ≡ b → cond b 1 0 + 2 * below n xs + 1 ≡ 2 ^ suc (length xs) → (below n xs + 1 ≡ 2 ^ length xs → AllBelow n xs) → AllBelow n (x ∷ xs)
all_step n x xs true p h r = let f = pow-suc 2 (length xs) in (grind (arith, nat_tests), r (omega arith))
all_step n x xs false p h r = let f = pow-suc 2 (length xs) in absurd (omega arith)

all_below : (n : ℕ) (xs : List ℕ) → below n xs + 1 ≡ 2 ^ length xs → AllBelow n xs
all_below n [] e = tt
all_below n (x ∷ xs) e = all_step n x xs (nat_lt x n) refl e (all_below n xs)

from_all : (n : ℕ) (xs : List ℕ) → AllBelow n xs → below n xs + 1 ≡ 2 ^ length xs
from_all n [] h = refl
from_all n (x ∷ xs) h = let a = h.0 in let e : nat_lt x n ≡ true = grind (arith, nat_tests) in let r = from_all n xs h.1 in let f = pow-suc 2 (length xs) in rw e (omega arith)

digits_between : (xs : List ℕ) → AllFrom 48 xs → AllBelow 58 xs → AreDigits xs
digits_between [] h k = tt
digits_between (x ∷ xs) h k = let a = h.0 in let b = k.0 in ((omega arith, omega arith), digits_between xs h.1 k.1)

digits_from : (xs : List ℕ) → AreDigits xs → AllFrom 48 xs
digits_from [] h = tt
digits_from (x ∷ xs) h = (h.0.0, digits_from xs h.1)

digits_below : (xs : List ℕ) → AreDigits xs → AllBelow 58 xs
digits_below [] h = tt
digits_below (x ∷ xs) h = let a = h.0.1 in (omega arith, digits_below xs h.1)

-- the mask of the bytes below y, in k lanes
abbrev pub mask : ℕ → ℕ → List ℕ → ℕ
mask k y xs = mask_l (map (top 7) (zip2 (λ a b. cond (nat_lt a b) 255 0) xs (replicate k y))) % 2 ^ 64

mask_is : (k y : ℕ) (xs : List ℕ) → length xs ≡ k → k ≤ 64 → mask k y xs ≡ below y xs
mask_is k y xs l b = bitmask_splat w8 nat_lt xs k y l b

pub masks_digits : (k full : ℕ) (xs : List ℕ) → length xs ≡ k → k ≤ 64 → full + 1 ≡ 2 ^ k → mask k 48 xs ≡ 0 → (IsTrue (nat_eq (mask k 58 xs) full) → AreDigits xs) × (AreDigits xs → IsTrue (nat_eq (mask k 58 xs) full))
masks_digits k full xs l b s e =
    let low = none_below 48 xs (sym (mask_is k 48 xs l b) ∙ e) in
    let m = mask_is k 58 xs l b in (
      (λ t. let f : mask k 58 xs ≡ full = grind (arith, nat_tests) in digits_between xs low (all_below 58 xs (rw l (omega arith)))),
      (λ h. let f = from_all 58 xs (digits_below xs h) in let g : below 58 xs + 1 ≡ 2 ^ k = f ∙ rw l refl in let k : mask k 58 xs ≡ full = omega arith in grind (arith, nat_tests)),
    )

pub masks_other : (k : ℕ) (xs : List ℕ) → length xs ≡ k → k ≤ 64 → (mask k 48 xs ≡ 0 → ⊥) → (IsTrue (nat_eq (mask k 48 xs) 0) → AreDigits xs) × (AreDigits xs → IsTrue (nat_eq (mask k 48 xs) 0))
masks_other k xs l b n = ((λ t. let e : mask k 48 xs ≡ 0 = grind (arith, nat_tests) in absurd (n e)), (λ h. absurd (n (mask_is k 48 xs l b ∙ from_none 48 xs (digits_from xs h)))))
