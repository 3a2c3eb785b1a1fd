-- Whether a test holds of a number below another: block by block, and of the bytes of a whole text.
use Rattle.std.proofs.Common.{◌≡◌, ℕ, zero, suc, ◌+◌, ◌-◌, ◌^◌, ◌<◌, ◌≤◌, ◌⊎◌, inl, inr, Bool, true, false, not, ◌&&◌, ◌||◌, ◌==◌, List, length, refl, sym, ap, ap₂, ◌∙◌, arith, add-zero, add-suc, w64, IsTrue, ◌↔◌}
use Rattle.std.proofs.lemmas.List.{get_or_past}
use Rattle.std.proofs.lemmas.Bool.{cases_lt, false≢true}
use Rattle.std.proofs.lemmas.Bool.Decides.{nat_tests}
use Rattle.std.proofs.lemmas.Nat.Bits.{bit_at-trailing_zeros}
use Rattle.std.specs.Int.{bit_at}
use lib.Bits.{bit_or, and_le_l, and_le_r, or_add_and}
use Rattle.bit_words.specs.Words.{is_set, HasBits}
use Rattle.bit_words.proofs.Bits.{is_set-zero}
use Rattle.byte_masks.specs.Classes.{control_byte}
use Rattle.structural_index.specs.Places.{byte, is_interior, HasControlInside}
use Rattle.structural_index.specs.Blocks.{any_below, is_control_inside}

-- ---- tests

or_cases : (a b : Bool) → (a || b) ≡ true → (a ≡ true) ⊎ (b ≡ true)
or_cases true b h = inl refl
or_cases false b h = inr h

or-false : (a : Bool) → (a || false) ≡ a
or-false x0 = grind arith

or-true : (a : Bool) → (a || true) ≡ true
or-true x0 = grind arith

or-assoc : (a b c : Bool) → ((a || b) || c) ≡ (a || (b || c))
or-assoc x0 b c = grind arith

both : (a b : Bool) → (a && b) ≡ true → (a ≡ true) × (b ≡ true)
both true true h = (refl, refl)
both true false h = absurd (false≢true h)
both false b h = absurd (false≢true h)

and-false : (a : Bool) → (a && false) ≡ false
and-false x0 = grind arith

-- ---- below a number

pub any_same : (p q : ℕ → Bool) (n : ℕ) → ((i : ℕ) → i < n → p i ≡ q i) → any_below p n ≡ any_below q n
unfolding any_below
any_same p q zero h = refl
any_same p q (suc n) h = ap₂ (λ a b. a || b) (any_same p q n (λ i lt. h i (omega arith))) (h n (omega arith))

pub any_none : (p : ℕ → Bool) (n : ℕ) → ((i : ℕ) → p i ≡ false) → any_below p n ≡ false
unfolding any_below
any_none p zero h = refl
any_none p (suc n) h = ap₂ (λ a b. a || b) (any_none p n h) (h n)

pub any_found : (p : ℕ → Bool) (n i : ℕ) → i < n → p i ≡ true → any_below p n ≡ true
unfolding any_below
any_found p zero i lt h = let no : ⊥ = omega arith in absurd no
any_found p (suc n) i lt h = go (λ below. any_found p n i below h) (cases_lt i n)
  where
    go : (i < n → any_below p n ≡ true) → (i < n) ⊎ (n ≤ i) → (any_below p n || p n) ≡ true
    go earlier (inl below) = ap (λ a. a || p n) (earlier below)
    go earlier (inr above) =
        let e : n ≡ i = omega arith in
        ap (λ a. any_below p n || a) (ap p e ∙ h) ∙ or-true (any_below p n)

pub any_where : (p : ℕ → Bool) (n : ℕ) → any_below p n ≡ true → (i : ℕ) × (i < n) × (p i ≡ true)
unfolding any_below
any_where p zero h = absurd (false≢true h)
any_where p (suc n) h = go (or_cases (any_below p n) (p n) h) (any_where p n)
  where
    go : (any_below p n ≡ true) ⊎ (p n ≡ true) → (any_below p n ≡ true → (i : ℕ) × (i < n) × (p i ≡ true)) → (i : ℕ) × (i < suc n) × (p i ≡ true)
    go (inl t) rest = let r = rest t in (r.0, omega (arith, r.1), r.2)
    go (inr t) rest = (n, omega arith, t)

pub any_along : (p : ℕ → Bool) (at n : ℕ) → any_below p (at + n) ≡ (any_below p at || any_below (λ i. p (at + i)) n)
unfolding any_below
any_along p at zero = grind (arith, add-zero at, or-false (any_below p at))
any_along p at (suc n) = grind (arith, add-suc at n, any_along p at n, or-assoc (any_below p at) (any_below (λ i. p (at + i)) n) (p (at + n)))

-- ---- a word that is not zero has a bit

pub bit_there : (word i : ℕ) → bit_at word i ≡ 1 → is_set word i ≡ true
unfolding is_set
bit_there word i h = grind (arith, h)

positive : (word : ℕ) (b : Bool) → (word == 0) ≡ b → 0 < word → not b ≡ true
positive word x1 e h = grind (arith, no)

any_bit : (word : ℕ) → word < 2 ^ 64 → not (word == 0) ≡ any_below (is_set word) 64
any_bit zero h = sym (any_none (is_set 0) 64 is_set-zero)
any_bit (suc word) h = let found = bit_at-trailing_zeros w64 (suc word) (omega arith) h in grind (arith, positive (suc word) (suc word == 0) refl (omega arith), any_found (is_set (suc word)) 64 _ found.0 (bit_there (suc word) _ found.1))

any_or : (a b : ℕ) → not (bit_or a b == 0) ≡ (not (a == 0) || not (b == 0))
any_or a b =
    let sum = or_add_and a b in
    let left = and_le_l a b in
    let right = and_le_r a b in
    grind (arith, nat_tests)

-- the words of blocks gathered in one, with that of one block more
pub gathered : (p : ℕ → Bool) (at before word : ℕ) → word < 2 ^ 64 → not (before == 0) ≡ any_below p at → HasBits word (λ i. p (at + i)) → not (bit_or before word == 0) ≡ any_below p (at + 64)
gathered p at before word lt starts bits = grind (arith, any_or before word, starts, any_bit word lt, any_same (is_set word) (λ i. p (at + i)) 64 bits, any_along p at 64)

-- ---- past the end there are spaces

any_end : (p : ℕ → Bool) (end at : ℕ) → end ≤ at → ((i : ℕ) → p (end + i) ≡ false) → any_below p at ≡ any_below p end
any_end p end at h none = let e : at ≡ end + (at - end) = omega arith in grind (arith, e, any_along p end (at - end), any_none (λ i. p (end + i)) (at - end) none, or-false (any_below p end))

module _ (text : List ℕ) where
  space : (i : ℕ) → byte text (length text + i) ≡ 32
  space i = get_or_past text (length text + i) 32 (omega arith)

  pub control_end : (at : ℕ) → length text ≤ at → any_below (is_control_inside text) at ≡ any_below (is_control_inside text) (length text)
  control_end at h = grind (arith, any_end (is_control_inside text) (length text) at h (λ i. ap (λ c. is_interior text (length text + i) && control_byte c) (space i) ∙ and-false (is_interior text (length text + i))))

  pub control_whole : (flag : Bool) → flag ≡ any_below (is_control_inside text) (length text) → IsTrue flag ↔ HasControlInside text
  control_whole flag e = (
    λ t. (let w = any_where (is_control_inside text) (length text) (sym e ∙ t) in let p = both (is_interior text w.0) (control_byte (byte text w.0)) w.2 in (w.0, w.1, p.0, p.1)),
    λ w. e ∙ any_found (is_control_inside text) (length text) w.0 w.1 (ap₂ (λ x y. x && y) w.2 w.3),
  )
