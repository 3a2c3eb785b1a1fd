-- What the marks and the digits of a word say of its bytes.
use Rattle.std.proofs.Common.{◌≡◌, ℕ, suc, ◌+◌, ◌-◌, ◌*◌, ◌/◌, ◌^◌, ◌<◌, ◌≤◌, bit_and, ◌⊎◌, inl, inr, ⊎_elim, refl, sym, ap, ◌∙◌, arith}
use Rattle.std.proofs.Math.Nat.{pow-suc, one-le-pow, pow-le-pow_right}
use Rattle.std.proofs.lemmas.Bool.{cases_lt}
use Rattle.std.proofs.lemmas.Nat.Bits.{and_pow, bit_at-lt}
use Rattle.std.proofs.lemmas.Grind.{and_numeral}
use Rattle.std.specs.Int.{bit_at}
use Rattle.decimal_order.specs.Number.{IsDigit}
use Rattle.decimal_order.specs.Words.{bytes_number, marks, digit_places}
use Rattle.decimal_order.proofs.Bytes.{AllBelow, number_same, number_and, number_times, number_minus, zero_number, number_below, number_split, bytes_same}

-- a digit, a point, or a zero behind the text
abbrev pub IsPlace : ℕ → Type 0
IsPlace b = IsDigit b ⊎ ((b ≡ 46) ⊎ (b ≡ 0))

abbrev bit : (ℕ → ℕ) → ℕ → ℕ
bit f i = bit_at (f i) 4

digit_bits : (f : ℕ → ℕ) → AllBelow 256 f → bit_and (bytes_number f 8) 0x1010101010101010 ≡ bytes_number (bit f) 8 * 16
digit_bits f h = number_and f (λ _. 16) 8 h (λ i. omega arith) ∙ number_same (λ i. bit_and (f i) 16) (λ i. bit f i * 16) 8 (λ i l. and_pow (f i) 4) ∙ number_times (bit f) 16 8

pub marks_are : (f : ℕ → ℕ) → AllBelow 256 f → marks (bytes_number f 8) ≡ bytes_number (λ i. 16 - bit f i * 16) 8
marks_are f h =
    let a = digit_bits f h in
    let b = number_times (bit f) 16 8 in
    let c = number_minus (λ i. bit f i * 16) (λ _. 16) 8 (λ i. let s = bit_at-lt (f i) 4 in omega arith) in
    rw a (omega arith)

pub digit_bit : (b : ℕ) → IsDigit b → bit_at b 4 ≡ 1
digit_bit b h = let k = h.0 in let l = h.1 in omega arith

low_bits : (b : ℕ) → IsPlace b → bit_and b (bit_at b 4 * 15) ≡ b - 48
low_bits b (inl h) = let k = h.0 in let l = h.1 in rw (digit_bit b h) (and_numeral b 14 refl ∙ omega arith)
low_bits b (inr (inl e)) = rw e refl
low_bits b (inr (inr e)) = rw e refl

pub places_are : (f : ℕ → ℕ) → AllBelow 256 f → ((i : ℕ) → IsPlace (f i)) → digit_places (bytes_number f 8) ≡ bytes_number (λ i. f i - 48) 8
places_are f h p =
    let a = digit_bits f h in
    let t : bit_and (bytes_number f 8) 0x1010101010101010 / 16 * 15 ≡ bytes_number (λ i. bit f i * 15) 8 = rw (a, number_times (bit f) 15 8) (omega arith) in
    ap (bit_and (bytes_number f 8)) t ∙ number_and f (λ i. bit f i * 15) 8 h (λ i. let s = bit_at-lt (f i) 4 in omega arith) ∙ number_same (λ i. bit_and (f i) (bit f i * 15)) (λ i. f i - 48) 8 (λ i l. low_bits (f i) (p i))

-- equal marks have bit 4 at the same places
pub bits_same : (f g : ℕ → ℕ) → AllBelow 256 f → AllBelow 256 g → marks (bytes_number f 8) ≡ marks (bytes_number g 8) → (i : ℕ) → i < 8 → bit_at (f i) 4 ≡ bit_at (g i) 4
bits_same f g h k e i l =
    let s = bytes_same (λ i. 16 - bit f i * 16) (λ i. 16 - bit g i * 16) 8 i (λ i. omega arith) (λ i. omega arith) (sym (marks_are f h) ∙ e ∙ marks_are g k) l in
    let a = bit_at-lt (f i) 4 in
    let b = bit_at-lt (g i) 4 in
    omega arith

-- ---- the first mark

-- the first of eight marks stands at the place p, or there is none
abbrev pub FirstMark : ℕ → ℕ → Type 0
FirstMark m p = ((p ≡ 8) × (m ≡ 0)) ⊎ ((j : ℕ) × (p + suc j ≡ 8) × (16 * 256 ^ j ≤ m) × (m < 17 * 256 ^ j))

marked_at : (f : ℕ → ℕ) (p j : ℕ) → AllBelow 256 f → p + suc j ≡ 8 → ((i : ℕ) → i < p → f i ≡ 0) → f p ≡ 16 → (16 * 256 ^ j ≤ bytes_number f 8) × (bytes_number f 8 < 17 * 256 ^ j)
marked_at f p j h e z s =
    let w : suc p + j ≡ 8 = omega arith in
    let a = number_split f (suc p) j in
    let b : bytes_number f (suc p + j) ≡ bytes_number f 8 = ap (bytes_number f) w in
    let d = zero_number f p z in
    let g : bytes_number f (suc p) ≡ 16 = omega arith in
    let r = number_below (λ i. f (suc p + i)) j (λ i. h (suc p + i)) in
    let v : bytes_number f 8 ≡ 16 * 256 ^ j + bytes_number (λ i. f (suc p + i)) j = sym b ∙ a ∙ rw g refl in
    (omega arith, omega arith)

pub first_mark : (f : ℕ → ℕ) (p : ℕ) → AllBelow 256 f → p ≤ 8 → ((i : ℕ) → i < p → IsDigit (f i)) → (f p ≡ 46) ⊎ (f p ≡ 0) → FirstMark (marks (bytes_number f 8)) p
first_mark f p h l d s = rw (marks_are f h) (⊎_elim
    (λ (k : p < 8). let e : p + suc (7 - p) ≡ 8 = omega arith in
    let m = marked_at (λ i. 16 - bit f i * 16) p (7 - p) (λ i. omega arith) e before (⊎_elim (λ g. rw g refl) (λ g. rw g refl) s) in
    inr (7 - p, e, m.0, m.1))
    (λ (k : 8 ≤ p). inl (omega arith, zero_number (λ i. 16 - bit f i * 16) 8 (λ i g. before i (omega arith))))
    (cases_lt p 8))
  where
    before : (i : ℕ) → i < p → 16 - bit f i * 16 ≡ 0
    before i g = rw (digit_bit (f i) (d i g)) refl

pub earlier : (m n p q : ℕ) → FirstMark m p → FirstMark n q → n < m / 8 → p < q
earlier m n p q (inl a) b h = let z = a.1 in absurd (omega arith)
earlier m n p q (inr a) (inl b) h = let e = a.1 in let g = b.0 in omega arith
earlier m n p q (inr a) (inr b) h =
    let e = a.1 in let g = b.1 in let x = a.3 in let y = b.2 in
    ⊎_elim
    (λ (k : b.0 < a.0). omega arith)
    (λ (k : a.0 ≤ b.0). let w : 256 ^ a.0 ≤ 256 ^ b.0 = pow-le-pow_right (omega arith) k in absurd (omega arith))
    (cases_lt b.0 a.0)

not_later : (m n p q : ℕ) → FirstMark m p → FirstMark n q → m / 8 ≤ n → q ≤ p
not_later m n p q (inl a) (inl b) h = let s = a.0 in let t = b.0 in omega arith
not_later m n p q (inl a) (inr b) h = let s = a.0 in let t = b.1 in omega arith
not_later m n p q (inr a) (inl b) h = let x = a.2 in let z = b.1 in let w = one-le-pow a.0 256 (omega arith) in absurd (omega arith)
not_later m n p q (inr a) (inr b) h =
    let e = a.1 in let g = b.1 in let x = a.2 in let y = b.3 in
    ⊎_elim
    (λ (k : b.0 < a.0). let w : 256 ^ suc b.0 ≤ 256 ^ a.0 = pow-le-pow_right (omega arith) (omega arith) in let v = pow-suc 256 b.0 in absurd (omega arith))
    (λ (k : a.0 ≤ b.0). omega arith)
    (cases_lt b.0 a.0)

pub same_place : (m n p q : ℕ) → FirstMark m p → FirstMark n q → m / 8 ≤ n → n / 8 ≤ m → p ≡ q
same_place m n p q a b h k = let s = not_later m n p q a b h in let t = not_later n m q p b a k in omega arith
