-- Short numbers with no sign and no exponent: their bytes, and their order.
use Rattle.std.proofs.Common.{◌≡◌, ℕ, zero, suc, ◌+◌, ◌-◌, ◌*◌, ◌/◌, ◌^◌, ◌<◌, ◌≤◌, Bool, true, false, List, [], ◌∷◌, ◌++◌, length, length-append, get_or, nat_cmp, bit_and, bit_or, ◌⊎◌, ⊎_elim, inl, inr, refl, sym, ap, ap₂, ◌∙◌, arith, append-nil}
use Rattle.std.proofs.Math.Nat.{pow-suc}
use Rattle.std.proofs.lemmas.Nat.{pow-add}
use Rattle.std.proofs.lemmas.Nat.Bits.{bit_at_and, bit_at_or, bit_at-zero, bit_at-lt, bit_at_cat_high, and_pow, same_from_bits}
use Rattle.std.proofs.lemmas.Bool.{cases_lt}
use Rattle.std.specs.Int.{bit_at}
use Rattle.std.specs.Cmp.{ranks}
use Rattle.std.specs.declared.cmp.Ordering.{Ordering}
use Rattle.std.specs.declared.cmp.Ordering.TheVariants.{Less, Equal, Greater}
use Rattle.decimal_order.specs.Number.{IsDigit, AreDigits, IsNumber}
use Rattle.decimal_order.specs.Value.{digits_value}
use Rattle.decimal_order.specs.Order.{number_cmp}
use Rattle.decimal_order.specs.Parts.{HasParts, FracIs}
use Rattle.decimal_order.specs.Places.{digit, made, Ranks}
use Rattle.decimal_order.specs.Words.{bytes_number, word, marks, digit_places}
use Rattle.decimal_order.proofs.Digits.{made-head, made_below, digit_bound}
use Rattle.decimal_order.proofs.Readings.{int_digits, number_length, number_frac_digits}
use Rattle.decimal_order.proofs.Texts.{number_cmp_is, parts_of_number, regroup}
use Rattle.decimal_order.proofs.Words.{distribute, made_same}
use Rattle.decimal_order.proofs.WholeNumbers.{not_empty, shorter_less}
use Rattle.decimal_order.proofs.Bytes.{AllBelow, number_and, number_zero, number_below, number_split, number_same, number_plus, digits_rank, shifted_rank}
use Rattle.decimal_order.proofs.Marks.{IsPlace, FirstMark, digit_bit, bits_same, first_mark, earlier, same_place, places_are}
use Rattle.decimal_order.proofs.FixedPoint.{unsigned, decimals, fixed_order, whole_less, closer_rank}

-- a short number with no sign and no exponent
pub record IsPlain (text : List ℕ) : Type 0 where
  pub int : List ℕ
  pub frac : List ℕ
  pub short : length text ≤ 8
  pub has_parts : HasParts text (unsigned int frac)

-- ---- the bytes

abbrev pub bytes : List ℕ → ℕ → ℕ
bytes text i = get_or text i 0

past_end : (xs : List ℕ) (i : ℕ) → length xs ≤ i → bytes xs i ≡ 0
past_end [] i l = refl
past_end (x ∷ xs) zero l = absurd (omega arith)
past_end (x ∷ xs) (suc i) l = past_end xs i (omega arith)

digit_place : (ds : List ℕ) → AreDigits ds → (i : ℕ) → IsPlace (bytes ds i)
digit_place [] h i = inr (inr refl)
digit_place (d ∷ ds) h zero = inl h.0
digit_place (d ∷ ds) h (suc i) = digit_place ds h.1 i

point_place : (ds : List ℕ) → AreDigits ds → (i : ℕ) → IsPlace (bytes (46 ∷ ds) i)
point_place ds h zero = inr (inl refl)
point_place ds h (suc i) = digit_place ds h i

place_at : (int frac part : List ℕ) → AreDigits int → FracIs part frac → (i : ℕ) → IsPlace (bytes (int ++ part) i)
place_at [] [] part d h i = rw h (inr (inr refl))
place_at [] (x ∷ xs) part d h i = rw h.1 (point_place (x ∷ xs) h.0 i)
place_at (x ∷ xs) frac part d h zero = inl d.0
place_at (x ∷ xs) frac part d h (suc i) = place_at xs frac part d.1 h i

int_at : (int part : List ℕ) → AreDigits int → (i : ℕ) → i < length int → IsDigit (bytes (int ++ part) i)
int_at [] part d i l = absurd (omega arith)
int_at (x ∷ xs) part d zero l = d.0
int_at (x ∷ xs) part d (suc i) l = int_at xs part d.1 i (omega arith)

end_at : (int frac part : List ℕ) → FracIs part frac → (bytes (int ++ part) (length int) ≡ 46) ⊎ (bytes (int ++ part) (length int) ≡ 0)
end_at [] [] part h = rw h (inr refl)
end_at [] (x ∷ xs) part h = rw h.1 (inl refl)
end_at (x ∷ xs) frac part h = end_at xs frac part h

-- a digit follows a point
after_point : (int frac part : List ℕ) → AreDigits int → FracIs part frac → (i : ℕ) → bytes (int ++ part) i ≡ 46 → IsDigit (bytes (int ++ part) (suc i))
after_point [] [] part d h i e = let z : bytes part i ≡ 0 = rw h refl in absurd (omega arith)
after_point [] (x ∷ xs) part d h zero e = rw h.1 h.0.0
after_point [] (x ∷ xs) part d h (suc i) e = let z : bytes part (suc i) ≡ bytes (x ∷ xs) i = rw h.1 refl in absurd (no_point (x ∷ xs) h.0 i (sym z ∙ e))
  where
    no_point : (ds : List ℕ) → AreDigits ds → (i : ℕ) → bytes ds i ≡ 46 → ⊥
    no_point [] h i e = omega arith
    no_point (d ∷ ds) h zero e = let k = h.0.0 in omega arith
    no_point (d ∷ ds) h (suc i) e = no_point ds h.1 i e
after_point (x ∷ xs) frac part d h zero e = let k = d.0.0 in absurd (omega arith)
after_point (x ∷ xs) frac part d h (suc i) e = after_point xs frac part d.1 h i e

-- nothing but zeros follows a zero byte
after_zero : (int frac part : List ℕ) → AreDigits int → FracIs part frac → (i : ℕ) → bytes (int ++ part) i ≡ 0 → bytes (int ++ part) (suc i) ≡ 0
after_zero [] [] part d h i e = rw h refl
after_zero [] (x ∷ xs) part d h zero e = let z : bytes part 0 ≡ 46 = rw h.1 refl in absurd (omega arith)
after_zero [] (x ∷ xs) part d h (suc i) e = let z : bytes part (suc i) ≡ bytes (x ∷ xs) i = rw h.1 refl in rw h.1 (digits_end (x ∷ xs) h.0 i (sym z ∙ e))
  where
    digits_end : (ds : List ℕ) → AreDigits ds → (i : ℕ) → bytes ds i ≡ 0 → bytes ds (suc i) ≡ 0
    digits_end [] h i e = refl
    digits_end (d ∷ ds) h zero e = let k = h.0.0 in absurd (omega arith)
    digits_end (d ∷ ds) h (suc i) e = digits_end ds h.1 i e
after_zero (x ∷ xs) frac part d h zero e = let k = d.0.0 in absurd (omega arith)
after_zero (x ∷ xs) frac part d h (suc i) e = after_zero xs frac part d.1 h i e

place_value : (b : ℕ) → IsPlace b → b - 48 ≤ 9
place_value b (inl h) = let k = h.1 in omega arith
place_value b (inr (inl e)) = omega arith
place_value b (inr (inr e)) = omega arith

-- ---- their digits

same_digit : (ds : List ℕ) (i : ℕ) → bytes ds i - 48 ≡ digit ds i
same_digit [] i = refl
same_digit (d ∷ ds) zero = refl
same_digit (d ∷ ds) (suc i) = same_digit ds i

-- the whole part, a zero for the point, and the fraction
made_plain : (int frac part : List ℕ) (k n : ℕ) → FracIs part frac → n ≡ length int + suc k → made (λ i. bytes (int ++ part) i - 48) n ≡ digits_value int * 10 ^ suc k + decimals frac k
made_plain [] [] part k n h e =
    let w : n ≡ suc k = omega arith in
    rw (h, w) (made-head (λ i. bytes [] i - 48) k ∙ let s = made_same (λ i. bytes [] (suc i) - 48) (digit []) k (λ i l. refl) in omega arith)
made_plain [] (x ∷ xs) part k n h e =
    let w : n ≡ suc k = omega arith in
    rw (h.1, w) (made-head (λ i. bytes (46 ∷ x ∷ xs) i - 48) k ∙ let s = made_same (λ i. bytes (46 ∷ x ∷ xs) (suc i) - 48) (digit (x ∷ xs)) k (λ i l. same_digit (x ∷ xs) i) in omega arith)
made_plain (x ∷ xs) frac part k n h e =
    let w : n ≡ suc (length xs + suc k) = omega arith in
    rw w (made-head (λ i. bytes (x ∷ (xs ++ part)) i - 48) (length xs + suc k)
    ∙ rw (made_plain xs frac part k (length xs + suc k) h refl, pow-add 10 (length xs) (suc k)) (distribute (x - 48) (10 ^ length xs) (10 ^ suc k) (digits_value xs) (decimals frac k)))

-- ---- a short text

plain_text : (text : List ℕ) (p : IsPlain text) → text ≡ p.int ++ p.has_parts.frac
plain_text text p = p.has_parts.whole ∙ rw (p.has_parts.is_minus, p.has_parts.is_exp.0, append-nil) refl

module _ (text : List ℕ) (p : IsPlain text) where
  are_digits : AreDigits p.int
  are_digits = int_digits p.int p.has_parts.is_int

  pub frac_fits : length p.frac ≤ 8 - length p.int
  frac_fits = let s = p.short in let l = number_length p.has_parts in omega arith

  int_fits : length p.int ≤ 8
  int_fits = let s = p.short in let l = number_length p.has_parts in omega arith

  pub places : (i : ℕ) → IsPlace (bytes text i)
  places i = rw (plain_text text p) (place_at p.int p.frac p.has_parts.frac are_digits p.has_parts.is_frac i)

  pub mark_at : AllBelow 256 (bytes text) → FirstMark (marks (word text)) (length p.int)
  unfolding word
  mark_at h = first_mark (bytes text) (length p.int) h int_fits (λ i l. rw (plain_text text p) (int_at p.int p.has_parts.frac are_digits i l)) (rw (plain_text text p) (end_at p.int p.frac p.has_parts.frac p.has_parts.is_frac))

  pub places_number : AllBelow 256 (bytes text) → digit_places (word text) ≡ bytes_number (λ i. bytes text i - 48) 8
  unfolding word
  places_number h = places_are (bytes text) h places

  pub places_made : (k : ℕ) → k ≡ 8 - length p.int → 10 * made (λ i. bytes text i - 48) 8 ≡ digits_value p.int * (10 * 10 ^ k) + decimals p.frac k
  places_made k e =
      let a = made_plain p.int p.frac p.has_parts.frac k 9 p.has_parts.is_frac (let f = int_fits in omega arith) in
      let b : made (λ i. bytes text i - 48) 9 ≡ made (λ i. bytes (p.int ++ p.has_parts.frac) i - 48) 9 = ap (λ t. made (λ i. bytes t i - 48) 9) (plain_text text p) in
      let d = past_end text 8 p.short in
      let s : 10 ^ suc k ≡ 10 * 10 ^ k = omega (arith, pow-suc 10 k) in
      let c : made (λ i. bytes text i - 48) 9 ≡ digits_value p.int * (10 * 10 ^ k) + decimals p.frac k = b ∙ a ∙ rw s refl in
      let e : 10 * made (λ i. bytes text i - 48) 8 + (bytes text 8 - 48) ≡ made (λ i. bytes text i - 48) 9 = refl in
      omega arith

  pub frac_below : (k : ℕ) → decimals p.frac k < 10 ^ k
  frac_below k = made_below (digit p.frac) k (λ i. digit_bound p.frac (number_frac_digits p.has_parts) i)

  pub point_then_digit : (i : ℕ) → bytes text i ≡ 46 → bit_at (bytes text (suc i)) 4 ≡ 1
  point_then_digit i e =
      let w = plain_text text p in
      let f : bytes (p.int ++ p.has_parts.frac) i ≡ 46 = ap (λ t. bytes t i) (sym w) ∙ e in
      rw w (digit_bit (bytes (p.int ++ p.has_parts.frac) (suc i)) (after_point p.int p.frac p.has_parts.frac are_digits p.has_parts.is_frac i f))

  pub zero_then_zero : (i : ℕ) → bytes text i ≡ 0 → bit_at (bytes text (suc i)) 4 ≡ 0
  zero_then_zero i e =
      let w = plain_text text p in
      let f : bytes (p.int ++ p.has_parts.frac) i ≡ 0 = ap (λ t. bytes t i) (sym w) ∙ e in
      let z : bytes text (suc i) ≡ 0 = ap (λ t. bytes t (suc i)) w ∙ after_zero p.int p.frac p.has_parts.frac are_digits p.has_parts.is_frac i f in
      rw z refl

-- ---- two short texts

-- what a byte has above its digit
abbrev above : ℕ → ℕ
above b = b - (b - 48)

times_ten : (o : Ordering) (a b : ℕ) → Ranks o a b → Ranks o (10 * a) (10 * b)
times_ten Less a b r = omega arith
times_ten Equal a b r = omega arith
times_ten Greater a b r = omega arith

same_above : (x y x' y' : ℕ) → IsPlace x → IsPlace y → bit_at x 4 ≡ bit_at y 4 → bit_at x' 4 ≡ bit_at y' 4
    → (x ≡ 46 → bit_at x' 4 ≡ 1) → (x ≡ 0 → bit_at x' 4 ≡ 0) → (y ≡ 46 → bit_at y' 4 ≡ 1) → (y ≡ 0 → bit_at y' 4 ≡ 0) → above x ≡ above y
same_above x y x' y' (inl m) (inl n) e f g h k l = let r = m.0 in let s = n.0 in omega arith
same_above x y x' y' (inl m) (inr (inl n)) e f g h k l = let r = digit_bit x m in let s : bit_at y 4 ≡ 0 = rw n refl in absurd (omega arith)
same_above x y x' y' (inl m) (inr (inr n)) e f g h k l = let r = digit_bit x m in let s : bit_at y 4 ≡ 0 = rw n refl in absurd (omega arith)
same_above x y x' y' (inr (inl m)) (inl n) e f g h k l = let r = digit_bit y n in let s : bit_at x 4 ≡ 0 = rw m refl in absurd (omega arith)
same_above x y x' y' (inr (inr m)) (inl n) e f g h k l = let r = digit_bit y n in let s : bit_at x 4 ≡ 0 = rw m refl in absurd (omega arith)
same_above x y x' y' (inr (inl m)) (inr (inl n)) e f g h k l = ap above (m ∙ sym n)
same_above x y x' y' (inr (inr m)) (inr (inr n)) e f g h k l = ap above (m ∙ sym n)
same_above x y x' y' (inr (inl m)) (inr (inr n)) e f g h k l = let r = g m in let s = l n in absurd (omega arith)
same_above x y x' y' (inr (inr m)) (inr (inl n)) e f g h k l = let r = h m in let s = k n in absurd (omega arith)

module _ (a b : List ℕ) (p : IsPlain a) (q : IsPlain b) where
  by_values : (o : Ordering) (k : ℕ) → length p.frac ≤ k → length q.frac ≤ k → Ranks o (digits_value p.int * 10 ^ k + decimals p.frac k) (digits_value q.int * 10 ^ k + decimals q.frac k) → o ≡ number_cmp a b
  by_values o k l m r = number_cmp_is a b (unsigned p.int p.frac) (unsigned q.int q.frac) o p.has_parts q.has_parts (fixed_order p.int p.frac q.int q.frac k o l m r)

  ints_less : length p.int < length q.int → digits_value p.int < digits_value q.int
  ints_less l = shorter_less p.int q.int p.has_parts.is_int q.has_parts.is_int l

  ints_more : length q.int < length p.int → digits_value q.int < digits_value p.int
  ints_more l = shorter_less q.int p.int q.has_parts.is_int p.has_parts.is_int l

  module _ (h : AllBelow 256 (bytes a)) (k : AllBelow 256 (bytes b)) where
    pub shorter_order : marks (word b) < marks (word a) / 8 → Less ≡ number_cmp a b
    shorter_order l =
        let g = ints_less (earlier (marks (word a)) (marks (word b)) (length p.int) (length q.int) (mark_at a p h) (mark_at b q k) l) in
        let x = frac_fits a p in
        let y = frac_fits b q in
        by_values Less 8 (omega arith) (omega arith) (whole_less (digits_value p.int) (digits_value q.int) (decimals p.frac 8) (decimals q.frac 8) (10 ^ 8) (frac_below a p 8) g)

    pub longer_order : marks (word a) < marks (word b) / 8 → Greater ≡ number_cmp a b
    longer_order l =
        let g = ints_more (earlier (marks (word b)) (marks (word a)) (length q.int) (length p.int) (mark_at b q k) (mark_at a p h) l) in
        let x = frac_fits a p in
        let y = frac_fits b q in
        by_values Greater 8 (omega arith) (omega arith) (whole_less (digits_value q.int) (digits_value p.int) (decimals q.frac 8) (decimals p.frac 8) (10 ^ 8) (frac_below b q 8) g)

    by_places : (o : Ordering) → length p.int ≡ length q.int → Ranks o (bytes_number (λ i. bytes a i - 48) 8) (bytes_number (λ i. bytes b i - 48) 8) → o ≡ number_cmp a b
    by_places o s e =
        let n = 8 - length p.int in
        let x = frac_fits a p in
        let y = frac_fits b q in
        let r = digits_rank o (λ i. bytes a i - 48) (λ i. bytes b i - 48) 8 (λ i g. place_value (bytes a i) (places a p i)) (λ i g. place_value (bytes b i) (places b q i)) e in
        let t = times_ten o (made (λ i. bytes a i - 48) 8) (made (λ i. bytes b i - 48) 8) r in
        let u : Ranks o (digits_value p.int * (10 * 10 ^ n) + decimals p.frac n) (digits_value q.int * (10 * 10 ^ n) + decimals q.frac n) = rw (← places_made a p n refl, ← places_made b q n (omega arith)) t in
        by_values o n x (omega arith) (closer_rank o (digits_value p.int) (digits_value q.int) (decimals p.frac n) (decimals q.frac n) (10 ^ n) (frac_below a p n) (frac_below b q n) u)

    same_ints : marks (word a) / 8 ≤ marks (word b) → marks (word b) / 8 ≤ marks (word a) → length p.int ≡ length q.int
    same_ints l m = same_place (marks (word a)) (marks (word b)) (length p.int) (length q.int) (mark_at a p h) (mark_at b q k) l m

    pub places_order : (o : Ordering) → marks (word a) / 8 ≤ marks (word b) → marks (word b) / 8 ≤ marks (word a) → o ≡ nat_cmp (digit_places (word a)) (digit_places (word b)) → o ≡ number_cmp a b
    places_order o l m e = by_places o (same_ints l m) (rw (e ∙ ap₂ nat_cmp (places_number a p h) (places_number b q k)) (ranks (bytes_number (λ i. bytes a i - 48) 8) (bytes_number (λ i. bytes b i - 48) 8)))

    -- with the same marks, what the bytes have above their digits is the same
    above_same : marks (word a) ≡ marks (word b) → (i : ℕ) → i < 8 → above (bytes a i) ≡ above (bytes b i)
    unfolding word
    above_same e i l =
        let next : bit_at (bytes a (suc i)) 4 ≡ bit_at (bytes b (suc i)) 4 = ⊎_elim
        (λ (m : i < 7). bits_same (bytes a) (bytes b) h k e (suc i) (omega arith))
        (λ (m : 7 ≤ i). let x = p.short in let y = q.short in rw (past_end a (suc i) (omega arith), past_end b (suc i) (omega arith)) refl)
        (cases_lt i 7) in
        same_above (bytes a i) (bytes b i) (bytes a (suc i)) (bytes b (suc i)) (places a p i) (places b q i) (bits_same (bytes a) (bytes b) h k e i l) next
        (point_then_digit a p i) (zero_then_zero a p i) (point_then_digit b q i) (zero_then_zero b q i)

    pub words_order : (o : Ordering) → marks (word a) ≡ marks (word b) → o ≡ nat_cmp (word a) (word b) → o ≡ number_cmp a b
    unfolding word
    words_order o e f =
        let n = bytes_number (λ i. above (bytes a i)) 8 in
        let x : word a ≡ bytes_number (λ i. bytes a i - 48) 8 + n = number_same (bytes a) (λ i. (bytes a i - 48) + above (bytes a i)) 8 (λ i l. omega arith) ∙ number_plus (λ i. bytes a i - 48) (λ i. above (bytes a i)) 8 in
        let y : word b ≡ bytes_number (λ i. bytes b i - 48) 8 + n = number_same (bytes b) (λ i. (bytes b i - 48) + above (bytes a i)) 8 (λ i l. let s = above_same e i l in omega arith) ∙ number_plus (λ i. bytes b i - 48) (λ i. above (bytes a i)) 8 in
        by_places o (same_ints (omega arith) (omega arith)) (shifted_rank o (word a) (word b) _ _ n f x y)

-- ---- which texts are plain

letter_bit : (e : ℕ) → (e ≡ 101) ⊎ (e ≡ 69) → bit_and e 64 ≡ 0 → ⊥
letter_bit e (inl h) z = let w : bit_and e 64 ≡ 64 = rw h refl in absurd (omega arith)
letter_bit e (inr h) z = let w : bit_and e 64 ≡ 64 = rw h refl in absurd (omega arith)

no_letters : (text : List ℕ) → AllBelow 256 (bytes text) → bit_and (word text) 0x4040404040404040 ≡ 0 → (i : ℕ) → i < 8 → bit_and (bytes text i) 64 ≡ 0
unfolding word
no_letters text h z i l = number_zero (λ i. bit_and (bytes text i) 64) 8 i (sym (number_and (bytes text) (λ _. 64) 8 h (λ i. omega arith)) ∙ z) l

-- the bit of the first byte that a digit has and a minus has not
first_bit : (text : List ℕ) → AllBelow 256 (bytes text) → bit_at (word text) 60 ≡ bit_at (bytes text 0) 4
unfolding word
first_bit text h =
    let b = number_below (λ i. bytes text (1 + i)) 7 (λ i. h (1 + i)) in
    let c : bytes_number (bytes text) 8 ≡ bytes text 0 * 2 ^ 56 + bytes_number (λ i. bytes text (1 + i)) 7 = number_split (bytes text) 1 7 ∙ omega arith in
    ap (λ n. bit_at n 60) c ∙ bit_at_cat_high (bytes text 0) 56 (bytes_number (λ i. bytes text (1 + i)) 7) 60 b (omega arith)

middle : (xs : List ℕ) (y : ℕ) (ys : List ℕ) → bytes (xs ++ y ∷ ys) (length xs) ≡ y
middle [] y ys = refl
middle (x ∷ xs) y ys = middle xs y ys

plain_of : (text : List ℕ) (negative : Bool) (int frac : List ℕ) (falls : Bool) (exponent : List ℕ) → HasParts text (record { negative = negative; int = int; frac = frac; exponent_negative = falls; exponent = exponent })
    → length text ≤ 8 → ((i : ℕ) → i < 8 → bit_and (bytes text i) 64 ≡ 0) → bit_at (bytes text 0) 4 ≡ 1 → IsPlain text
plain_of text true int frac falls exponent h l n f =
    let w : text ≡ 45 ∷ (int ++ (h.frac ++ h.exp)) = h.whole ∙ rw h.is_minus refl in
    let e : bit_at (bytes text 0) 4 ≡ 0 = rw w refl in
    absurd (omega arith)
plain_of text false int frac falls (d ∷ ds) h l n f =
    let x = h.is_exp in
    let before = h.minus ++ (int ++ h.frac) in
    let w : text ≡ before ++ x.0 ∷ (x.1 ++ d ∷ ds) = h.whole ∙ regroup h.minus int h.frac h.exp ∙ ap (λ r. before ++ r) x.5 in
    let e : bytes text (length before) ≡ x.0 = ap (λ t. bytes t (length before)) w ∙ middle before x.0 (x.1 ++ d ∷ ds) in
    let g : length before < 8 = omega (arith, length-append before (x.0 ∷ (x.1 ++ d ∷ ds)), ap length w) in
    absurd (letter_bit x.0 x.2 (rw (← e) (n (length before) g)))
plain_of text false int frac falls [] h l n f = record {
  int = int;
  frac = frac;
  short = l;
  has_parts = record { minus = h.minus; frac = h.frac; exp = h.exp; is_minus = h.is_minus; is_int = h.is_int; is_frac = h.is_frac; is_exp = (h.is_exp.0, refl); whole = h.whole };
}

is_plain : (text : List ℕ) → IsNumber text → AllBelow 256 (bytes text) → length text ≤ 8 → bit_and (word text) 0x4040404040404040 ≡ 0 → bit_at (word text) 60 ≡ 1 → IsPlain text
is_plain text n h l z f = let p = parts_of_number text n in plain_of text p.0.negative p.0.int p.0.frac p.0.exponent_negative p.0.exponent p.1 l (no_letters text h z) (sym (first_bit text h) ∙ f)

-- no bit of a mask in two numbers together
in_neither : (m n k : ℕ) → bit_and (bit_or m n) k ≡ 0 → (bit_and m k ≡ 0) × (bit_and n k ≡ 0)
in_neither m n k e = (same_from_bits (bit_and m k) 0 (λ i. (none i).0), same_from_bits (bit_and n k) 0 (λ i. (none i).1))
  where
    none : (i : ℕ) → (bit_at (bit_and m k) i ≡ bit_at 0 i) × (bit_at (bit_and n k) i ≡ bit_at 0 i)
    none i =
        let a = bit_at_and (bit_or m n) k i in
        let b = bit_at_or m n i in
        let c : bit_at (bit_and (bit_or m n) k) i ≡ bit_at 0 i = ap (λ v. bit_at v i) e in
        let z = bit_at-zero i in
        (bit_at_and m k i ∙ omega arith, bit_at_and n k i ∙ omega arith)

-- a bit that two numbers share
in_both : (m n : ℕ) → (bit_and (bit_and m n) (2 ^ 60) ≡ 0 → ⊥) → (bit_at m 60 ≡ 1) × (bit_at n 60 ≡ 1)
in_both m n e =
    let a = and_pow (bit_and m n) 60 in
    let b = bit_at_and m n 60 in
    let c = bit_at-lt m 60 in
    let d = bit_at-lt n 60 in
    let s : (bit_at (bit_and m n) 60 ≡ 0) → ⊥ = λ z. e (a ∙ rw z refl) in
    (⊎_elim (λ (h : bit_at m 60 < 1). absurd (s (omega arith))) (λ (h : 1 ≤ bit_at m 60). omega arith) (cases_lt (bit_at m 60) 1), ⊎_elim (λ (h : bit_at n 60 < 1). absurd (s (omega arith))) (λ (h : 1 ≤ bit_at n 60). omega arith) (cases_lt (bit_at n 60) 1))

pub are_plain : (a b : List ℕ) → IsNumber a → IsNumber b → AllBelow 256 (bytes a) → AllBelow 256 (bytes b) → length a ≤ 8 → length b ≤ 8
    → bit_and (bit_or (word a) (word b)) 0x4040404040404040 ≡ 0 → (bit_and (bit_and (word a) (word b)) 0x1000000000000000 ≡ 0 → ⊥) → IsPlain a × IsPlain b
are_plain a b m n h k l s z f =
    let y = in_neither (word a) (word b) 0x4040404040404040 z in
    let x = in_both (word a) (word b) f in
    (is_plain a m h l y.0 x.0, is_plain b n k s y.1 x.1)

pub number_not_empty : (text : List ℕ) → IsNumber text → 1 ≤ length text
number_not_empty text n =
    let p = parts_of_number text n in
    let l = number_length p.1 in
    let m = not_empty p.0.int p.1.is_int in
    omega arith
