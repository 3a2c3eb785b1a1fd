-- Whole numbers that are written with digits alone.
use Rattle.std.proofs.Common.{◌≡◌, ℕ, ◌-◌, ◌<◌, ◌≤◌, Bool, true, false, List, [], ◌∷◌, length, get_or, subst, ◌⊎◌, inl, inr, ⊎_elim, refl, sym, ap, ◌∙◌, arith, append-nil}
use Rattle.std.specs.Prelude.{IsTrue, nat_eq}
use Rattle.std.specs.declared.cmp.Ordering.{Ordering}
use Rattle.std.specs.declared.cmp.Ordering.TheVariants.{Less, Equal, Greater}
use Rattle.std.proofs.lemmas.Bool.Decides.{nat_tests}
use Rattle.decimal_order.specs.Number.{AreDigits, IsInt, IsNumber}
use Rattle.decimal_order.specs.Value.{digits_value, is_negative}
use Rattle.decimal_order.specs.Order.{value_cmp, number_cmp}
use Rattle.decimal_order.specs.Parts.{Parts, HasParts, parts_value}
use Rattle.decimal_order.specs.Places.{magnitude, Ranks, AreLeadingZeros}
use Rattle.decimal_order.specs.Reading.{front, after, past_minus, is_int}
use Rattle.decimal_order.proofs.Digits.{lead_less, value_bound}
use Rattle.decimal_order.proofs.Magnitudes.{value_above, value_positive}
use Rattle.decimal_order.proofs.Readings.{front_is, after_is, reads, no_int, read_sound, read_complete, int_digits}
use Rattle.decimal_order.proofs.Signs.{order_up, order_down, order_zero, order_apart_less, order_apart_more}
use Rattle.decimal_order.proofs.Texts.{parts_of_number, number_cmp_is}

-- ---- by length

pub not_empty : (ds : List ℕ) → IsInt ds → 0 < length ds
not_empty [] h = absurd h
not_empty (b ∷ bs) h = omega arith

-- no zero stands in front but the one that stands alone
no_zeros : (ds : List ℕ) → IsInt ds → (1 < length ds) ⊎ (48 < get_or ds 0 48) → AreLeadingZeros ds 0
no_zeros [] h l = absurd h
no_zeros (b ∷ []) h l = record { inside = omega arith; zero_before = (λ i g. absurd (omega arith)); then_other = (λ _. ⊎_elim (λ z. absurd (omega arith)) (λ z. omega arith) l) }
no_zeros (b ∷ c ∷ cs) h l = record {
  inside = omega arith;
  zero_before = (λ i g. absurd (omega arith));
  then_other = (λ _. ⊎_elim (λ z. let e = z.1 in absurd (cc)) (λ z. let f = z.0 in omega arith) h);
}

pub shorter_less : (x y : List ℕ) → IsInt x → IsInt y → length x < length y → digits_value x < digits_value y
shorter_less x y h k l =
    let n = not_empty x h in
    let z = no_zeros y k (inl (omega arith)) in
    let a = value_bound x (int_digits x h) in
    let b = value_above y 0 (length y - 1) z (omega arith) in
    let c = lead_less (digits_value x) (digits_value y) (length x) (length y - 1) 0 0 a b (omega arith) in
    omega arith

other_positive : (b : ℕ) (bs : List ℕ) → IsInt (b ∷ bs) → 49 ≤ b → 0 < digits_value (b ∷ bs)
other_positive b bs h l = value_positive (b ∷ bs) 0 (no_zeros (b ∷ bs) h (inr (omega arith))) (omega arith)

pub zero_int : (ds : List ℕ) → IsInt ds → (IsTrue (nat_eq (get_or ds 0 0) 48) → digits_value ds ≡ 0) × (digits_value ds ≡ 0 → IsTrue (nat_eq (get_or ds 0 0) 48))
zero_int [] h = absurd h
zero_int (b ∷ bs) h = ⊎_elim
    (λ z. let e = z.0 in ((λ t. rw (z.0, z.1) refl), (λ v. grind (arith, nat_tests))))
    (λ z. let l = z.0 in let p = other_positive b bs h l in ((λ t. let e : b ≡ 48 = grind (arith, nat_tests) in absurd (omega arith)), (λ v. absurd (omega arith))))
    h

-- ---- as parts

abbrev pub plain : Bool → List ℕ → Parts
plain negative ds = record { negative = negative; int = ds; frac = []; exponent_negative = false; exponent = [] }

front_all : (ds : List ℕ) → AreDigits ds → front ds ≡ ds
front_all ds h = ap front (sym (append-nil ds)) ∙ front_is ds [] h tt

after_all : (ds : List ℕ) → AreDigits ds → after ds ≡ []
after_all ds h = ap after (sym (append-nil ds)) ∙ after_is ds [] h tt

pub plain_parts : (text x : List ℕ) → IsNumber text → x ≡ past_minus text → AreDigits x → HasParts text (plain (is_negative text) x)
plain_parts text x n e d = go (is_int x) refl
  where
    go : (t : Bool) → is_int x ≡ t → HasParts text (plain (is_negative text) x)
    go true i = read_sound text (plain (is_negative text) x) (reads text x x [] [] [] [] (is_negative text) false refl (sym e) (front_all x d) (after_all x d) i refl refl)
    go false i = let p = parts_of_number text n in let f = read_complete text p.0 p.1 in let g = no_int text x x (sym e) (front_all x d) i in absurd (cc)

magnitude_plain : (s t : Bool) (x y : List ℕ) → magnitude (plain s x) (plain t y) ≡ digits_value x
magnitude_plain s t x y = rw (append-nil x) (omega arith)

pub plain_up : (x y : List ℕ) (o : Ordering) → Ranks o (digits_value x) (digits_value y) → o ≡ value_cmp (parts_value (plain false x)) (parts_value (plain false y))
plain_up x y o h = order_up (plain false x) (plain false y) o refl refl (rw (magnitude_plain false false x y, magnitude_plain false false y x) h)

pub plain_down : (x y : List ℕ) (o : Ordering) → Ranks o (digits_value y) (digits_value x) → o ≡ value_cmp (parts_value (plain true x)) (parts_value (plain true y))
plain_down x y o h = order_down (plain true x) (plain true y) o refl refl (rw (magnitude_plain true true x y, magnitude_plain true true y x) h)

-- ---- two integers

module _ (a b x y : List ℕ) (m : IsNumber a) (n : IsNumber b) (e : x ≡ past_minus a) (f : y ≡ past_minus b) (d : AreDigits x) (k : AreDigits y) where
  a_parts : (t : Bool) → is_negative a ≡ t → HasParts a (plain t x)
  a_parts t s = subst (λ v. HasParts a (plain v x)) s (plain_parts a x m e d)

  b_parts : (t : Bool) → is_negative b ≡ t → HasParts b (plain t y)
  b_parts t s = subst (λ v. HasParts b (plain v y)) s (plain_parts b y n f k)

  pub positive_order : (o : Ordering) → is_negative a ≡ false → is_negative b ≡ false → Ranks o (digits_value x) (digits_value y) → o ≡ number_cmp a b
  positive_order o s t r = number_cmp_is a b (plain false x) (plain false y) o (a_parts false s) (b_parts false t) (plain_up x y o r)

  pub negative_order : (o : Ordering) → is_negative a ≡ true → is_negative b ≡ true → Ranks o (digits_value y) (digits_value x) → o ≡ number_cmp a b
  negative_order o s t r = number_cmp_is a b (plain true x) (plain true y) o (a_parts true s) (b_parts true t) (plain_down x y o r)

  pub zeros_order : digits_value x ≡ 0 → digits_value y ≡ 0 → Equal ≡ number_cmp a b
  zeros_order p q = number_cmp_is a b (plain (is_negative a) x) (plain (is_negative b) y) Equal (a_parts (is_negative a) refl) (b_parts (is_negative b) refl)
      (order_zero (plain (is_negative a) x) (plain (is_negative b) y) (rw (append-nil x) p) (rw (append-nil y) q))

  pub below_order : is_negative a ≡ true → is_negative b ≡ false → (0 < digits_value x) ⊎ (0 < digits_value y) → Less ≡ number_cmp a b
  below_order s t p = number_cmp_is a b (plain true x) (plain false y) Less (a_parts true s) (b_parts false t) (order_apart_less (plain true x) (plain false y) refl refl (rw (append-nil x, append-nil y) p))

  pub above_order : is_negative a ≡ false → is_negative b ≡ true → (0 < digits_value x) ⊎ (0 < digits_value y) → Greater ≡ number_cmp a b
  above_order s t p = number_cmp_is a b (plain false x) (plain true y) Greater (a_parts false s) (b_parts true t) (order_apart_more (plain false x) (plain true y) refl refl (rw (append-nil x, append-nil y) p))
