-- Digits, eight at a time: words of bytes, the highest first, compare as the numbers that the digits write.
use Rattle.std.proofs.Common.{◌≡◌, ℕ, zero, suc, ◌+◌, ◌-◌, ◌*◌, ◌^◌, ◌<◌, ◌≤◌, List, [], ◌∷◌, ◌++◌, length, length-append, length-take, length-drop, get_or, take, drop, nat_cmp, refl, sym, ap, ap₂, ◌∙◌, arith, w64}
use Rattle.std.proofs.lemmas.List.{take-append-drop}
use Rattle.std.proofs.Math.Nat.{mul-le-mul_left}
use Rattle.std.proofs.lemmas.Nat.{pow-add}
use Rattle.std.specs.Int.{from_be_bytes}
use Rattle.std.specs.Prelude.{Bool, IsTrue}
use Rattle.std.specs.declared.cmp.Ordering.{Ordering}
use Rattle.std.specs.declared.cmp.Ordering.TheVariants.{Less, Equal, Greater}
use Rattle.decimal_order.specs.Number.{IsDigit, AreDigits}
use Rattle.decimal_order.specs.Value.{digits_value}
use Rattle.decimal_order.specs.Places.{digit, made, Ranks}
use Rattle.decimal_order.proofs.Digits.{value_is_made, value_bound, digit_inside, digit_low, digit_high}
use Rattle.decimal_order.specs.Words.{bytes_number}
use Rattle.decimal_order.proofs.Bytes.{AreNines, digits_same, digits_below}
use Rattle.decimal_order.proofs.Rankings.{ranks_apart}

abbrev DigitsBelow : (ℕ → ℕ) → ℕ → Type 0
DigitsBelow f n = (i : ℕ) → i < n → IsDigit (f i)

above_zero : (f : ℕ → ℕ) (n : ℕ) → DigitsBelow f n → bytes_number f n ≡ bytes_number (λ i. f i - 48) n + bytes_number (λ _. 48) n
above_zero f zero h = refl
above_zero f (suc n) h = let s = above_zero f n (λ i l. h i (omega arith)) in let a = (h n (omega arith)).0 in omega arith

nines : (f : ℕ → ℕ) (n : ℕ) → DigitsBelow f n → AreNines (λ i. f i - 48) n
nines f n h i l = let a = (h i l).1 in omega arith

pub made_same : (f g : ℕ → ℕ) (n : ℕ) → ((i : ℕ) → i < n → f i ≡ g i) → made f n ≡ made g n
made_same f g zero h = refl
made_same f g (suc n) h = let s = made_same f g n (λ i l. h i (omega arith)) in let t = h n (omega arith) in omega arith

-- ---- eight bytes

word_is : (bs : List ℕ) → from_be_bytes w64 bs ≡ bytes_number (λ i. get_or bs i 0) 8
word_is bs = omega arith

digits_are : (bs : List ℕ) → length bs ≡ 8 → digits_value bs ≡ made (λ i. get_or bs i 0 - 48) 8
digits_are bs l = value_is_made bs ∙ ap (made (digit bs)) l ∙ made_same (digit bs) (λ i. get_or bs i 0 - 48) 8 (λ i h. digit_inside bs i (omega arith))

all_digits : (bs : List ℕ) → AreDigits bs → length bs ≡ 8 → DigitsBelow (λ i. get_or bs i 0) 8
all_digits bs h l i g = (digit_low bs h i (omega arith), digit_high bs h i (omega arith))

module _ (xs ys : List ℕ) (h : AreDigits xs) (k : AreDigits ys) (l : length xs ≡ 8) (m : length ys ≡ 8) where
  abbrev x : ℕ → ℕ
  x i = get_or xs i 0

  abbrev y : ℕ → ℕ
  y i = get_or ys i 0

  eight_same : from_be_bytes w64 xs ≡ from_be_bytes w64 ys → digits_value xs ≡ digits_value ys
  eight_same e =
      let a = above_zero x 8 (all_digits xs h l) in
      let b = above_zero y 8 (all_digits ys k m) in
      digits_are xs l ∙ digits_same (λ i. x i - 48) (λ i. y i - 48) 8 (nines x 8 (all_digits xs h l)) (nines y 8 (all_digits ys k m)) (omega (arith, word_is xs, word_is ys)) ∙ sym (digits_are ys m)

  eight_below : from_be_bytes w64 xs < from_be_bytes w64 ys → digits_value xs < digits_value ys
  eight_below e =
      let a = above_zero x 8 (all_digits xs h l) in
      let b = above_zero y 8 (all_digits ys k m) in
      rw (digits_are xs l, digits_are ys m) (digits_below (λ i. x i - 48) (λ i. y i - 48) 8 (nines x 8 (all_digits xs h l)) (nines y 8 (all_digits ys k m)) (omega (arith, word_is xs, word_is ys)))

-- ---- eight bytes and the rest

pub digits_take : (n : ℕ) (xs : List ℕ) → AreDigits xs → AreDigits (take n xs)
digits_take zero xs h = tt
digits_take (suc n) [] h = tt
digits_take (suc n) (x ∷ xs) h = (h.0, digits_take n xs h.1)

pub digits_drop : (n : ℕ) (xs : List ℕ) → AreDigits xs → AreDigits (drop n xs)
digits_drop zero xs h = h
digits_drop (suc n) [] h = tt
digits_drop (suc n) (x ∷ xs) h = digits_drop n xs h.1

-- digits in front, and digits from a place on that those in front reach
pub digits_cover : (n k : ℕ) (xs : List ℕ) → k ≤ n → AreDigits (take n xs) → AreDigits (drop k xs) → AreDigits xs
digits_cover n zero xs l h d = d
digits_cover zero (suc k) xs l h d = absurd (omega arith)
digits_cover (suc n) (suc k) [] l h d = tt
digits_cover (suc n) (suc k) (x ∷ xs) l h d = (h.0, digits_cover n k xs (omega arith) h.1 d)

pub eight_and_eight : (text left first last : List ℕ) (b : Bool) → (AreDigits left → AreDigits text) × (AreDigits text → AreDigits left) → length left < 16 → first ≡ take 8 left → last ≡ drop (length left - 8) left → AreDigits first → (IsTrue b → AreDigits last) × (AreDigits last → IsTrue b) → (IsTrue b → AreDigits text) × (AreDigits text → IsTrue b)
eight_and_eight text left first last b v l f g h t = (
  (λ e. v.0 (digits_cover 8 (length left - 8) left (omega arith) (rw (← f) h) (rw (← g) (t.0 e)))),
  (λ d. t.1 (rw g (digits_drop (length left - 8) left (v.1 d)))),
)

pub distribute : (d a b v w : ℕ) → d * (a * b) + (v * b + w) ≡ (d * a + v) * b + w
distribute d a b v w = omega arith

pub value-append : (xs ys : List ℕ) → digits_value (xs ++ ys) ≡ digits_value xs * 10 ^ length ys + digits_value ys
value-append [] ys = omega arith
value-append (x ∷ xs) ys = rw (length-append xs ys, pow-add 10 (length xs) (length ys), value-append xs ys) (distribute (x - 48) (10 ^ length xs) (10 ^ length ys) (digits_value xs) (digits_value ys))

value_cut : (n : ℕ) (xs : List ℕ) → digits_value xs ≡ digits_value (take n xs) * 10 ^ length (drop n xs) + digits_value (drop n xs)
value_cut n xs = ap digits_value (sym (take-append-drop n xs)) ∙ value-append (take n xs) (drop n xs)

rank_rest : (o : Ordering) (a b c d e : ℕ) → c ≡ d → Ranks o a b → Ranks o (c * e + a) (d * e + b)
rank_rest Less a b c d e s r = rw s (omega arith)
rank_rest Equal a b c d e s r = rw (s, r) refl
rank_rest Greater a b c d e s r = rw s (omega arith)

-- what the first eight bytes leave open, the rest decides
rest_ranks : (xs ys : List ℕ) (o : Ordering) → AreDigits xs → AreDigits ys → length xs ≡ length ys → 8 ≤ length xs → from_be_bytes w64 (take 8 xs) ≡ from_be_bytes w64 (take 8 ys) → Ranks o (digits_value (drop 8 xs)) (digits_value (drop 8 ys)) → Ranks o (digits_value xs) (digits_value ys)
rest_ranks xs ys o h k l m e r =
    let s : length (drop 8 xs) ≡ length (drop 8 ys) = omega (arith, length-drop 8 xs, length-drop 8 ys) in
    let t = eight_same (take 8 xs) (take 8 ys) (digits_take 8 xs h) (digits_take 8 ys k) (omega (arith, length-take 8 xs)) (omega (arith, length-take 8 ys)) e in
    rw (value_cut 8 xs, value_cut 8 ys, s) (rank_rest o (digits_value (drop 8 xs)) (digits_value (drop 8 ys)) (digits_value (take 8 xs)) (digits_value (take 8 ys)) (10 ^ length (drop 8 ys)) t r)

first_below : (xs ys : List ℕ) → AreDigits xs → AreDigits ys → length xs ≡ length ys → 8 ≤ length xs → from_be_bytes w64 (take 8 xs) < from_be_bytes w64 (take 8 ys) → digits_value xs < digits_value ys
first_below xs ys h k l m e =
    let s : length (drop 8 xs) ≡ length (drop 8 ys) = omega (arith, length-drop 8 xs, length-drop 8 ys) in
    let t = eight_below (take 8 xs) (take 8 ys) (digits_take 8 xs h) (digits_take 8 ys k) (omega (arith, length-take 8 xs)) (omega (arith, length-take 8 ys)) e in
    let a = value_bound (drop 8 xs) (digits_drop 8 xs h) in
    let b : 10 ^ length (drop 8 ys) * (digits_value (take 8 xs) + 1) ≤ 10 ^ length (drop 8 ys) * digits_value (take 8 ys) = mul-le-mul_left (10 ^ length (drop 8 ys)) (omega arith) in
    let c = value_cut 8 xs in
    let d = value_cut 8 ys in
    let f : 10 ^ length (drop 8 xs) ≡ 10 ^ length (drop 8 ys) = ap (λ n. 10 ^ n) s in
    rw (c, d, f) (omega arith)

first_ranks : (xs ys : List ℕ) (o : Ordering) → AreDigits xs → AreDigits ys → length xs ≡ length ys → 8 ≤ length xs → o ≡ nat_cmp (from_be_bytes w64 (take 8 xs)) (from_be_bytes w64 (take 8 ys)) → (from_be_bytes w64 (take 8 xs) ≡ from_be_bytes w64 (take 8 ys) → ⊥) → Ranks o (digits_value xs) (digits_value ys)
first_ranks xs ys o h k l m c d =
    ranks_apart o (from_be_bytes w64 (take 8 xs)) (from_be_bytes w64 (take 8 ys)) (digits_value xs < digits_value ys) (digits_value xs ≡ digits_value ys) (digits_value ys < digits_value xs) c d
    (λ p. first_below xs ys h k l m p) (λ p. first_below ys xs k h (sym l) (omega arith) p)

abbrev pub CutAtEight : List ℕ → List ℕ → List ℕ → Type 0
CutAtEight xs a rest = (a ≡ take 8 xs) × (rest ≡ drop 8 xs) × (length rest + 8 ≡ length xs)

module _ (xs ys a b x y : List ℕ) (m n : ℕ) (p : CutAtEight xs a x) (q : CutAtEight ys b y) (h : AreDigits xs) (k : AreDigits ys) (l : length xs ≡ length ys) (e : m ≡ from_be_bytes w64 a) (f : n ≡ from_be_bytes w64 b) where
  is_m : m ≡ from_be_bytes w64 (take 8 xs)
  is_m = e ∙ ap (from_be_bytes w64) p.0

  is_n : n ≡ from_be_bytes w64 (take 8 ys)
  is_n = f ∙ ap (from_be_bytes w64) q.0

  long : 8 ≤ length xs
  long = let g = p.2 in omega arith

  pub words_rank : (o : Ordering) → o ≡ nat_cmp m n → (m ≡ n → ⊥) → Ranks o (digits_value xs) (digits_value ys)
  words_rank o c d = first_ranks xs ys o h k l long (c ∙ ap₂ nat_cmp is_m is_n) (λ g. d (is_m ∙ g ∙ sym is_n))

  pub words_same : (o : Ordering) → m ≡ n → Ranks o (digits_value x) (digits_value y) → Ranks o (digits_value xs) (digits_value ys)
  words_same o c r = rest_ranks xs ys o h k l long (sym is_m ∙ c ∙ is_n) (rw (← p.1, ← q.1) r)
