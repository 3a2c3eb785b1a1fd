-- What stands in one lane of a vector, and what a bit of a mask tells of it.
use Rattle.std.proofs.Common.{◌≡◌, ℕ, ◌+◌, ◌*◌, ◌%◌, ◌^◌, ◌<◌, ◌≤◌, ◌≢◌, eqb, leb, ltb, bit_or, cond, Bool, true, false, List, map, replicate, length, get_or, w64, inl, inr, refl, sym, ap, ap₂, ◌∙◌, arith}
use Rattle.std.specs.Int.{bit_at, trailing_zeros}
use Rattle.std.proofs.lemmas.Bool.{cases_lt}
use Rattle.std.proofs.lemmas.Bool.Decides.{nat_tests}
use Rattle.std.proofs.lemmas.List.{length-map, get_or-map}
use Rattle.std.proofs.lemmas.Nat.{or_lt}
use Rattle.std.proofs.lemmas.Nat.Bits.{bit_at-zero, bit_at-trailing_zeros, bit_at_set_same, bit_at_set_other}
use Rattle.std.proofs.lemmas.Simd.{length-zip2, get_or-zip2, length-replicate, get_or-replicate, length-chunk, get_or-chunk, mask_l-mod, bit_mask_l}
use lib.Lanes.{chunk, zip2, mask_l, top}

-- ---- One lane, built up as its vector is

-- the vector has n lanes, and x stands in lane i
pub record HasLane (n i : ℕ) (lanes : List ℕ) (x : ℕ) : Type 0 where
  pub many : length lanes ≡ n
  pub here : get_or lanes i 0 ≡ x

pub loaded : (text : List ℕ) (at n i : ℕ) → at + n ≤ length text → i < n → HasLane n i (chunk at n text) (get_or text (at + i) 0)
loaded text at n i room inside = record { many = length-chunk at n text room; here = get_or-chunk at n text i 0 inside }

pub repeated : (n i y : ℕ) → i < n → HasLane n i (replicate n y) y
repeated n i y inside = record { many = length-replicate {A = ℕ} n y; here = get_or-replicate n i y 0 inside }

pub combined : (f : ℕ → ℕ → ℕ) (n i : ℕ) (xs ys : List ℕ) (a b : ℕ) → i < n → HasLane n i xs a → HasLane n i ys b → HasLane n i (zip2 f xs ys) (f a b)
combined f n i xs ys a b inside p q =
    let long = p.many in
    let same = q.many in
    record {
      many = length-zip2 f xs ys (omega arith) ∙ long;
      here = get_or-zip2 f xs ys i 0 0 0 (omega arith) (omega arith) ∙ ap₂ f p.here q.here;
    }

-- ---- Bits that are not set

abbrev bit : Bool → ℕ
bit b = cond b 1 0

unset : (b : Bool) → bit b ≡ 0 → b ≡ false
unset x0 e = grind arith

-- the bit of a lane is its highest
told : (h n i : ℕ) (lanes : List ℕ) (x : ℕ) → n ≤ 64 → i < n → HasLane n i lanes x → bit_at (mask_l (map (top h) lanes) % 2 ^ 64) i ≡ bit (top h x)
told h n i lanes x few inside lane = let tops = map (top h) lanes in let long = lane.many in let whole = mask_l-mod tops 64 (omega (arith, length-map lanes (top h))) in let at = get_or-map (top h) lanes i 0 false (omega arith) ∙ ap (top h) lane.here in grind (arith, whole, bit_mask_l tops i, at)

-- where the bit of a lane is not set, the lane has not its highest bit
pub off : (h n i : ℕ) (lanes : List ℕ) (x : ℕ) → n ≤ 64 → i < n → HasLane n i lanes x → bit_at (mask_l (map (top h) lanes) % 2 ^ 64) i ≡ 0 → top h x ≡ false
off h n i lanes x few inside lane clear = unset (top h x) (sym (told h n i lanes x few inside lane) ∙ clear)

set_only : (b : Bool) → bit b ≡ 1 → b ≡ true
set_only x0 e = grind arith

-- and where it is set, the lane has
pub on : (h n i : ℕ) (lanes : List ℕ) (x : ℕ) → n ≤ 64 → i < n → HasLane n i lanes x → bit_at (mask_l (map (top h) lanes) % 2 ^ 64) i ≡ 1 → top h x ≡ true
on h n i lanes x few inside lane set = set_only (top h x) (sym (told h n i lanes x few inside lane) ∙ set)

-- no bit of 0 is set
pub none : (mask i : ℕ) → mask ≡ 0 → bit_at mask i ≡ 0
none mask i e = grind (arith, e, bit_at-zero i)

some_bit : (m i : ℕ) → bit_at m i ≡ 1 → 0 < m
some_bit x0 i e = grind arith

-- a bit that is set behind the last lane ends the count
module _ (stops n : ℕ) (fits : stops < 2 ^ 64) (inside : n < 64) where
  abbrev ended : ℕ
  ended = bit_or stops (1 * 2 ^ n % 2 ^ 64)

  behind : bit_at ended n ≡ 1
  behind = bit_at_set_same w64 stops n inside

  lowest : (trailing_zeros w64 ended < 64) × (bit_at ended (trailing_zeros w64 ended) ≡ 1) × ((i : ℕ) → i < trailing_zeros w64 ended → bit_at ended i ≡ 0)
  lowest = bit_at-trailing_zeros w64 ended (some_bit ended n behind) (or_lt 64 stops (1 * 2 ^ n % 2 ^ 64) fits (omega arith))

  pub no_more : trailing_zeros w64 ended ≤ n
  no_more = elim (cases_lt n (trailing_zeros w64 ended)) [
    | inl past ↦ absurd (let clear = lowest.2 n past in let set = behind in omega arith)
    | inr within ↦ within
  ]

  pub none_before : (i : ℕ) → i < trailing_zeros w64 ended → bit_at stops i ≡ 0
  none_before i before = let most = no_more in let other : i ≢ n = λ e. omega arith in grind (arith, bit_at_set_other w64 stops n inside i other, lowest.2 i before)

-- ---- Comparisons joined in a lane, none of which holds

pub neither : (p q : Bool) → top 7 (bit_or (cond p 255 0) (cond q 255 0)) ≡ false → (p ≡ false) × (q ≡ false)
neither false false e = (refl, refl)
neither false true e = absurd (cc)
neither true false e = absurd (cc)
neither true true e = absurd (cc)

pub alone : (p : Bool) → top 7 (cond p 255 0) ≡ false → p ≡ false
alone x0 e = grind arith

pub none_of : (p q r : Bool) → top 7 (bit_or (bit_or (cond p 255 0) (cond q 255 0)) (cond r 255 0)) ≡ false → (p ≡ false) × (q ≡ false) × (r ≡ false)
none_of false false false e = (refl, refl, refl)
none_of false false true e = absurd (cc)
none_of false true false e = absurd (cc)
none_of false true true e = absurd (cc)
none_of true false false e = absurd (cc)
none_of true false true e = absurd (cc)
none_of true true false e = absurd (cc)
none_of true true true e = absurd (cc)

abbrev pub equal : ℕ → ℕ → ℕ
equal x y = cond (eqb x y) 255 0

abbrev pub at_most : ℕ → ℕ → ℕ
at_most x y = cond (leb x y) 255 0

abbrev pub less : ℕ → ℕ → ℕ
less x y = cond (ltb x y) 255 0

-- ---- No quote, no backslash and no control character

pub unstopped_lane : (n i : ℕ) (v : List ℕ) (x : ℕ) → n ≤ 64 → i < n → HasLane n i v x
    → bit_at (mask_l (map (top 7) (zip2 bit_or (zip2 bit_or (zip2 equal v (replicate n 34)) (zip2 equal v (replicate n 92))) (zip2 less v (replicate n 32)))) % 2 ^ 64) i ≡ 0
    → (x ≢ 34) × (x ≢ 92) × (32 ≤ x)
unstopped_lane n i v x few inside lane clear =
    let quote = combined equal n i v (replicate n 34) x 34 inside lane (repeated n i 34 inside) in
    let backslash = combined equal n i v (replicate n 92) x 92 inside lane (repeated n i 92 inside) in
    let control = combined less n i v (replicate n 32) x 32 inside lane (repeated n i 32 inside) in
    let two = combined bit_or n i _ _ _ _ inside quote backslash in
    let three = combined bit_or n i _ _ _ _ inside two control in
    let t = none_of (eqb x 34) (eqb x 92) (ltb x 32) (off 7 n i _ _ few inside three clear) in
    (let a = t.0 in λ e. grind (arith, nat_tests), let b = t.1 in λ e. grind (arith, nat_tests), let d = t.2 in grind (arith, nat_tests))

-- ---- No backslash

pub slashless_lane : (n i : ℕ) (v : List ℕ) (x : ℕ) → n ≤ 64 → i < n → HasLane n i v x → bit_at (mask_l (map (top 7) (zip2 equal v (replicate n 92))) % 2 ^ 64) i ≡ 0 → x ≢ 92
slashless_lane n i v x few inside lane clear = let t = alone (eqb x 92) (off 7 n i _ _ few inside (combined equal n i v (replicate n 92) x 92 inside lane (repeated n i 92 inside)) clear) in λ e. grind (arith, nat_tests)

-- ---- From one value to before another

pub range_lane : (n i low high : ℕ) (v : List ℕ) (x : ℕ) → n ≤ 64 → i < n → HasLane n i v x
    → bit_at (mask_l (map (top 7) (zip2 bit_or (zip2 less v (replicate n low)) (zip2 at_most (replicate n high) v))) % 2 ^ 64) i ≡ 0
    → (low ≤ x) × (x < high)
range_lane n i low high v x few inside lane clear =
    let below = combined less n i v (replicate n low) x low inside lane (repeated n i low inside) in
    let above = combined at_most n i (replicate n high) v high x inside (repeated n i high inside) lane in
    let both = combined bit_or n i _ _ _ _ inside below above in
    let t = neither (ltb x low) (leb high x) (off 7 n i _ _ few inside both clear) in
    (let a = t.0 in grind (arith, nat_tests), let b = t.1 in grind (arith, nat_tests))
