-- From lanes to the bits of a mask.
use Rattle.std.proofs.Common.{◌≡◌, ℕ, ◌+◌, ◌-◌, ◌*◌, ◌/◌, ◌%◌, ◌^◌, ◌<◌, ◌≤◌, min, ◌⊎◌, inl, inr, Bool, true, false, not, cond, if◌then◌else◌, nat_lt, List, length, get_or, replicate, map, refl, sym, ap, subst, ◌∙◌, arith, ◌==◌, ◌||◌, ◌++◌, w8, Fits, zero-add}
use Rattle.std.specs.List.{range_with_len}
use Rattle.std.proofs.lemmas.Simd.{tops_compared, mask_l-mod, mask_l-lt, bit_mask_l, length-zip2, get_or-zip2, length-replicate, get_or-replicate, get_or-sel_l, Each1-get_or, Each1-from_get_or, SwzOk, SwzOk-from_Each1, swz_l, get_or-swz_l, get_or-chunk, pick_l-range_with_len, pick_l_left}
use Rattle.std.proofs.lemmas.Nat.Bits.{bit_at_above}
use Rattle.std.proofs.lemmas.Bool.{cases_lt}
use Rattle.std.proofs.lemmas.Bool.Decides.{nat_tests}
use lib.Bits.{bit_and, bit_or}
use lib.Dec.{T, ltb}
use lib.Lanes.{mask_l, top, zip2, sel_l, Each1, pick_l, all_below}
use mir.Val.{zeroes}
use Rattle.bit_words.specs.Words.{is_set, HasBits}
use Rattle.bit_words.proofs.Bits.{is_set-or, shifted, is_set-shifted, is_set-shifted_low}
use Rattle.bit_words.proofs.Tables.{each}
use Rattle.byte_masks.specs.Classes.{found}

-- `to_bitmask` of a comparison
pub compared_at : (t : ℕ → ℕ → Bool) (n : ℕ) (xs ys : List ℕ) → n ≤ 64 → length xs ≡ n → length ys ≡ n → (i : ℕ) → i < n
    → is_set (mask_l (map (top 7) (zip2 (λ a b. cond (t a b) 255 0) xs ys)) % 2 ^ 64) i ≡ t (get_or xs i 0) (get_or ys i 0)
unfolding is_set
compared_at t n xs ys few lx ly i h =
    let long = length-zip2 t xs ys (lx ∙ sym ly) in
    ap (λ ms. is_set (mask_l ms % 2 ^ 64) i) (tops_compared w8 t xs ys)
    ∙ ap (λ n. is_set n i) (mask_l-mod (zip2 t xs ys) 64 (omega arith))
    ∙ ap (λ n. n == 1) (bit_mask_l (zip2 t xs ys) i)
    ∙ one (get_or (zip2 t xs ys) i false)
    ∙ get_or-zip2 t xs ys i 0 0 false (omega arith) (omega arith)
  where
    one : (b : Bool) → (cond b 1 0 == 1) ≡ b
    one true = refl
    one false = refl

pub compared_lt : (t : ℕ → ℕ → Bool) (n : ℕ) (xs ys : List ℕ) → n ≤ 64 → length xs ≡ n → length ys ≡ n → mask_l (map (top 7) (zip2 (λ a b. cond (t a b) 255 0) xs ys)) % 2 ^ 64 < 2 ^ n
compared_lt t n xs ys few lx ly = let long = length-zip2 t xs ys (lx ∙ sym ly) ∙ lx in let same = ap (λ ms. mask_l ms % 2 ^ 64) (tops_compared w8 t xs ys) ∙ mask_l-mod (zip2 t xs ys) 64 (omega (arith, long)) in grind (arith, same, long, mask_l-lt (zip2 t xs ys))

-- lanes compared with one byte in each of 64
pub compared_with : (t : ℕ → ℕ → Bool) (xs : List ℕ) (byte : ℕ) → length xs ≡ 64 → HasBits (mask_l (map (top 7) (zip2 (λ a b. cond (t a b) 255 0) xs (replicate 64 byte))) % 2 ^ 64) (λ i. t (get_or xs i 0) byte)
compared_with t xs byte lx i h = grind (arith, compared_at t 64 xs (replicate 64 byte) (omega arith) lx (length-replicate {A = ℕ} 64 byte) i h, get_or-replicate 64 i byte 0 h)

-- `simd_min`
pub lesser_at : (xs ys : List ℕ) (n i : ℕ) → length xs ≡ n → length ys ≡ n → i < n
    → get_or (sel_l (map (top 7) (zip2 (λ a b. cond (nat_lt a b) 255 0) xs ys)) xs ys) i 0 ≡ min (get_or xs i 0) (get_or ys i 0)
lesser_at xs ys n i lx ly h =
    let long = length-zip2 nat_lt xs ys (lx ∙ sym ly) in
    ap (λ ms. get_or (sel_l ms xs ys) i 0) (tops_compared w8 nat_lt xs ys)
    ∙ get_or-sel_l (zip2 nat_lt xs ys) xs ys i 0 (omega arith) (omega arith) (omega arith)
    ∙ ap (λ m. cond m (get_or xs i 0) (get_or ys i 0)) (get_or-zip2 nat_lt xs ys i 0 0 false (omega arith) (omega arith))
    ∙ least (get_or xs i 0) (get_or ys i 0)
  where
    least : (a b : ℕ) → cond (nat_lt a b) a b ≡ min a b
    least a b = grind (arith, nat_tests)

-- an operator with one byte in each lane
pub masked : (f : ℕ → ℕ → ℕ) (lanes : List ℕ) (n mask i : ℕ) → length lanes ≡ n → i < n → get_or (zip2 f lanes (replicate n mask)) i 0 ≡ f (get_or lanes i 0) mask
masked f lanes n mask i long h = let m = length-replicate {A = ℕ} n mask in grind (arith, get_or-zip2 f lanes (replicate n mask) i 0 0 0 (omega arith) (omega arith), get_or-replicate n i mask 0 h)

pub byte_at : (lanes : List ℕ) (i : ℕ) → i < length lanes → Each1 (Fits w8) lanes → get_or lanes i 0 < 256
byte_at lanes i h bytes = (Each1-get_or (Fits w8) lanes i 0 h bytes).fits

-- ---- a table of 16, looked up at the bits of each lane that are read

abbrev pub spot : ℕ → ℕ
spot c = bit_and c 0x8f

spot_inside : (c : ℕ) → c < 256 → T (zeroes 16 w8 (spot c) || ltb (spot c) 16)
spot_inside c h = grind (arith, each (λ c. zeroes 16 w8 (spot c) || ltb (spot c) 16) (λ c. true) 256 refl c h)

-- the look-up of one byte
looked_up : (table : List ℕ) (c : ℕ) → c < 256 → cond (zeroes 16 w8 (spot c)) 0 (get_or table (spot c) 0) ≡ found table c
looked_up table c h =
    ap (λ z. cond z 0 (get_or table (spot c) 0)) (each (λ c. zeroes 16 w8 (spot c)) (λ c. not (nat_lt c 128)) 256 refl c h) ∙ go (nat_lt c 128) (each (λ c. cond (nat_lt c 128) (spot c == c % 16) true) (λ c. true) 256 refl c h)
  where
    go : (low : Bool) → cond low (spot c == c % 16) true ≡ true → cond (not low) 0 (get_or table (spot c) 0) ≡ (if low then get_or table (c % 16) 0 else 0)
    go true e = let same : spot c ≡ c % 16 = grind (arith, nat_tests) in ap (λ n. get_or table n 0) same
    go false e = refl

module _ (lanes : List ℕ) (long : length lanes ≡ 16) (bytes : Each1 (Fits w8) lanes) where
  abbrev spots : List ℕ
  spots = zip2 (λ a b. bit_and a b) lanes (replicate 16 0x8f)

  pub spots_long : length spots ≡ 16
  spots_long = length-zip2 (λ a b. bit_and a b) lanes (replicate 16 0x8f) long ∙ long

  spot_at : (i : ℕ) → i < 16 → get_or spots i 0 ≡ spot (get_or lanes i 0)
  spot_at i h = masked (λ a b. bit_and a b) lanes 16 0x8f i long h

  byte : (i : ℕ) → i < 16 → get_or lanes i 0 < 256
  byte i h = byte_at lanes i (omega arith) bytes

  pub in_table : SwzOk w8 16 16 0 spots
  in_table = grind (arith, SwzOk-from_Each1 w8 16 1 16 0 spots refl (omega (arith, spots_long)) (Each1-from_get_or (λ j. T (zeroes 16 w8 j || ltb j 16)) spots 0 (λ i h. let inside : i < 16 = omega (arith, h, spots_long) in subst (λ j. T (zeroes 16 w8 j || ltb j 16)) (sym (spot_at i inside)) (spot_inside (get_or lanes i 0) (byte i inside)))))

  pub found_at : (table : List ℕ) (i : ℕ) → i < 16 → get_or (swz_l w8 16 table 0 spots) i 0 ≡ found table (get_or lanes i 0)
  found_at table i h = let first : 16 * ((0 + i) / 16) ≡ 0 = omega arith in grind (arith, get_or-swz_l w8 16 table 0 spots i (omega (arith, spots_long)), first, spot_at i h, zero-add (spot (get_or lanes i 0)), looked_up table (get_or lanes i 0) (byte i h))

-- ---- 64 lanes by 16

-- `extract`
abbrev pub taken : List ℕ → ℕ → List ℕ
taken lanes at = pick_l 0 (lanes ++ lanes) (range_with_len at 16)

pub taken_at : (lanes : List ℕ) (at i : ℕ) → length lanes ≡ 64 → T (all_below 64 (range_with_len at 16)) → at + 16 ≤ 64 → i < 16 → get_or (taken lanes at) i 0 ≡ get_or lanes (at + i) 0
taken_at lanes at i long below inside h =
    ap (λ l. get_or l i 0) (pick_l_left 0 lanes lanes 64 (range_with_len at 16) long below ∙ pick_l-range_with_len 0 lanes at 16 (omega arith)) ∙ get_or-chunk at 16 lanes i 0 h

module _ (test : ℕ → Bool) (a b c d : ℕ) (la : a < 2 ^ 16) (lb : b < 2 ^ 16) (lc : c < 2 ^ 16) where
  high : (x i : ℕ) → x < 2 ^ 16 → 16 ≤ i → is_set x i ≡ false
  unfolding is_set
  high x i fits le = grind (arith, bit_at_above x 16 i fits le)

  past : (x k i : ℕ) → x < 2 ^ 16 → k + 16 ≤ i → i < 64 → is_set (shifted x k) i ≡ false
  past x k i fits le within = let e : k + (i - k) ≡ i = omega arith in grind (arith, e, is_set-shifted x k (i - k) (omega arith), high x (i - k) fits (omega arith))

  inside : (x k i : ℕ) → k ≤ i → i < 64 → ((j : ℕ) → j < 16 → is_set x j ≡ test (k + j)) → i < k + 16 → is_set (shifted x k) i ≡ test i
  inside x k i le within bits lt = let e : k + (i - k) ≡ i = omega arith in grind (arith, e, is_set-shifted x k (i - k) (omega arith), bits (i - k) (omega arith))

  all : (i : ℕ) → is_set (bit_or (bit_or (bit_or a (shifted b 16)) (shifted c 32)) (shifted d 48)) i ≡ (((is_set a i || is_set (shifted b 16) i) || is_set (shifted c 32) i) || is_set (shifted d 48) i)
  all i = grind (arith, is_set-or (bit_or (bit_or a (shifted b 16)) (shifted c 32)) (shifted d 48) i, is_set-or (bit_or a (shifted b 16)) (shifted c 32) i, is_set-or a (shifted b 16) i)

  values : (p q r s : Bool) (i : ℕ) → is_set a i ≡ p → is_set (shifted b 16) i ≡ q → is_set (shifted c 32) i ≡ r → is_set (shifted d 48) i ≡ s
      → is_set (bit_or (bit_or (bit_or a (shifted b 16)) (shifted c 32)) (shifted d 48)) i ≡ (((p || q) || r) || s)
  values p q r s i ep eq er es = grind (arith, all i, ep, eq, er, es)

  or-false : (p : Bool) → (p || false) ≡ p
  or-false x0 = grind arith

  -- four words of 16 bits, one behind the other
  pub joined : ((j : ℕ) → j < 16 → is_set a j ≡ test j) → ((j : ℕ) → j < 16 → is_set b j ≡ test (16 + j)) → ((j : ℕ) → j < 16 → is_set c j ≡ test (32 + j)) → ((j : ℕ) → j < 16 → is_set d j ≡ test (48 + j))
      → HasBits (bit_or (bit_or (bit_or a (shifted b 16)) (shifted c 32)) (shifted d 48)) test
  joined ba bb bc bd i within = quarter (cases_lt i 16)
    where
      first : i < 16 → is_set (bit_or (bit_or (bit_or a (shifted b 16)) (shifted c 32)) (shifted d 48)) i ≡ test i
      first lt =
          values (test i) false false false i (ba i lt) (is_set-shifted_low b 16 i lt within) (is_set-shifted_low c 32 i (omega arith) within) (is_set-shifted_low d 48 i (omega arith) within)
          ∙ or-false _ ∙ or-false _ ∙ or-false _

      second : 16 ≤ i → i < 32 → is_set (bit_or (bit_or (bit_or a (shifted b 16)) (shifted c 32)) (shifted d 48)) i ≡ test i
      second le lt =
          values false (test i) false false i (high a i la le) (inside b 16 i le within bb lt) (is_set-shifted_low c 32 i lt within) (is_set-shifted_low d 48 i (omega arith) within)
          ∙ or-false _ ∙ or-false _

      third : 32 ≤ i → i < 48 → is_set (bit_or (bit_or (bit_or a (shifted b 16)) (shifted c 32)) (shifted d 48)) i ≡ test i
      third le lt =
          values false false (test i) false i (high a i la (omega arith)) (past b 16 i lb le within) (inside c 32 i le within bc lt) (is_set-shifted_low d 48 i lt within)
          ∙ or-false _

      fourth : 48 ≤ i → is_set (bit_or (bit_or (bit_or a (shifted b 16)) (shifted c 32)) (shifted d 48)) i ≡ test i
      fourth le = values false false false (test i) i (high a i la (omega arith)) (past b 16 i lb (omega arith) within) (past c 32 i lc le within) (inside d 48 i le within bd (omega arith))

      last : (i < 48) ⊎ (48 ≤ i) → 32 ≤ i → is_set (bit_or (bit_or (bit_or a (shifted b 16)) (shifted c 32)) (shifted d 48)) i ≡ test i
      last (inl lt) le = third le lt
      last (inr far) le = fourth far

      middle : (i < 32) ⊎ (32 ≤ i) → 16 ≤ i → is_set (bit_or (bit_or (bit_or a (shifted b 16)) (shifted c 32)) (shifted d 48)) i ≡ test i
      middle (inl lt) le = second le lt
      middle (inr far) le = last (cases_lt i 48) far

      quarter : (i < 16) ⊎ (16 ≤ i) → is_set (bit_or (bit_or (bit_or a (shifted b 16)) (shifted c 32)) (shifted d 48)) i ≡ test i
      quarter (inl lt) = first lt
      quarter (inr le) = middle (cases_lt i 32) le

-- what holds of no byte of the four parts holds of none
pub none_of : (test : ℕ → Bool) → ((k : ℕ) → k < 16 → (test k ≡ false) × (test (16 + k) ≡ false) × (test (32 + k) ≡ false) × (test (48 + k) ≡ false)) → (i : ℕ) → i < 64 → test i ≡ false
none_of test parts i within = go (cases_lt i 16) (cases_lt i 32) (cases_lt i 48)
  where
    at : (from : ℕ) → from ≤ i → test (from + (i - from)) ≡ false → test i ≡ false
    at from le e = let same : from + (i - from) ≡ i = omega arith in ap test (sym same) ∙ e

    go : (i < 16) ⊎ (16 ≤ i) → (i < 32) ⊎ (32 ≤ i) → (i < 48) ⊎ (48 ≤ i) → test i ≡ false
    go (inl lt) b c = (parts i lt).0
    go (inr le) (inl lt) c = at 16 le (parts (i - 16) (omega arith)).1
    go (inr _) (inr le) (inl lt) = at 32 le (parts (i - 32) (omega arith)).2
    go (inr _) (inr _) (inr le) = at 48 le (parts (i - 48) (omega arith)).3
