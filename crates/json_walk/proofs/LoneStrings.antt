-- A string has a lone surrogate exactly where one of its escapes is that of one.
use Rattle.json_text.proofs.Names.{◌≡◌, ℕ, zero, suc, ◌+◌, ◌-◌, ◌*◌, ◌<◌, ◌≤◌, inl, inr, Bool, true, false, not, ◌&&◌, ◌||◌, cond, List, [], ◌∷◌, ◌++◌}
use Rattle.json_text.proofs.Names.{length, drop, refl, sym, ap, subst, ◌∙◌, arith, append_assoc, length-append, cases_lt, nat_tests, eqb, leb, false≢true, length-encode, len_utf8_bounds}
use Rattle.json_text.proofs.Names.{Spelt, Plain, Short, Unit4, IsHexDigit, IsShort, IsChar, AreChars, IsString, turn, Some, None, HasLone}
use Rattle.json_walk.proofs.Names.{byte, Between}
use Rattle.std.proofs.Common.{ap₂, ◌==◌}
use Rattle.json_text.specs.Meaning.{is_high as unit_high, is_low as unit_low}
use Rattle.json_text.specs.declared.modes.Turn.TheVariants.{Go}
use Rattle.json_text.proofs.Strings.{ArePlain, plain_bytes}
use Rattle.json_text.proofs.LoneChars.{after_one, over_chars, lone_chars, means_none, meant}
use Rattle.json_strings.proofs.Spelled.{digit_bound}
use Rattle.structural_index.specs.Places.{is_escaped, is_hex, is_d, is_early, is_late, are_digits, is_unit, is_high, is_low, is_lone, spells_high, spells_low, HasLoneSurrogate}
use Rattle.structural_index.specs.Blocks.{any_below}
use Rattle.structural_index.proofs.Below.{any_same, any_none, any_along, any_found, any_where}
use Rattle.structural_index.proofs.Steps.{escaped_suc}
use Rattle.structural_index.proofs.Seams.{and_first, and_second}
use Rattle.structural_index.proofs.JudgedEscapes.{free_behind, free_paired, unit_free, start_free}
use Rattle.json_walk.proofs.Bridge.{Each, uncons, drop_past, stands, hex_known, unit_known}

-- ---- digits

d_is : (a n : ℕ) → IsHexDigit a n → is_d a ≡ eqb n 13
d_is a n h = grind (arith, nat_tests)

early_is : (a n : ℕ) → IsHexDigit a n → is_early a ≡ (leb 8 n && leb n 11)
early_is a n h = grind (arith, nat_tests)

late_is : (a n : ℕ) → IsHexDigit a n → is_late a ≡ leb 12 n
late_is a n h = grind (arith, nat_tests)

high_is : (k l m n u : ℕ) → k < 16 → l < 16 → m < 16 → n < 16 → u ≡ 4096 * k + 256 * l + 16 * m + n → (eqb k 13 && (leb 8 l && leb l 11)) ≡ unit_high u
high_is k l m n u a b c d e = grind (arith, nat_tests)

low_is : (k l m n u : ℕ) → k < 16 → l < 16 → m < 16 → n < 16 → u ≡ 4096 * k + 256 * l + 16 * m + n → (eqb k 13 && leb 12 l) ≡ unit_low u
low_is k l m n u a b c d e = grind (arith, nat_tests)

short_no_u : (l : ℕ) → IsShort l → eqb l 117 ≡ false
short_no_u l h = grind (arith, nat_tests)

plain_no_slash : (bs : List ℕ) → ArePlain bs → Each (λ b. (b == 92) ≡ false) bs
plain_no_slash [] h = tt
plain_no_slash (b ∷ bs) h = (other b h.0, plain_no_slash bs h.1)
  where
    other : (b : ℕ) → turn Between b ≡ Go Between → (b == 92) ≡ false
    other b t = grind (arith, nat_tests)

or_yes : (a : Bool) → (a || true) ≡ true
or_yes x0 = grind arith

or_no : (a : Bool) → (a || false) ≡ a
or_no x0 = grind arith

and_no : (a : Bool) → (a && false) ≡ false
and_no x0 = grind arith

no_quote : (b : ℕ) → b ≡ 34 → (is_hex b || eqb b 117) ≡ true → ⊥
no_quote b q h = false≢true (sym (ap (λ x. is_hex x || eqb x 117) q) ∙ h)

-- what a unit adds
side : Bool → Bool → Bool → Bool
side true lo l = cond lo l true
side false lo l = cond lo true l

side_is : (u : ℕ) (h : Bool) (f : Bool → Bool) → over_chars (after_one (Unit4 u) h) f ≡ side h (unit_low u) (f (unit_high u))
unfolding side
side_is u true f = go (unit_low u) where
  go : (t : Bool) → over_chars (cond t (Some (unit_high u)) None) f ≡ cond t (f (unit_high u)) true
  go true = refl
  go false = refl
side_is u false f = go (unit_low u) where
  go : (t : Bool) → over_chars (cond t None (Some (unit_high u))) f ≡ cond t true (f (unit_high u))
  go true = refl
  go false = refl

side_or : (h lo x r : Bool) → side h lo (x || r) ≡ ((h && not lo) || ((x || (lo && not h)) || r))
unfolding side
side_or true true true r = refl
side_or true true false r = refl
side_or true false x r = refl
side_or false true true r = refl
side_or false true false r = refl
side_or false false true r = refl
side_or false false false r = refl

-- each byte of a unit is a u or a digit
in_unit : (bytes : List ℕ) (q : ℕ) → is_unit bytes q ≡ true → (i : ℕ) → q ≤ i → i < q + 5 → (is_hex (byte bytes i) || eqb (byte bytes i) 117) ≡ true
in_unit bytes q unit i l g = go (i - q) (omega arith) where
  digits : are_digits bytes q ≡ true
  digits = and_second (eqb (byte bytes q) 117) _ unit

  at : (d : ℕ) → i ≡ q + d → is_hex (byte bytes (q + d)) ≡ true → (is_hex (byte bytes i) || eqb (byte bytes i) 117) ≡ true
  at d e h = ap (λ x. is_hex (byte bytes x) || eqb (byte bytes x) 117) e ∙ ap (λ x. x || eqb (byte bytes (q + d)) 117) h

  go : (d : ℕ) → i ≡ q + d → (is_hex (byte bytes i) || eqb (byte bytes i) 117) ≡ true
  go zero e = let z : i ≡ q = omega arith in ap (λ x. is_hex (byte bytes x) || eqb (byte bytes x) 117) z ∙ ap (λ x. is_hex (byte bytes q) || x) (and_first _ _ unit) ∙ or_yes (is_hex (byte bytes q))
  go (suc zero) e = at 1 e (and_first _ _ (and_first _ _ (and_first _ _ digits)))
  go (suc (suc zero)) e = at 2 e (and_second _ _ (and_first _ _ (and_first _ _ digits)))
  go (suc (suc (suc zero))) e = at 3 e (and_second _ _ (and_first _ _ digits))
  go (suc (suc (suc (suc zero)))) e = at 4 e (and_second _ _ digits)
  go (suc (suc (suc (suc (suc d))))) e = absurd (omega arith)

module _ (bytes : List ℕ) where
  -- whether one of the n bytes behind byte k is the u of a lone surrogate
  abbrev lones : ℕ → ℕ → Bool
  lones k n = any_below (λ d. is_lone bytes (k + suc d)) n

  lones_none : (k n : ℕ) → ((q : ℕ) → k < q → q ≤ k + n → is_lone bytes q ≡ false) → lones k n ≡ false
  lones_none k n h = any_same (λ d. is_lone bytes (k + suc d)) (λ d. false) n (λ d l. h (k + suc d) (omega arith) (omega arith)) ∙ any_none (λ d. false) n (λ d. refl)

  lones_both : (k m n : ℕ) → lones k (m + n) ≡ (lones k m || lones (k + m) n)
  lones_both k m n = any_along (λ d. is_lone bytes (k + suc d)) m n ∙ ap (λ y. lones k m || y) (any_same _ _ n (λ d l. (let z : k + suc (m + d) ≡ k + m + suc d = omega arith in ap (is_lone bytes) z)))

  no_high : (q : ℕ) → is_escaped bytes q ≡ false → is_high bytes q ≡ false
  no_high q f = ap (λ x. x && spells_high bytes q) f

  no_low : (q : ℕ) → is_escaped bytes q ≡ false → is_low bytes q ≡ false
  no_low q f = ap (λ x. x && spells_low bytes q) f

  -- between two characters: whether the escape of a high surrogate ends here, and that none goes on
  record Before (k : ℕ) (h : Bool) : Type 0 where
    ended : is_high bytes (k - 5) ≡ h
    others : (q : ℕ) → q < k → k < q + 5 → is_high bytes q ≡ false
    free : is_escaped bytes k ≡ false

  -- behind a character that is no unit
  past_char : (k m : ℕ) (h : Bool) → Before k h → 0 < m → ((q : ℕ) → k ≤ q → q < k + m → is_high bytes q ≡ false) → is_escaped bytes (k + m) ≡ false → Before (k + m) false
  past_char k m h b some none free = record {
    ended = elim (cases_lt (k + m) 5) [
      | inl l ↦ (let z : k + m - 5 ≡ 0 = omega arith in ap (is_high bytes) z ∙ no_high 0 (start_free bytes))
      | inr l ↦ at (k + m - 5) (omega arith) (omega arith)
    ];
    others = λ q l g. at q l (omega arith);
    free = free;
  }
    where
      at : (q : ℕ) → q < k + m → k + m ≤ q + 5 → is_high bytes q ≡ false
      at q l g = elim (cases_lt q k) [ inl x ↦ b.others q x (omega arith) | inr x ↦ none q x l ]

  plain_free : (k : ℕ) (bs rest : List ℕ) → is_escaped bytes k ≡ false → drop k bytes ≡ bs ++ rest → ArePlain bs → (q : ℕ) → k ≤ q → q ≤ k + length bs → is_escaped bytes q ≡ false
  plain_free k bs rest f e h zero a b = start_free bytes
  plain_free k bs rest f e h (suc q) a b = elim (cases_lt k (suc q)) [
    | inl l ↦ free_behind bytes q (stands (λ x. (x == 92) ≡ false) bytes k bs rest (plain_no_slash bs h) e q (omega arith) (omega arith))
    | inr l ↦ (let z : k ≡ suc q = omega arith in subst (λ x. is_escaped bytes x ≡ false) z f)
  ]

  -- what the characters from byte k on have of lone surrogates, by what ended there
  abbrev Counts : (k n : ℕ) (h : Bool) (cs : List Spelt) → Type 0
  Counts k n h cs = lone_chars h cs ≡ ((h && not (is_low bytes (k + 1))) || lones k n)

  -- a character that is no unit
  char_counts : (k m n : ℕ) (h : Bool) (c : Spelt) (cs : List Spelt) → after_one c true ≡ None → after_one c false ≡ Some false → is_low bytes (k + 1) ≡ false → lones k m ≡ false → Counts (k + m) n false cs → Counts k (m + n) h (c ∷ cs)
  char_counts k m n true c cs t f low none later = ap (λ x. over_chars x (λ g. lone_chars g cs)) t ∙ sym (ap (λ x. not x || lones k (m + n)) low)
  char_counts k m n false c cs t f low none later = ap (λ x. over_chars x (λ g. lone_chars g cs)) f ∙ later ∙ sym (lones_both k m n ∙ ap (λ x. x || lones (k + m) n) none)

  -- a unit
  unit_counts : (k n : ℕ) (h hi lo : Bool) (u : ℕ) (cs : List Spelt) → hi ≡ unit_high u → lo ≡ unit_low u → is_low bytes (k + 1) ≡ lo → lones k 6 ≡ ((hi && not (is_low bytes (k + 6 + 1))) || (lo && not h)) → Counts (k + 6) n hi cs → Counts k (6 + n) h (Unit4 u ∷ cs)
  unit_counts k n h hi lo u cs eh el low some later =
      side_is u h (λ g. lone_chars g cs) ∙ ap₂ (λ x y. side h x (lone_chars y cs)) (sym el) (sym eh) ∙ ap (side h lo) later ∙ side_or h lo (hi && not (is_low bytes (k + 6 + 1))) (lones (k + 6) n)
      ∙ ap₂ (λ x y. (h && not x) || (y || lones (k + 6) n)) (sym low) (sym some) ∙ ap (λ x. (h && not (is_low bytes (k + 1))) || x) (sym (lones_both k 6 n))

  lone_no : (q : ℕ) → is_high bytes q ≡ false → is_low bytes q ≡ false → is_lone bytes q ≡ false
  lone_no q h l = ap₂ (λ x y. (x && not (is_low bytes (q + 6))) || (y && not (is_high bytes (q - 6)))) h l

  -- what is known behind a character that is no unit
  abbrev Passed : ℕ → ℕ → Type 0
  Passed k m = Before (k + m) false × (is_low bytes (k + 1) ≡ false) × (lones k m ≡ false)

  plain_char : (k : ℕ) (one rest : List ℕ) (c : ℕ) (h : Bool) → Before k h → drop k bytes ≡ one ++ rest → IsChar one (Plain c) → Passed k (length one)
  plain_char k one rest c h b e (s, l, q, m, is) =
      let plain = subst ArePlain (sym is) (plain_bytes c l q m) in
      let some : 0 < length one = (let x = ap length is in let y = length-encode c in let z = len_utf8_bounds c in omega (arith, x, y, z.0)) in
      let free = plain_free k one rest b.free e plain in (
        past_char k (length one) h b some (λ q from to. no_high q (free q from (omega arith))) (free (k + length one) (omega arith) (omega arith)),
        no_low (k + 1) (free (k + 1) (omega arith) (omega arith)),
        lones_none k (length one) (λ q from to. free_paired bytes q (free q (omega arith) to)),
      )

  short_char : (k : ℕ) (rest : List ℕ) (l : ℕ) (h : Bool) → Before k h → drop k bytes ≡ 92 ∷ l ∷ rest → IsShort l → Passed k 2
  short_char k rest l h b e s =
      let u = uncons bytes k 92 (l ∷ rest) e in let v = uncons bytes (suc k) l rest u.left in let z : suc k ≡ k + 1 = omega arith in let y : suc (k + 1) ≡ k + 2 = omega arith in
      let here : byte bytes (k + 1) ≡ l = ap (byte bytes) (sym z) ∙ v.here in
      let unit : is_unit bytes (k + 1) ≡ false = ap (λ x. eqb x 117 && are_digits bytes (k + 1)) here ∙ ap (λ x. x && are_digits bytes (k + 1)) (short_no_u l s) in
      let high : is_high bytes (k + 1) ≡ false = ap (λ x. is_escaped bytes (k + 1) && (x && (is_d (byte bytes (k + 1 + 1)) && is_early (byte bytes (k + 1 + 2))))) unit ∙ and_no (is_escaped bytes (k + 1)) in
      let low : is_low bytes (k + 1) ≡ false = ap (λ x. is_escaped bytes (k + 1) && (x && (is_d (byte bytes (k + 1 + 1)) && is_late (byte bytes (k + 1 + 2))))) unit ∙ and_no (is_escaped bytes (k + 1)) in
      let t : is_escaped bytes (k + 1) ≡ true = ap (is_escaped bytes) (sym z) ∙ escaped_suc bytes k ∙ ap₂ (λ x y. (x == 92) && not y) u.here b.free in
      let free : is_escaped bytes (k + 2) ≡ false = ap (is_escaped bytes) (sym y) ∙ escaped_suc bytes (k + 1) ∙ ap (λ x. (byte bytes (k + 1) == 92) && not x) t ∙ and_no (byte bytes (k + 1) == 92) in (
        past_char k 2 h b (omega arith) (λ q from to. elim (cases_lt k q) [
          | inl x ↦ (let w : q ≡ k + 1 = omega arith in ap (is_high bytes) w ∙ high)
          | inr x ↦ (let w : q ≡ k = omega arith in ap (is_high bytes) w ∙ no_high k b.free)
        ]) free,
        low,
        lones_none k 2 (λ q from to. elim (cases_lt (k + 1) q) [
          | inl x ↦ (let w : q ≡ k + 2 = omega arith in ap (is_lone bytes) w ∙ free_paired bytes (k + 2) free)
          | inr x ↦ (let w : q ≡ k + 1 = omega arith in ap (is_lone bytes) w ∙ lone_no (k + 1) high low)
        ]),
      )

  one_lone : (k : ℕ) → lones k 1 ≡ is_lone bytes (k + 1)
  unfolding any_below
  one_lone k = refl

  unit_char : (k : ℕ) (rest : List ℕ) (u : ℕ) (h : Bool) (one : List ℕ) → Before k h → drop k bytes ≡ one ++ rest → IsChar one (Unit4 u)
      → Before (k + 6) (unit_high u) × (is_low bytes (k + 1) ≡ unit_low u) × (lones k 6 ≡ ((unit_high u && not (is_low bytes (k + 6 + 1))) || (unit_low u && not h))) × (length one ≡ 6)
  unit_char k rest u h one b e (a, b', c, d, x, y, z, w, ha, hb, hc, hd, eu, is) =
      let split : drop k bytes ≡ 92 ∷ 117 ∷ a ∷ b' ∷ c ∷ d ∷ rest = e ∙ ap (λ o. o ++ rest) is in
      let u0 = uncons bytes k 92 (117 ∷ a ∷ b' ∷ c ∷ d ∷ rest) split in let u1 = uncons bytes (suc k) 117 (a ∷ b' ∷ c ∷ d ∷ rest) u0.left in
      let u2 = uncons bytes (suc (suc k)) a (b' ∷ c ∷ d ∷ rest) u1.left in let u3 = uncons bytes (suc (suc (suc k))) b' (c ∷ d ∷ rest) u2.left in
      let hex = stands (λ o. is_hex o ≡ true) bytes (suc (suc k)) (a ∷ b' ∷ c ∷ d ∷ []) rest (hex_known a x ha, (hex_known b' y hb, (hex_known c z hc, (hex_known d w hd, tt)))) u1.left in
      let p1 : suc k ≡ k + 1 = omega arith in let p2 : suc (suc k) ≡ k + 1 + 1 = omega arith in let p3 : suc (suc (suc k)) ≡ k + 1 + 2 = omega arith in
      let t : is_escaped bytes (k + 1) ≡ true = ap (is_escaped bytes) (sym p1) ∙ escaped_suc bytes k ∙ ap₂ (λ x y. (x == 92) && not y) u0.here b.free in
      let unit : is_unit bytes (k + 1) ≡ true = unit_known bytes (k + 1) (ap (byte bytes) (sym p1) ∙ u1.here) (hex (k + 1 + 1) (omega arith) (omega arith)) (hex (k + 1 + 2) (omega arith) (omega arith)) (hex (k + 1 + 3) (omega arith) (omega arith)) (hex (k + 1 + 4) (omega arith) (omega arith)) in
      let first : byte bytes (k + 1 + 1) ≡ a = ap (byte bytes) (sym p2) ∙ u2.here in let second : byte bytes (k + 1 + 2) ≡ b' = ap (byte bytes) (sym p3) ∙ u3.here in
      let sx = digit_bound a x ha in let sy = digit_bound b' y hb in let sz = digit_bound c z hc in let sw = digit_bound d w hd in
      let high : is_high bytes (k + 1) ≡ unit_high u = ap₂ (λ r s. r && (s && (is_d (byte bytes (k + 1 + 1)) && is_early (byte bytes (k + 1 + 2))))) t unit ∙ ap₂ (λ r s. is_d r && is_early s) first second ∙ ap₂ (λ r s. r && s) (d_is a x ha) (early_is b' y hb) ∙ high_is x y z w u sx sy sz sw eu in
      let low : is_low bytes (k + 1) ≡ unit_low u = ap₂ (λ r s. r && (s && (is_d (byte bytes (k + 1 + 1)) && is_late (byte bytes (k + 1 + 2))))) t unit ∙ ap₂ (λ r s. is_d r && is_late s) first second ∙ ap₂ (λ r s. r && s) (d_is a x ha) (late_is b' y hb) ∙ low_is x y z w u sx sy sz sw eu in
      let free = unit_free bytes (k + 1) unit in
      let q1 : k + 6 - 5 ≡ k + 1 = omega arith in let q2 : k + 1 + 6 ≡ k + 6 + 1 = omega arith in let q3 : k + 1 - 6 ≡ k - 5 = omega arith in
      let none : lones (k + 1) 5 ≡ false = lones_none (k + 1) 5 (λ q from to. free_paired bytes q (free q from (omega arith))) in (
        record {
          ended = ap (is_high bytes) q1 ∙ high;
          others = λ q l g. no_high q (free q (omega arith) (omega arith));
          free = free (k + 6) (omega arith) (omega arith);
        },
        low,
        lones_both k 1 5 ∙ ap₂ (λ r s. r || s) (one_lone k) none ∙ or_no (is_lone bytes (k + 1)) ∙ ap₂ (λ r s. (r && not (is_low bytes (k + 1 + 6))) || (s && not (is_high bytes (k + 1 - 6)))) high low
            ∙ ap₂ (λ r s. (unit_high u && not (is_low bytes r)) || (unit_low u && not (is_high bytes s))) q2 q3 ∙ ap (λ r. (unit_high u && not (is_low bytes (k + 6 + 1))) || (unit_low u && not r)) b.ended,
        ap length is,
      )

  no_lones : (k : ℕ) → lones k 0 ≡ false
  unfolding any_below
  no_lones k = refl

  chars_count : (cs : List Spelt) (inside rest : List ℕ) (k : ℕ) (h : Bool) → Before k h → drop k bytes ≡ inside ++ (34 ∷ rest) → AreChars inside cs → Counts k (length inside) h cs
  chars_count [] inside rest k h b e a =
      let u = uncons bytes k 34 rest (e ∙ ap (λ x. x ++ (34 ∷ rest)) a) in let z : suc k ≡ k + 1 = omega arith in
      let low : is_low bytes (k + 1) ≡ false = no_low (k + 1) (ap (is_escaped bytes) (sym z) ∙ free_behind bytes k (ap (λ x. x == 92) u.here)) in
      sym (ap₂ (λ x n. (h && not x) || lones k n) low (ap length a) ∙ ap (λ x. (h && true) || x) (no_lones k) ∙ at_end h)
    where
      at_end : (x : Bool) → ((x && true) || false) ≡ x
      at_end x0 = grind arith
  chars_count (Plain c ∷ cs) inside rest k h b e (one, others, i, more, is) =
      let e1 = e ∙ ap (λ x. x ++ (34 ∷ rest)) is ∙ append_assoc one others (34 ∷ rest) in let p = plain_char k one (others ++ (34 ∷ rest)) c h b e1 i in
      subst (λ n. Counts k n h (Plain c ∷ cs)) (sym (ap length is ∙ length-append one others)) (char_counts k (length one) (length others) h (Plain c) cs refl refl p.1 p.2 (chars_count cs others rest (k + length one) false p.0 (drop_past bytes k one (others ++ (34 ∷ rest)) e1) more))
  chars_count (Short l ∷ cs) inside rest k h b e (one, others, (s, o), more, is) =
      let e1 = e ∙ ap (λ x. x ++ (34 ∷ rest)) (is ∙ ap (λ x. x ++ others) o) in let p = short_char k (others ++ (34 ∷ rest)) l h b e1 s in
      subst (λ n. Counts k n h (Short l ∷ cs)) (sym (ap length is ∙ length-append one others ∙ ap (λ x. length x + length others) o)) (char_counts k 2 (length others) h (Short l) cs refl refl p.1 p.2 (chars_count cs others rest (k + 2) false p.0 (drop_past bytes k (92 ∷ l ∷ []) (others ++ (34 ∷ rest)) e1) more))
  chars_count (Unit4 u ∷ cs) inside rest k h b e (one, others, i, more, is) =
      let e1 = e ∙ ap (λ x. x ++ (34 ∷ rest)) is ∙ append_assoc one others (34 ∷ rest) in let p = unit_char k (others ++ (34 ∷ rest)) u h one b e1 i in
      let left = ap (λ n. drop (k + n) bytes) (sym p.3) ∙ drop_past bytes k one (others ++ (34 ∷ rest)) e1 in
      subst (λ n. Counts k n h (Unit4 u ∷ cs)) (sym (ap length is ∙ length-append one others ∙ ap (λ x. x + length others) p.3)) (unit_counts k (length others) h (unit_high u) (unit_low u) u cs refl refl p.1 p.2 (chars_count cs others rest (k + 6) (unit_high u) p.0 left more))

  -- a quote ends what stands before it
  no_unit_over : (i q : ℕ) → byte bytes i ≡ 34 → q ≤ i → i < q + 5 → is_high bytes q ≡ false
  no_unit_over i q e l g = by_high (is_high bytes q) refl where
    by_high : (x : Bool) → is_high bytes q ≡ x → is_high bytes q ≡ false
    by_high false f = f
    by_high true f = absurd (quote_no_digit (and_first (is_unit bytes q) _ (and_second (is_escaped bytes q) _ f)))
      where
        quote_no_digit : is_unit bytes q ≡ true → ⊥
        quote_no_digit unit = no_quote (byte bytes i) e (in_unit bytes q unit i l g)

  pub string_begun : (i : ℕ) (vs rest : List ℕ) (cs : List Spelt) → drop i bytes ≡ vs ++ rest → IsString vs cs → is_escaped bytes (i + 1) ≡ false
  string_begun i vs rest cs e (inside, h, is) = let z : suc i ≡ i + 1 = omega arith in
      let u = uncons bytes i 34 ((inside ++ 34 ∷ []) ++ rest) (e ∙ ap (λ x. x ++ rest) is) in ap (is_escaped bytes) (sym z) ∙ free_behind bytes i (ap (λ x. x == 92) u.here)

  pub string_over : (i : ℕ) (vs rest : List ℕ) (cs : List Spelt) → drop i bytes ≡ vs ++ rest → IsString vs cs → is_escaped bytes (i + length vs) ≡ false
  string_over i vs rest cs e (inside, h, is) =
      let split : drop i bytes ≡ (34 ∷ inside) ++ (34 ∷ rest) = e ∙ ap (λ x. x ++ rest) is ∙ append_assoc (34 ∷ inside) (34 ∷ []) rest in
      let u = uncons bytes (i + suc (length inside)) 34 rest (drop_past bytes i (34 ∷ inside) (34 ∷ rest) split) in
      let z : suc (i + suc (length inside)) ≡ i + length vs = (let x = ap length is in let y = length-append inside (34 ∷ []) in omega (arith, x, y)) in
      ap (is_escaped bytes) (sym z) ∙ free_behind bytes (i + suc (length inside)) (ap (λ x. x == 92) u.here)

  -- the whole string
  pub string_counts : (i : ℕ) (vs rest : List ℕ) (cs : List Spelt) → drop i bytes ≡ vs ++ rest → IsString vs cs → lone_chars false cs ≡ lones (i + 1) (length vs - 2)
  string_counts i vs rest cs e (inside, h, is) =
      let split : drop i bytes ≡ 34 ∷ (inside ++ (34 ∷ rest)) = e ∙ ap (λ x. x ++ rest) is ∙ ap (λ x. 34 ∷ x) (append_assoc inside (34 ∷ []) rest) in
      let u = uncons bytes i 34 (inside ++ (34 ∷ rest)) split in let z : suc i ≡ i + 1 = omega arith in
      let size : length inside ≡ length vs - 2 = (let x = ap length is in let y = length-append inside (34 ∷ []) in omega (arith, x, y)) in
      let before : Before (i + 1) false = record {
        ended = elim (cases_lt i 4) [
          | inl l ↦ (let y : i + 1 - 5 ≡ 0 = omega arith in ap (is_high bytes) y ∙ no_high 0 (start_free bytes))
          | inr l ↦ no_unit_over i (i + 1 - 5) u.here (omega arith) (omega arith)
        ];
        others = λ q l g. no_unit_over i q u.here (omega arith) (omega arith);
        free = ap (is_escaped bytes) (sym z) ∙ free_behind bytes i (ap (λ x. x == 92) u.here);
      } in
      ap (λ x. x) (chars_count cs inside rest (i + 1) false before (ap (λ n. drop n bytes) (sym z) ∙ u.left) h) ∙ ap (lones (i + 1)) size

-- a lone surrogate within its bytes is one of its own
pub lone_string : (bytes : List ℕ) (i : ℕ) (vs rest : List ℕ) (cs : List Spelt) → drop i bytes ≡ vs ++ rest → IsString vs cs → (k : ℕ) → i < k → k ≤ i + length vs → is_lone bytes k ≡ true → HasLone cs
lone_string bytes i vs rest cs e s k a b l = λ vals means. elim (cases_lt (i + 1) k) [
  | inl x ↦ elim (cases_lt k (i + length vs)) [
    | inl y ↦ (let z : i + 1 + suc (k - (i + 2)) ≡ k = omega arith in
        false≢true (sym (means_none means) ∙ string_counts bytes i vs rest cs e s ∙ any_found (λ d. is_lone bytes (i + 1 + suc d)) (length vs - 2) (k - (i + 2)) (omega arith) (ap (is_lone bytes) z ∙ l)))
    | inr y ↦ (let z : k ≡ i + length vs = omega arith in false≢true (sym (free_paired bytes k (ap (is_escaped bytes) z ∙ string_over bytes i vs rest cs e s)) ∙ l))
  ]
  | inr x ↦ (let z : k ≡ i + 1 = omega arith in false≢true (sym (free_paired bytes k (ap (is_escaped bytes) z ∙ string_begun bytes i vs rest cs e s)) ∙ l))
]

-- and where one is, a place shows it
pub string_lone : (bytes : List ℕ) (i : ℕ) (vs rest : List ℕ) (cs : List Spelt) → drop i bytes ≡ vs ++ rest → IsString vs cs → HasLone cs → HasLoneSurrogate bytes
string_lone bytes i vs rest cs e s l = by_count (lone_chars false cs) refl where
  by_count : (t : Bool) → lone_chars false cs ≡ t → HasLoneSurrogate bytes
  by_count true h = let w = any_where (λ d. is_lone bytes (i + 1 + suc d)) (length vs - 2) (sym (string_counts bytes i vs rest cs e s) ∙ h) in (_, w.2)
  by_count false h = let m = meant cs false h in absurd (l m.0 m.1)
