-- The difference of words that tells which bytes are escaped, bit by bit.
use Rattle.std.proofs.Common.{◌≡◌, ℕ, zero, suc, ◌+◌, ◌-◌, ◌/◌, ◌%◌, ◌^◌, ◌<◌, ◌≤◌, Bool, false, not, ◌&&◌, ◌||◌, refl, sym, ap, ap₂, ◌∙◌, arith, ◌==◌}
use lib.Bits.{bit_and, bit_or, bit_xor, and_le_l, and_le_r}
use mir.Val.{bool_byte}
use Rattle.bit_words.specs.Words.{is_set, is_odd, HasBits}
use Rattle.bit_words.proofs.Bits.{xor, odd_suc, is_set-and, is_set-or, is_set-xor, complement, is_set-complement, shifted, is_set-shifted, is_set-shifted_low, is_set-flag_zero, is_set-flag_suc, flag_lt, top_bit}
use Rattle.bit_words.proofs.Sums.{carries, carries-zero, carries-suc, is_set-difference}
use Rattle.escape_runs.specs.Runs.{is_escaped}
use Rattle.escape_runs.proofs.Odds.{odds}

-- ---- one byte: b a backslash, z that the block before escapes it, g that the byte before it is in a run, e that it is escaped, o that its place is odd

-- it is in a run
abbrev run : Bool → Bool → Bool
run b z = b && not z

-- nothing is borrowed from the bits below it
abbrev lent : Bool → Bool → Bool → Bool
lent g e o = not (g && not (xor e o))

-- the bit of the difference
abbrev difference : Bool → Bool → Bool → Bool → Bool → Bool
difference b z g e o = xor (xor (g || o) (not (run b z))) (lent g e o)

-- An escaped byte stands behind one in a run, or the block before escapes it. That block escapes only the first byte.
pub record Holds (z g e : Bool) : Type 0 where
  pub behind : (e && not (g || z)) ≡ false
  pub first : (z && not e) ≡ false
  pub apart : (g && z) ≡ false

-- what the next bit lends
onward : (b z g e o : Bool) → Holds z g e → (((g || o) && not (run b z)) || (lent g e o && ((g || o) || not (run b z)))) ≡ lent (run b z) (b && not e) (not o)
onward b z g e o h = grind arith

-- the answer
told : (b z g e o : Bool) → Holds z g e → xor (xor (difference b z g e o) o) (b || z) ≡ e
told b z g e o h = grind arith

-- a backslash that escapes the next byte
escapes : (b z g e o : Bool) → Holds z g e → (xor (difference b z g e o) o && b) ≡ (b && not e)
escapes b z g e o h = grind arith

-- ---- the block

module _ (carry : Bool) (backslash : ℕ) where
  abbrev flag : ℕ
  flag = bool_byte carry

  abbrev runs : ℕ
  runs = bit_and backslash (complement flag)

  abbrev upper : ℕ
  upper = bit_or (shifted runs 1) 0xaaaa_aaaa_aaaa_aaaa

  -- what the code calls `marks`
  abbrev pub marks : ℕ
  marks = bit_xor ((upper + (18446744073709551616 - runs)) % 18446744073709551616) 0xaaaa_aaaa_aaaa_aaaa

  abbrev is_run_before : ℕ → Bool
  is_run_before zero = false
  is_run_before (suc i) = is_set runs i

  runs_lt : backslash < 2 ^ 64 → runs < 2 ^ 64
  runs_lt h = omega (arith, and_le_l backslash (complement flag))

  run_bit : (i : ℕ) → i < 64 → is_set runs i ≡ run (is_set backslash i) (is_set flag i)
  run_bit i h = grind (arith, is_set-and, is_set-complement flag i (flag_lt carry) h)

  upper_bit : (i : ℕ) → i < 64 → is_set upper i ≡ (is_run_before i || is_odd i)
  upper_bit zero h = grind (arith, is_set-or, is_set-shifted_low runs 1 0 (omega arith) h, odds 0 h)
  upper_bit (suc i) h =
      grind (arith, is_set-or, is_set-shifted runs 1 i (omega arith), odds (suc i) h)

  pub record At (i : ℕ) : Type 0 where
    pub holds : Holds (is_set flag i) (is_run_before i) (is_escaped carry backslash i)
    pub carried : carries upper (complement runs) i ≡ lent (is_run_before i) (is_escaped carry backslash i) (is_odd i)

  module _ (fits : backslash < 2 ^ 64) where
    at : (i : ℕ) → i ≤ 64 → At i
    unfolding is_escaped
    at zero h =
        let f = is_set-flag_zero carry in
        record {
          holds = record { behind = grind (arith, f); first = grind (arith, f); apart = refl };
          carried = carries-zero upper (complement runs);
        }
    at (suc i) h = next (at i (omega arith))
      where
        b : Bool
        b = is_set backslash i

        z : Bool
        z = is_set flag i

        past : is_set flag (suc i) ≡ false
        past = is_set-flag_suc carry i

        next : At i → At (suc i)
        next now =
            let e = is_escaped carry backslash i in
            let majority = λ (x y c : Bool). (x && y) || (c && (x || y)) in
            record {
              holds = record {
                behind = grind (arith, run_bit i h, past, now.holds.first);
                first = grind (arith, past);
                apart = grind (arith, past);
              };
              carried =
                  carries-suc upper (complement runs) i
                  ∙ ap₂ (λ x y. majority x y (carries upper (complement runs) i)) (upper_bit i h) (is_set-complement runs i (runs_lt fits) h ∙ ap not (run_bit i h))
                  ∙ ap (majority (is_run_before i || is_odd i) (not (run b z))) now.carried ∙ onward b z (is_run_before i) e (is_odd i) now.holds
                  ∙ ap₂ (λ x y. lent x (b && not e) y) (sym (run_bit i h)) (sym (odd_suc i));
            }

    mark_bit : (i : ℕ) → i < 64 → is_set marks i ≡ xor (difference (is_set backslash i) (is_set flag i) (is_run_before i) (is_escaped carry backslash i) (is_odd i)) (is_odd i)
    mark_bit i h =
        grind (arith, is_set-xor, is_set-difference upper runs i (runs_lt fits) h, upper_bit i h, run_bit i h, (at i (omega arith)).carried, odds i h)

    pub bits : HasBits (bit_xor marks (bit_or backslash flag)) (is_escaped carry backslash)
    bits i h =
        grind (arith, is_set-xor, is_set-or, mark_bit i h, told (is_set backslash i) (is_set flag i) (is_run_before i) (is_escaped carry backslash i) (is_odd i) (at i (omega arith)).holds)

    pub on : (bit_and marks backslash / 2 ^ 63 == 1) ≡ is_escaped carry backslash 64
    unfolding is_escaped
    on =
        let e = is_escaped carry backslash 63 in
        let here : 63 < 64 = omega arith in
        top_bit (bit_and marks backslash) (omega (arith, and_le_r marks backslash)) ∙ is_set-and marks backslash 63 ∙ ap (λ x. x && is_set backslash 63) (mark_bit 63 here)
        ∙ escapes (is_set backslash 63) (is_set flag 63) (is_run_before 63) e (is_odd 63) (at 63 (omega arith)).holds
