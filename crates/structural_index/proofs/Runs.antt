-- Bytes without blanks, and which of them are digits, by the bits of a load.
use Rattle.std.proofs.Common.{◌≡◌, ℕ, ◌+◌, ◌-◌, ◌*◌, ◌%◌, ◌^◌, ◌<◌, ◌≤◌, bit_or, Bool, true, false, List, length, take, drop, get_or, inl, inr, refl, sym, ap, ◌∙◌, arith, true≢false}
use Rattle.std.specs.Int.{bit_at}
use Rattle.std.proofs.lemmas.Bool.{cases_lt}
use Rattle.std.proofs.lemmas.Bool.Decides.{nat_tests}
use Rattle.std.proofs.lemmas.List.{get_or_default, get_or-take, get_or-drop, length-take-le, length-drop}
use Rattle.std.proofs.lemmas.Nat.Bits.{bit_at_or, bit_at_mask_inside, bit_at_ones, ones_shl}
use Rattle.byte_masks.specs.Classes.{blank_byte}
use Rattle.structural_index.specs.Places.{byte}
use Rattle.structural_index.specs.Runs.{EndsAtBlank, AreBlanksLast, AreDigitsFrom, AreDigitsBut}

-- ---- Where a run ends

visible_byte : (b : ℕ) → 32 < b → blank_byte b ≡ false
visible_byte b h = grind (arith, nat_tests)

-- where the last byte is no blank, none is
pub solid_whole : (text : List ℕ) (i n : ℕ) → i < n → n ≤ length text → AreBlanksLast text i n → 32 < get_or text (n - 1) 0 → EndsAtBlank text i n n
solid_whole text i n some within last end = record {
  from = omega arith;
  to = omega arith;
  solid = λ k a b. by_blank k a b (blank_byte (byte text k)) refl;
  over = λ l. absurd (omega arith);
}
  where
    none : blank_byte (byte text (n - 1)) ≡ false
    none = ap blank_byte (sym (get_or_default text (n - 1) 0 32 (omega arith))) ∙ visible_byte (get_or text (n - 1) 0) end

    by_blank : (k : ℕ) → i ≤ k → k < n → (t : Bool) → blank_byte (byte text k) ≡ t → blank_byte (byte text k) ≡ false
    by_blank k a b false e = e
    by_blank k a b true e = absurd (true≢false (sym (last k a b e (n - 1) (omega arith) (omega arith)) ∙ none))

-- ---- Digits

-- the bits from one on
pub behind_set : (m len k : ℕ) → len < 32 → len ≤ k → k < 64 → bit_at (bit_or m ((2 ^ 64 - 1) * 2 ^ len % 2 ^ 64)) k ≡ 1
behind_set m len k few from inside =
    let set = ap (λ x. bit_at x k) (ones_shl 64 len (omega arith)) ∙ bit_at_mask_inside len 64 k from inside in
    grind (arith, bit_at_or m ((2 ^ 64 - 1) * 2 ^ len % 2 ^ 64) k, set)

left_clear : (a b k : ℕ) → bit_at (bit_or a b) k ≡ 0 → bit_at a k ≡ 0
left_clear a b k e = grind (arith, bit_at_or a b k, e)

-- the bytes of such a run
pub run_digits : (text : List ℕ) (i len m : ℕ) → i + len ≤ length text → len < 32 → AreDigitsFrom text i m → AreDigitsBut (take len (drop i text)) (bit_or m ((2 ^ 64 - 1) * 2 ^ len % 2 ^ 64))
run_digits text i len m room few digits = record {
  each = λ k inside clear. elim (cases_lt k len) [
    | inl here ↦
        (let same : get_or (take len (drop i text)) k 0 ≡ get_or text (i + k) 0 = get_or-take len (drop i text) k 0 here ∙ get_or-drop i text k 0 in
        let digit = digits k inside (left_clear m _ k clear) in
        let long = length-take-le len (drop i text) (omega (arith, length-drop i text, room)) in
        (omega (arith, long, here), omega (arith, same, digit.0), omega (arith, same, digit.1)))
    | inr past ↦ absurd (let set = behind_set m len k few past (omega arith) in omega (arith, set, clear))
  ];
  ends = λ k from inside. behind_set m len k few (omega arith) inside;
}

-- where all bits are set
pub none_known : (bytes : List ℕ) → AreDigitsBut bytes (2 ^ 64 - 1)
none_known bytes = record {
  each = λ k inside clear. absurd (let set = bit_at_ones 64 k (omega arith) in omega (arith, set, clear));
  ends = λ k from inside. bit_at_ones 64 k inside;
}
