-- The test of number literals, by what it is to say.
use Rattle.std.proofs.Common.{◌≡◌, ℕ, ◌↔◌, List, length, Bool, true, false, ◌&&◌, nat_le, is_some, IsTrue, refl, sym}
use Rattle.std.proofs.lemmas.Bool.{and_parts, leb-true, le-leb}
use Rattle.decimal_order.specs.Laws.{ReadsOneWay}
use Rattle.decimal_order.specs.Number.{IsNumber}
use Rattle.decimal_order.specs.Value.{exponent_size}
use Rattle.decimal_order.specs.Limits.{IsWithinLimits}
use Rattle.decimal_order.specs.Reading.{read}
use Rattle.path_types.specs.Numbers.{is_number, JudgesNumbers}

module _ (law : ReadsOneWay) where
  passes : (text : List ℕ) → IsNumber text → IsWithinLimits text → is_number text ≡ true
  unfolding is_number
  passes text h w = rw ((law.is_read text).1 h, le-leb (length text) 256 w.bytes, le-leb (exponent_size text) 999999999 w.exponent) refl

  is_judged : (text : List ℕ) → is_number text ≡ true → IsNumber text × IsWithinLimits text
  unfolding is_number
  is_judged text h =
      let k = and_parts (is_some (read text) && nat_le (length text) 256) (nat_le (exponent_size text) 999999999) h in
      let m = and_parts (is_some (read text)) (nat_le (length text) 256) k.0 in
      ((law.is_read text).0 m.0, record { bytes = leb-true (length text) 256 m.1; exponent = leb-true (exponent_size text) 999999999 k.1 })

  pub judges_numbers : JudgesNumbers
  judges_numbers text = (is_judged text, λ h. passes text h.0 h.1)

  -- a test that says the same
  pub same_test : (text : List ℕ) (b : Bool) → IsNumber text → (IsTrue b ↔ IsWithinLimits text) → b ≡ is_number text
  same_test text true h k = sym (passes text h (k.0 refl))
  same_test text false h k = refused (is_number text) refl
    where
      refused : (c : Bool) → is_number text ≡ c → false ≡ c
      refused true e = k.1 (is_judged text e).1
      refused false e = refl

  pub no_number : (text : List ℕ) → (IsNumber text → ⊥) → false ≡ is_number text
  no_number text k = refused (is_number text) refl
    where
      refused : (c : Bool) → is_number text ≡ c → false ≡ c
      refused true e = absurd (k (is_judged text e).0)
      refused false e = refl
