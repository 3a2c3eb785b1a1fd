-- Bytes of a load that stand for themselves.
use Rattle.json_text.proofs.Names.{◌≡◌, ◌≢◌, leb, bit_or, replicate, ℕ, zero, suc, ◌+◌, ◌-◌, ◌%◌, ◌^◌, ◌<◌, ◌≤◌, eqb, cond, Bool, false, not, List}
use Rattle.json_text.proofs.Names.{[], ◌∷◌, map, drop, length, get_or, refl, ap, ◌∙◌, arith, nat_tests, get_or_default, length-chunk, get_or-chunk}
use Rattle.json_text.proofs.Names.{chunk, zip2, mask_l, top, turn, string_end}
use Rattle.std.proofs.lemmas.Bool.{not-false}
use Rattle.json_text.specs.declared.modes.Mode.TheVariants.{Between}
use Rattle.json_text.specs.declared.modes.Turn.TheVariants.{Go}
use Rattle.structural_index.specs.Seams.{AreUnstopped}
use Rattle.json_strings.specs.Spelling.{SpellPlainly}
use Rattle.json_strings.proofs.Steps.{plain_step}
use Rattle.structural_index.proofs.Lanes.{HasLane, combined, repeated, off, none as nothing_set}

-- ---- Bytes that stand for themselves

stands : (b : ℕ) → b ≢ 34 → b ≢ 92 → 32 ≤ b → turn Between b ≡ Go Between
stands b q s l = grind arith

pub plain_steps : (text : List ℕ) (start k r : ℕ) → k + r ≤ length text → AreUnstopped text k (k + r)
    → string_end Between k (drop k text) ≡ string_end Between start (drop start text) → string_end Between (k + r) (drop (k + r) text) ≡ string_end Between start (drop start text)
plain_steps text start k zero h p e = grind arith
plain_steps text start k (suc r) h p e = let next : k + r + 1 ≡ k + suc r = omega arith in
    let before = plain_steps text start k r (omega arith) (λ j from to. p j from (omega arith)) e in
    let here = p (k + r) (omega arith) (omega arith) in
    rw next at (plain_step text (k + r) start (omega arith) (stands (get_or text (k + r) 0) here.0 here.1 here.2) before)

-- up to a place
pub plain_to : (text : List ℕ) (start k m : ℕ) → k ≤ m → m ≤ length text → AreUnstopped text k m
    → string_end Between k (drop k text) ≡ string_end Between start (drop start text) → string_end Between m (drop m text) ≡ string_end Between start (drop start text)
plain_to text start k m from to p e = grind (arith, plain_steps text start k (m - k) (omega arith) (λ j a b. p j a (omega arith)) e)

-- ---- Four characters beside four scalar values

abbrev pub wide : Bool → ℕ
wide b = cond b 4294967295 0

tops : (p q r : Bool) → top 31 (bit_or (bit_or (wide p) (wide q)) (wide r)) ≡ false → (p ≡ false) × (q ≡ false) × (r ≡ false)
tops p q r e = grind arith

-- four bytes, widened, beside four scalar values, where no lane stops
pub four_same : (v ls : List ℕ) → length v ≡ 4 → length ls ≡ 4
    → mask_l (map (top 31) (zip2 bit_or (zip2 bit_or (zip2 (λ x y. wide (not (eqb x y))) v ls) (zip2 (λ x y. wide (eqb x y)) v (replicate 4 92))) (zip2 (λ x y. wide (leb x y)) (replicate 4 128) v))) % 2 ^ 64 ≡ 0
    → (i : ℕ) → i < 4 → (get_or v i 0 < 128) × (get_or v i 0 ≢ 92) × (get_or ls i 0 ≡ get_or v i 0)
four_same v ls long few none i h =
    let N = λ (x y : ℕ). wide (not (eqb x y)) in let E = λ (x y : ℕ). wide (eqb x y) in let L = λ (x y : ℕ). wide (leb x y) in let x = get_or v i 0 in
    let y = get_or ls i 0 in let here : HasLane 4 i v x = record { many = long; here = refl } in
    let there : HasLane 4 i ls y = record { many = few; here = refl } in let apart = combined N 4 i v ls x y h here there in
    let backslash = combined E 4 i v (replicate 4 92) x 92 h here (repeated 4 i 92 h) in
    let above = combined L 4 i (replicate 4 128) v 128 x h (repeated 4 i 128 h) here in let two = combined bit_or 4 i _ _ _ _ h apart backslash in
    let three = combined bit_or 4 i _ _ _ _ h two above in
    let t = tops (not (eqb x y)) (eqb x 92) (leb 128 x) (off 31 4 i _ _ (omega arith) h three (nothing_set _ i none)) in
    let same : y ≡ x = (let e = not-false _ t.0 in grind (arith, nat_tests, e)) in
    (grind (arith, nat_tests, t.2), grind (arith, nat_tests, t.1), same)

-- what an index gives
indexed : (name : List ℕ) (k u v : ℕ) → k < length name → u ≡ get_or name k u → v ≡ u → v ≡ get_or name k 0
indexed name k u v h e f = f ∙ e ∙ get_or_default name k u 0 h

pub four_letters : (name : List ℕ) (at a b c d v w x y : ℕ) → at + 4 ≤ length name → a ≡ get_or name at a → b ≡ get_or name (at + 1) b → c ≡ get_or name (at + 2) c → d ≡ get_or name (at + 3) d
    → v ≡ a → w ≡ b → x ≡ c → y ≡ d → (i : ℕ) → i < 4 → get_or (v ∷ w ∷ x ∷ y ∷ []) i 0 ≡ get_or name (at + i) 0
four_letters name at a b c d v w x y h ea eb ec ed ev ew ex ey i l = grind (arith, indexed)

-- four bytes of a text
pub four_spell : (bytes name ls : List ℕ) (at : ℕ) → at + 4 ≤ length bytes → length ls ≡ 4 → ((i : ℕ) → i < 4 → get_or ls i 0 ≡ get_or name (at + i) 0)
    → mask_l (map (top 31) (zip2 bit_or (zip2 bit_or (zip2 (λ x y. wide (not (eqb x y))) (chunk at 4 bytes) ls) (zip2 (λ x y. wide (eqb x y)) (chunk at 4 bytes) (replicate 4 92))) (zip2 (λ x y. wide (leb x y)) (replicate 4 128) (chunk at 4 bytes)))) % 2 ^ 64 ≡ 0
    → SpellPlainly bytes name at (at + 4)
four_spell bytes name ls at room few letters none k from to = let v = chunk at 4 bytes in let i = k - at in let inside : i < 4 = omega arith in
    let back : at + i ≡ k = omega arith in let lane = get_or-chunk at 4 bytes i 0 inside ∙ ap (λ j. get_or bytes j 0) back in
    let f = four_same v ls (length-chunk at 4 bytes room) few none i inside in grind arith
