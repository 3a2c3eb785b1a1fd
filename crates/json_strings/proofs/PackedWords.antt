-- Four bytes as one word.
use Rattle.json_text.proofs.Names.{◌⊎◌, inl, inr, ◌≡◌, ◌≢◌, ℕ, zero, suc, ◌+◌, ◌-◌, ◌*◌, ◌%◌, ◌^◌, ◌<◌, ◌≤◌, eqb, leb, ltb, cond, bit_or, false, List}
use Rattle.json_text.proofs.Names.{[], ◌∷◌, length, drop, map, replicate, get_or, refl, sym, ◌∙◌, subst, arith, common_steps, nat_tests, length-chunk}
use Rattle.json_text.proofs.Names.{get_or-chunk, chunk, zip2, mask_l, top, bytes_eq, chars, cases_lt}
use Rattle.std.proofs.Common.{Fits, w8}
use Rattle.structural_index.proofs.Lanes.{loaded, none as nothing_set}
use Rattle.json_strings.proofs.Letters.{digits}
use Rattle.json_strings.proofs.StopBits.{stands_alone}
use Rattle.std.proofs.lemmas.Bool.{cases_eq}
use Rattle.json_strings.specs.Spelling.{scalars_in, SpellPlainly, ArePlainAt, IsWord}
use Rattle.json_strings.proofs.PlainBytes.{plain_run, plain_other}

-- a name's word is that of the bytes where characters stand for themselves
pub same_word : (bytes name : List ℕ) (at word : ℕ) → ((k : ℕ) → Fits w8 (get_or bytes k 0)) → IsWord word name at → ArePlainAt name at → IsWord word bytes at → SpellPlainly bytes name at (at + 4)
same_word bytes name at word fits w plain v k from to = grind (arith, digits)

pub none_before : (bytes name : List ℕ) → SpellPlainly bytes name 0 0
none_before bytes name k from to = absurd (omega arith)

pub both_spell : (bytes name : List ℕ) (at middle to : ℕ) → at ≤ middle → SpellPlainly bytes name 0 middle → SpellPlainly bytes name at to → SpellPlainly bytes name 0 to
both_spell bytes name at middle to h f g k from until = elim (cases_lt k middle) [ inl before ↦ f k from before | inr past ↦ g k (omega arith) until ]

-- characters that stand for themselves decide: they are those, or others
decided : (name inside : List ℕ) (at n : ℕ) → at + n ≤ length name → length name ≤ length inside → SpellPlainly inside name 0 at
    → ((k : ℕ) → at ≤ k → k < at + n → (get_or inside k 0 < 128) × (get_or inside k 0 ≢ 92))
    → SpellPlainly inside name 0 (at + n) ⊎ (bytes_eq name (scalars_in (chars inside)) ≡ false)
decided name inside at zero h l f plain = let e : at ≡ at + 0 = omega arith in inl (subst (λ j. SpellPlainly inside name 0 j) e f)
decided name inside at (suc n) h l f plain = elim (decided name inside at n (omega arith) l f (λ k from to. plain k from (omega arith))) [
  | inl same ↦ elim (cases_eq (get_or name (at + n) 0) (get_or inside (at + n) 0)) [
    | inl e ↦ inl (λ k from to. elim (cases_lt k (at + n)) [ inl before ↦ same k from before | inr past ↦ grind arith ])
    | inr other ↦ (let p = plain (at + n) (omega arith) (omega arith) in
        inr (sym (plain_run name inside (at + n) (omega arith) l same) ∙ plain_other name inside (at + n) (omega arith) (omega arith) p.0 p.1 other))
  ]
  | inr apart ↦ inr apart
]

-- another word, of characters that stand for themselves
pub other_word : (name inside : List ℕ) (at word : ℕ) → at + 4 ≤ length name → length name ≤ length inside → SpellPlainly inside name 0 at → IsWord word name at
    → (IsWord word inside at → ⊥) × ArePlainAt inside at → bytes_eq name (scalars_in (chars inside)) ≡ false
other_word name inside at word h l f w o = grind (arith, decided name inside)

-- where the first and the last four are those of the name, it is spelt
pub both_words : (name inside : List ℕ) (first last : ℕ) → ((k : ℕ) → Fits w8 (get_or inside k 0)) → 4 ≤ length name → length name ≤ 8 → length name ≤ length inside
    → IsWord first name 0 → ArePlainAt name 0 → IsWord first inside 0
    → IsWord last name (length name - 4) → ArePlainAt name (length name - 4) → IsWord last inside (length name - 4)
    → bytes_eq (drop (length name) name) (scalars_in (chars (drop (length name) inside))) ≡ bytes_eq name (scalars_in (chars inside))
both_words name inside first last fits some few l f p v g q w =
    let e : length name - 4 + 4 ≡ length name = omega arith in let a = same_word inside name 0 first fits f p v in
    let b = subst (λ j. SpellPlainly inside name (length name - 4) j) e (same_word inside name (length name - 4) last fits g q w) in
    plain_run name inside (length name) (omega arith) l (both_spell inside name (length name - 4) 4 (length name) (omega arith) a b)

-- ---- Lanes in which no bit is set

pub plain_lanes : (v : List ℕ) (n : ℕ) → length v ≡ n → n ≤ 64
    → mask_l (map (top 7) (zip2 bit_or (zip2 (λ x y. cond (eqb x y) 255 0) v (replicate n 92)) (zip2 (λ x y. cond (leb x y) 255 0) (replicate n 128) v))) % 2 ^ 64 ≡ 0
    → (i : ℕ) → i < n → (get_or v i 0 < 128) × (get_or v i 0 ≢ 92)
plain_lanes v n long few none i h = stands_alone n i v (get_or v i 0) few h (record { many = long; here = refl }) (nothing_set _ i none)

-- the four bytes of a load
pub plain_chunk : (bytes : List ℕ) (at : ℕ) → at + 4 ≤ length bytes
    → mask_l (map (top 7) (zip2 bit_or (zip2 (λ x y. cond (eqb x y) 255 0) (chunk at 4 bytes) (replicate 4 92)) (zip2 (λ x y. cond (leb x y) 255 0) (replicate 4 128) (chunk at 4 bytes)))) % 2 ^ 64 ≡ 0
    → ArePlainAt bytes at
plain_chunk bytes at room none k from to = let i = k - at in let inside : i < 4 = omega arith in let back : at + i ≡ k = omega arith in
    subst (λ j. (get_or bytes j 0 < 128) × (get_or bytes j 0 ≢ 92)) back
    (stands_alone 4 i (chunk at 4 bytes) (get_or bytes (at + i) 0) (omega arith) inside (loaded bytes at 4 i room inside) (nothing_set _ i none))

pub first_spelt : (bytes name : List ℕ) (to : ℕ) → to ≤ 4 → SpellPlainly bytes name 0 4 → SpellPlainly bytes name 0 to
first_spelt bytes name to h f k from until = f k from (omega arith)

four : (xs : List ℕ) → length xs ≡ 4 → xs ≡ get_or xs 0 0 ∷ get_or xs 1 0 ∷ get_or xs 2 0 ∷ get_or xs 3 0 ∷ []
four (a ∷ b ∷ c ∷ d ∷ []) l = refl
four _ l = absurd (omega arith)

pub chunk_is : (xs : List ℕ) (at : ℕ) → at + 4 ≤ length xs → chunk at 4 xs ≡ get_or xs at 0 ∷ get_or xs (at + 1) 0 ∷ get_or xs (at + 2) 0 ∷ get_or xs (at + 3) 0 ∷ []
chunk_is xs at room = grind (arith, nat_tests, common_steps, get_or-chunk, four, length-chunk)

-- ---- Letters that are packed as bytes

-- a letter as a byte, 255 for one that is above
abbrev pub lane : ℕ → ℕ
lane x = cond (top 31 (cond (ltb x 255) 4294967295 0)) x 255

pub packed_at : (name : List ℕ) (at word a b c d : ℕ) → ((i : ℕ) → i < 4 → get_or (a ∷ b ∷ c ∷ d ∷ []) i 0 ≡ get_or name (at + i) 0)
    → (lane a < 128) × (lane a ≢ 92) → (lane b < 128) × (lane b ≢ 92) → (lane c < 128) × (lane c ≢ 92) → (lane d < 128) × (lane d ≢ 92)
    → word ≡ lane a + lane b * 256 + lane c * 65536 + lane d * 16777216 → IsWord word name at × ArePlainAt name at
packed_at name at word a b c d letters p q r s e = search arith
