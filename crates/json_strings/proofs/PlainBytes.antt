-- Bytes that are characters by themselves and stand for themselves.
use Rattle.json_text.proofs.Names.{◌≡◌, ◌≢◌, ℕ, zero, suc, ◌+◌, ◌*◌, ◌%◌, ◌<◌, ◌≤◌, Bool, true, false, cond, List, [], ◌∷◌, length, get_or, drop}
use Rattle.json_text.proofs.Names.{refl, ap, ◌∙◌, arith, sym, subst, bytes_eq, eqb, IsUtf8, chars, drop_more, drop_all, get_or-take, get_or-drop}
use Rattle.json_text.proofs.Names.{length-take-le, length-drop, chars-nil, chars-append, encodes-chars, nat_tests, Spelt, Plain, Short, bytes_at}
use Rattle.std.proofs.lemmas.Str.{chars-IsAscii, IsUtf8-from_ascii, length-le-encodes}
use Rattle.json_strings.specs.Spelling.{hex_value, spelt_from, scalars_in, unquoted, IsQuoted, SpellPlainly}
use Rattle.json_text.specs.declared.tape.Extent.{Extent}
use Rattle.json_text.specs.declared.modes.Mode.{Mode}
use Rattle.json_text.specs.declared.modes.Mode.TheVariants.{Between, Escape, Hex}
use Rattle.json_strings.specs.Hashes.{more, finished, hash_from}
use Rattle.json_strings.specs.declared.hashes.Hashing.{Hashing}
use Rattle.json_strings.proofs.Spelled.{ascii_nil, ascii_more, meaning_short}

chars_first : (b : ℕ) (bs : List ℕ) → b < 128 → chars (b ∷ bs) ≡ b ∷ chars bs
chars_first b bs h =
    let a = ascii_more b [] h ascii_nil in chars-append (b ∷ []) bs (IsUtf8-from_ascii (b ∷ []) a) ∙ rw (chars-IsAscii (b ∷ []) a) refl

pub plain_first : (b : ℕ) (bs : List ℕ) → b < 128 → b ≢ 92 → scalars_in (chars (b ∷ bs)) ≡ b ∷ scalars_in (chars bs)
plain_first b bs h n = let t : eqb b 92 ≡ false = grind (arith, nat_tests) in rw (chars_first b bs h, t) refl

pub plain_at : (inside : List ℕ) (i : ℕ) → i < length inside → get_or inside i 0 < 128 → get_or inside i 0 ≢ 92
    → scalars_in (chars (drop i inside)) ≡ get_or inside i 0 ∷ scalars_in (chars (drop (i + 1) inside))
plain_at inside i l h n = rw (drop_more inside i 0 l) (plain_first (get_or inside i 0) (drop (i + 1) inside) h n)

pub plain_same : (name inside : List ℕ) (i : ℕ) → i < length name → i < length inside → get_or inside i 0 < 128 → get_or inside i 0 ≢ 92 → get_or name i 0 ≡ get_or inside i 0
    → bytes_eq (drop (i + 1) name) (scalars_in (chars (drop (i + 1) inside))) ≡ bytes_eq (drop i name) (scalars_in (chars (drop i inside)))
plain_same name inside i k l h n e = grind (arith, plain_at, drop_more)

pub plain_other : (name inside : List ℕ) (i : ℕ) → i < length name → i < length inside → get_or inside i 0 < 128 → get_or inside i 0 ≢ 92 → get_or name i 0 ≢ get_or inside i 0
    → bytes_eq (drop i name) (scalars_in (chars (drop i inside))) ≡ false
plain_other name inside i k l h n e = grind (arith, plain_at, drop_more)

nothing : (inside : List ℕ) (i : ℕ) → length inside ≤ i → scalars_in (chars (drop i inside)) ≡ []
nothing inside i l = rw (drop_all i inside l, chars-nil) refl

pub plain_short : (name inside : List ℕ) (i : ℕ) → i < length name → length inside ≤ i → bytes_eq (drop i name) (scalars_in (chars (drop i inside))) ≡ false
plain_short name inside i k l = rw (nothing inside i l, drop_more name i 0 k) refl

pub plain_end : (name inside : List ℕ) (i : ℕ) → length name ≤ i → length inside ≤ i → bytes_eq (drop i name) (scalars_in (chars (drop i inside))) ≡ true
plain_end name inside i k l = rw (nothing inside i l, drop_all i name k) refl

pub plain_longer : (name inside : List ℕ) (i : ℕ) → length name ≤ i → i < length inside → get_or inside i 0 < 128 → get_or inside i 0 ≢ 92
    → bytes_eq (drop i name) (scalars_in (chars (drop i inside))) ≡ false
plain_longer name inside i k l h n = rw (plain_at inside i l h n, drop_all i name k) refl

-- many of them
pub plain_run : (name inside : List ℕ) (n : ℕ) → n ≤ length name → length name ≤ length inside → SpellPlainly inside name 0 n
    → bytes_eq (drop n name) (scalars_in (chars (drop n inside))) ≡ bytes_eq name (scalars_in (chars inside))
plain_run name inside zero k l h = refl
plain_run name inside (suc n) k l h = let s = h n (omega arith) (omega arith) in let next : n + 1 ≡ suc n = omega arith in
    subst (λ j. bytes_eq (drop j name) (scalars_in (chars (drop j inside))) ≡ bytes_eq (drop n name) (scalars_in (chars (drop n inside)))) next
    (plain_same name inside n (omega arith) (omega arith) s.0 s.1 s.2)
    ∙ plain_run name inside n (omega arith) l (λ j from to. h j from (omega arith))

pub ruleset comparing = (plain_same, plain_other, plain_short, plain_end, plain_longer)

-- ---- More characters than a string has bytes

by_test : (t : Bool) (xs : List Spelt) (y : Spelt) (ys : List Spelt) (n : ℕ) → length xs ≤ n → length ys ≤ n → length (cond t xs (y ∷ ys)) ≤ suc n
by_test t xs y ys n h g = grind arith

spelt_short : (m : Mode) (u : ℕ) (cs : List ℕ) → length (spelt_from m u cs) ≤ length cs
spelt_short m u [] = omega arith
spelt_short Between u (c ∷ cs) = by_test (eqb c 92) (spelt_from Escape 0 cs) (Plain c) (spelt_from Between 0 cs) (length cs) (spelt_short Escape 0 cs) (spelt_short Between 0 cs)
spelt_short Escape u (c ∷ cs) = by_test (eqb c 117) (spelt_from (Hex 3) 0 cs) (Short c) (spelt_from Between 0 cs) (length cs) (spelt_short (Hex 3) 0 cs) (spelt_short Between 0 cs)
spelt_short (Hex zero) u (c ∷ cs) = let a = spelt_short Between 0 cs in omega arith
spelt_short (Hex (suc n)) u (c ∷ cs) = let a = spelt_short (Hex n) (16 * (u % 4096) + hex_value c) cs in omega arith

inside_short : (inside : List ℕ) → IsUtf8 inside → length (scalars_in (chars inside)) ≤ length inside
inside_short inside u = grind (arith, meaning_short, spelt_short, length-le-encodes, encodes-chars)

fewer_left : (xs ys : List ℕ) → length ys < length xs → bytes_eq xs ys ≡ false
fewer_left [] ys h = absurd (omega arith)
fewer_left (x ∷ xs) [] h = refl
fewer_left (x ∷ xs) (y ∷ ys) h = grind (arith, fewer_left xs ys (omega arith))

pub fewer : (name inside : List ℕ) → IsUtf8 inside → length inside < length name → bytes_eq name (scalars_in (chars inside)) ≡ false
fewer name inside u h = fewer_left name (scalars_in (chars inside)) (let a = inside_short inside u in omega arith)

first_other : (name inside : List ℕ) → 0 < length name → 0 < length inside → get_or inside 0 0 < 128 → get_or inside 0 0 ≢ 92 → get_or name 0 0 ≢ get_or inside 0 0
    → bytes_eq name (scalars_in (chars inside)) ≡ false
first_other name inside k l h n e = plain_other name inside 0 k l h n e

-- the byte behind a string's opening quote tells, also where it is the closing one
pub begins_other : (text : List ℕ) (string : Extent) (name : List ℕ) → IsQuoted text string → 0 < length name → get_or text (string.start + 1) 0 < 128 → get_or text (string.start + 1) 0 ≢ 92
    → get_or name 0 0 ≢ get_or text (string.start + 1) 0 → bytes_eq name (scalars_in (chars (unquoted (bytes_at text string)))) ≡ false
begins_other text string name q some ascii plain other =
    grind (arith, length-take-le, length-drop, get_or-take, get_or-drop, fewer_left, chars-nil, first_other)

-- ---- The hash of what the bytes from a place on mean

hash_plain : (f : ℕ) (inside : List ℕ) (i : ℕ) (h : Hashing) → i < length inside → get_or inside i 0 < 128 → get_or inside i 0 ≢ 92
    → hash_from f (more f h (get_or inside i 0)) (scalars_in (chars (drop (i + 1) inside))) ≡ hash_from f h (scalars_in (chars (drop i inside)))
hash_plain f inside i h l k n = sym (ap (hash_from f h) (plain_at inside i l k n))

pub hash_over : (f : ℕ) (inside bytes : List ℕ) (i u : ℕ) (h v : Hashing) → bytes ≡ inside → i < length bytes → get_or bytes i 0 < 128 → get_or bytes i 0 ≢ 92 → u ≡ get_or bytes i 0 → v ≡ more f h u
    → hash_from f v (scalars_in (chars (drop (i + 1) inside))) ≡ hash_from f h (scalars_in (chars (drop i inside)))
hash_over f inside bytes i u h v e l k n q g = grind (arith, hash_plain)

pub hash_end : (f : ℕ) (inside : List ℕ) (i : ℕ) (h : Hashing) → length inside ≤ i → hash_from f h (scalars_in (chars (drop i inside))) ≡ finished f h
hash_end f inside i h l = ap (hash_from f h) (nothing inside i l)
