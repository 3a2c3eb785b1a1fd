-- A text has as many characters as bytes that begin one (RFC 3629, section 3).
use Rattle.json_text.proofs.Names.{◌≡◌, ℕ, suc, ◌+◌, ◌*◌, ◌%◌, ◌^◌, ◌≤◌, take, Bool, true, false, cond, ◌||◌, ltb, leb, bit_or, List, [], ◌∷◌, ◌++◌}
use Rattle.json_text.proofs.Names.{map, replicate, length, refl, sym, ap, ◌∙◌, arith, IsUtf8, count_by, chars, nat_tests, length-map, length-take-le}
use Rattle.json_text.proofs.Names.{encodes-chars, chunk, zip2, mask_l, top, encodes}
use Rattle.std.proofs.Common.{take-add, ap₂}
use Rattle.std.specs.Int.RustNames.{count_ones}
use Rattle.std.proofs.lemmas.List.Recursion.{is_count_by}
use Rattle.std.proofs.lemmas.List.Sums.{sum_by-append, count_by-le-length}
use Rattle.std.proofs.lemmas.Simd.{mask_l-mod, ones-mask_l}
use lib.Utf8.{encode, next}
use Rattle.structural_index.proofs.Lanes.{at_most, less}
use Rattle.json_strings.specs.Spelling.{begins}

-- ---- The bits of a load

begin_bit : (p q : Bool) → top 7 (bit_or (cond p 255 0) (cond q 255 0)) ≡ (p || q)
begin_bit p q = grind arith

begin_bits : (bs : List ℕ)
    → mask_l (map (top 7) (zip2 bit_or (zip2 less bs (replicate (length bs) 128)) (zip2 at_most (replicate (length bs) 192) bs))) ≡ mask_l (map begins bs)
begin_bits [] = refl
begin_bits (b ∷ bs) = ap₂ (λ (t : Bool) (rest : ℕ). cond t 1 0 + 2 * rest) (begin_bit (ltb b 128) (leb 192 b)) (begin_bits bs)

pub begin_mask : (n : ℕ) (bs : List ℕ) → length bs ≡ n → n ≤ 64
    → mask_l (map (top 7) (zip2 bit_or (zip2 less bs (replicate n 128)) (zip2 at_most (replicate n 192) bs))) % 2 ^ 64 ≡ mask_l (map begins bs)
begin_mask n bs e few = cc (begin_bits bs, mask_l-mod (map begins bs) 64 (let l = length-map bs begins in omega arith))

-- ---- The bytes before a place

pub few_before : (bytes : List ℕ) (k : ℕ) → k ≤ length bytes → count_by begins (take k bytes) ≤ k
few_before bytes k h = let f = count_by-le-length begins (take k bytes) in let l = length-take-le k bytes h in omega (arith, f, l)

-- and those of a load
pub load_more : (bytes : List ℕ) (k mask : ℕ) → k + 32 ≤ length bytes → mask ≡ mask_l (map begins (chunk k 32 bytes))
    → count_by begins (take (k + 32) bytes) ≡ count_by begins (take k bytes) + count_ones mask
load_more bytes k mask room e = grind (arith, take-add, sum_by-append, ones-mask_l)

-- ---- A whole text

abbrev beginnings : List ℕ → ℕ
beginnings [] = 0
beginnings (b ∷ bs) = cond (begins b) (suc (beginnings bs)) (beginnings bs)

one_or_none : (t : Bool) (n : ℕ) → cond t (suc n) n ≡ cond t (1 + n) n
one_or_none t n = grind arith

counted : (bs : List ℕ) → beginnings bs ≡ count_by begins bs
counted = is_count_by beginnings begins refl (λ b bs. one_or_none (begins b) (beginnings bs))

low : (b : ℕ) → ltb b 128 ≡ true → begins b ≡ true
low b t = rw t refl

lead : (b : ℕ) → 192 ≤ b → begins b ≡ true
lead b h = let t : ltb b 128 ≡ false = grind (arith, nat_tests) in let u : leb 192 b ≡ true = grind (arith, nat_tests) in rw (t, u) refl

follows : (c : ℕ) → begins (next c) ≡ false
follows c = let t : ltb (next c) 128 ≡ false = grind (arith, nat_tests) in let u : leb 192 (next c) ≡ false = grind (arith, nat_tests) in rw (t, u) refl

one_begins : (c : ℕ) (bs : List ℕ) → beginnings (encode c ++ bs) ≡ suc (beginnings bs)
unfolding encode
one_begins c bs = grind (arith, low, lead, follows)

all_begin : (cs : List ℕ) → beginnings (encodes cs) ≡ length cs
all_begin [] = refl
all_begin (c ∷ cs) = one_begins c (encodes cs) ∙ ap suc (all_begin cs)

pub as_many : (bs : List ℕ) → IsUtf8 bs → count_by begins bs ≡ length (chars bs)
as_many bs u = sym (counted bs) ∙ ap beginnings (sym (encodes-chars bs u)) ∙ all_begin (chars bs)
