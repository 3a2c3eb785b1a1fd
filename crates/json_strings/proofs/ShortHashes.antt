-- The hash of bytes that stand for themselves, by words of eight.
use Rattle.json_text.proofs.Names.{◌≡◌, ◌≢◌, ℕ, zero, suc, ◌+◌, ◌-◌, ◌*◌, ◌/◌, ◌^◌, ◌<◌, ◌≤◌, eqb, false, List, [], ◌∷◌, ◌++◌, length, take, drop}
use Rattle.json_text.proofs.Names.{get_or, append-nil, refl, sym, ap, ◌∙◌, subst, arith, chars, nat_tests, chars-nil, get_or-take, get_or-drop}
use Rattle.json_text.proofs.Names.{length-take-le, length-drop, length-chunk, get_or-chunk, chunk}
use Rattle.std.proofs.Common.{Fits, w8, w64}
use Rattle.std.specs.Int.{from_be_bytes}
use Rattle.std.proofs.lemmas.List.{drop-drop, take-take}
use Rattle.std.proofs.Math.Seq.{take-add}
use Rattle.json_strings.specs.Spelling.{scalars_in}
use Rattle.json_strings.specs.Hashes.{chained, lengthened, more, hash_from, after_words, hash_of, digits, IsPlainWord}
use Rattle.json_strings.specs.declared.hashes.Hashing.{Hashing}
use Rattle.json_strings.proofs.PlainBytes.{plain_first}

digits_grow : (bs : List ℕ) (h : ℕ) → h ≤ digits h bs
digits_grow [] h = omega arith
digits_grow (b ∷ bs) h = let g = digits_grow bs (h * 256 + b) in omega (arith, g)

abbrev state : (hash word count : ℕ) → Hashing
state h w n = record { hash = h; word = w; count = n }

more_small : (f h w n c : ℕ) → n < 8 → w < 0x100000000000000 → c < 128 → more f (state h w n) c ≡ state h (w * 256 + c) (n + 1)
unfolding lengthened
more_small f h w n c few l k = grind arith

-- bytes that have room in the word
bytes_added : (f : ℕ) (bs r : List ℕ) (h w n : ℕ) → ((k : ℕ) → k < length bs → get_or bs k 0 < 128) → digits w bs < 0x10000000000000000 → n + length bs ≤ 8
    → hash_from f (state h w n) (bs ++ r) ≡ hash_from f (state h (digits w bs) (n + length bs)) r
bytes_added f [] r h w n small fits few = let e : n ≡ n + 0 = omega arith in ap (λ m. hash_from f (state h w m) r) e
bytes_added f (b ∷ bs) r h w n small fits few = let b_small : b < 128 = small 0 (omega arith) in
    let e = more_small f h w n b (omega arith) (omega (arith, digits_grow bs (w * 256 + b), fits)) b_small in
    grind (arith, bytes_added f bs r h (w * 256 + b) (n + 1) (λ k l. small (suc k) (omega arith)) fits (omega arith))

-- a whole word
word_full : (f h w : ℕ) (r : List ℕ) → hash_from f (state h w 8) r ≡ hash_from f (after_words (chained f h w)) r
word_full f h w [] = refl
word_full f h w (c ∷ cs) = refl

-- a last word
no_more : (f h w n : ℕ) → 0 < n → hash_from f (state h w n) [] ≡ chained f h w
no_more f h w n l = let t : eqb n 0 ≡ false = grind (arith, nat_tests) in rw t refl

word_last : (f h : ℕ) (bs : List ℕ) → ((k : ℕ) → k < length bs → get_or bs k 0 < 128) → digits 0 bs < 0x10000000000000000 → 1 ≤ length bs → length bs ≤ 8
    → hash_from f (after_words h) bs ≡ chained f h (digits 0 bs)
word_last f h [] small fits some few = absurd (omega arith)
word_last f h (b ∷ bs) small fits some few =
    ap (hash_from f (after_words h)) (sym (append-nil (b ∷ bs))) ∙ bytes_added f (b ∷ bs) [] h 0 0 small fits (omega arith)
    ∙ no_more f h (digits 0 (b ∷ bs)) (0 + length (b ∷ bs)) (omega arith)

word_at : (a b c d e f g h : ℕ) → a < 256 → b < 256 → c < 256 → d < 256 → e < 256 → f < 256 → g < 256 → h < 256
    → (len : ℕ) → 1 ≤ len → len ≤ 8 → (from_be_bytes w64 (a ∷ b ∷ c ∷ d ∷ e ∷ f ∷ g ∷ h ∷ []) / 2 ^ (64 - 8 * len) ≡ digits 0 (take len (a ∷ b ∷ c ∷ d ∷ e ∷ f ∷ g ∷ h ∷ []))) × (digits 0 (take len (a ∷ b ∷ c ∷ d ∷ e ∷ f ∷ g ∷ h ∷ [])) < 0x10000000000000000)
word_at a b c d e f g h ha hb hc hd he hf hg hh (suc zero) some few = (omega arith, omega arith)
word_at a b c d e f g h ha hb hc hd he hf hg hh (suc (suc zero)) some few = (omega arith, omega arith)
word_at a b c d e f g h ha hb hc hd he hf hg hh (suc (suc (suc zero))) some few = (omega arith, omega arith)
word_at a b c d e f g h ha hb hc hd he hf hg hh (suc (suc (suc (suc zero)))) some few = (omega arith, omega arith)
word_at a b c d e f g h ha hb hc hd he hf hg hh (suc (suc (suc (suc (suc zero))))) some few = (omega arith, omega arith)
word_at a b c d e f g h ha hb hc hd he hf hg hh (suc (suc (suc (suc (suc (suc zero)))))) some few = (omega arith, omega arith)
word_at a b c d e f g h ha hb hc hd he hf hg hh (suc (suc (suc (suc (suc (suc (suc zero))))))) some few = (omega arith, omega arith)
word_at a b c d e f g h ha hb hc hd he hf hg hh len some few = grind arith

eight : (bs : List ℕ) → length bs ≡ 8 → bs ≡ get_or bs 0 0 ∷ get_or bs 1 0 ∷ get_or bs 2 0 ∷ get_or bs 3 0 ∷ get_or bs 4 0 ∷ get_or bs 5 0 ∷ get_or bs 6 0 ∷ get_or bs 7 0 ∷ []
eight (a ∷ b ∷ c ∷ d ∷ e ∷ f ∷ g ∷ h ∷ []) l = refl
eight _ l = absurd (omega arith)

plain_front : (bs r : List ℕ) → ((k : ℕ) → k < length bs → (get_or bs k 0 < 128) × (get_or bs k 0 ≢ 92)) → scalars_in (chars (bs ++ r)) ≡ bs ++ scalars_in (chars r)
plain_front [] r h = refl
plain_front (b ∷ bs) r h = let f = h 0 (omega arith) in plain_first b (bs ++ r) f.0 f.1 ∙ ap (λ l. b ∷ l) (plain_front bs r (λ k l. h (suc k) (omega arith)))

-- the bytes of a word
module _ (text : List ℕ) (at len word : ℕ) (room : at + len ≤ length text) (w : IsPlainWord text at len word) where
  abbrev bytes : List ℕ
  bytes = take len (drop at text)

  size : length bytes ≡ len
  size = length-take-le len (drop at text) (let d = length-drop at text in omega (arith, d))

  place : (k : ℕ) → k < len → get_or bytes k 0 ≡ get_or text (at + k) 0
  place k l = get_or-take len (drop at text) k 0 l ∙ get_or-drop at text k 0

  stand : (k : ℕ) → k < length bytes → (get_or bytes k 0 < 128) × (get_or bytes k 0 ≢ 92)
  stand k l = subst (λ x. (x < 128) × (x ≢ 92)) (sym (place k (omega (arith, size)))) (w.plain (at + k) (omega arith) (omega (arith, size)))

  small : (k : ℕ) → k < length bytes → get_or bytes k 0 < 128
  small k l = let f = stand k l in omega (arith, f.0)

-- a word, and what follows it
pub word_passed : (f : ℕ) (text : List ℕ) (at n h word : ℕ) → 8 ≤ n → at + n ≤ length text → IsPlainWord text at 8 word
    → hash_from f (after_words h) (scalars_in (chars (take n (drop at text)))) ≡ hash_from f (after_words (chained f h word)) (scalars_in (chars (take (n - 8) (drop (at + 8) text))))
word_passed f text at n h word many room w =
    let bs = take 8 (drop at text) in let r = take (n - 8) (drop (at + 8) text) in let m : n ≡ 8 + (n - 8) = omega arith in
    let parted : take n (drop at text) ≡ bs ++ r = ap (λ m. take m (drop at text)) m ∙ take-add 8 (n - 8) (drop at text) ∙ ap (λ l. bs ++ take (n - 8) l) (drop-drop 8 at text) in
    let long : 0 + length bs ≡ 8 = omega (arith, size text at 8 word (omega arith) w) in
    ap (λ l. hash_from f (after_words h) (scalars_in (chars l))) parted
    ∙ ap (hash_from f (after_words h)) (plain_front bs r (stand text at 8 word (omega arith) w))
    ∙ bytes_added f bs (scalars_in (chars r)) h 0 0 (small text at 8 word (omega arith) w) w.fits (omega (arith, long))
    ∙ ap (λ m. hash_from f (state h (digits 0 bs) m) (scalars_in (chars r))) long
    ∙ word_full f h (digits 0 bs) (scalars_in (chars r))
    ∙ ap (λ x. hash_from f (after_words (chained f h x)) (scalars_in (chars r))) (sym w.value)

-- a word with nothing behind it
pub word_ends : (f : ℕ) (text : List ℕ) (at len h word : ℕ) → 1 ≤ len → len ≤ 8 → at + len ≤ length text → IsPlainWord text at len word
    → chained f h word ≡ hash_from f (after_words h) (scalars_in (chars (take len (drop at text))))
word_ends f text at len h word some few room w =
    let bs = take len (drop at text) in let long = size text at len word room w in let same = plain_front bs [] (stand text at len word room w) in
    let all : scalars_in (chars bs) ≡ bs = ap (λ l. scalars_in (chars l)) (sym (append-nil bs)) ∙ same ∙ ap (λ l. bs ++ scalars_in l) chars-nil ∙ append-nil bs in
    ap (chained f h) w.value ∙ sym (word_last f h bs (small text at len word room w) w.fits (omega (arith, long)) (omega (arith, long))) ∙ ap (hash_from f (after_words h)) (sym all)

chained_first : (f word : ℕ) → word < 2 ^ 64 → word ≡ chained f 0 word
unfolding chained
chained_first f word l = omega arith

pub word_hashed : (f : ℕ) (text : List ℕ) (at len word : ℕ) → 1 ≤ len → len ≤ 8 → at + len ≤ length text → IsPlainWord text at len word
    → word ≡ hash_of f (scalars_in (chars (take len (drop at text))))
word_hashed f text at len word some few room w = chained_first f word (subst (λ x. x < 2 ^ 64) (sym w.value) w.fits) ∙ word_ends f text at len 0 word some few room w

-- a word of bytes, whatever they are
word_value : (text : List ℕ) (at len word : ℕ) → at + 8 ≤ length text → 1 ≤ len → len ≤ 8 → ((k : ℕ) → Fits w8 (get_or text k 0))
    → word ≡ from_be_bytes w64 (chunk at 8 text) → (word / 2 ^ (64 - 8 * len) ≡ digits 0 (take len (drop at text))) × (digits 0 (take len (drop at text)) < 2 ^ 64)
word_value text at len word room some few fits w = let v = chunk at 8 text in let long = length-chunk at 8 text room in
    let byte = λ (i : ℕ) (h : i < 8). subst (λ x. x < 256) (sym (get_or-chunk at 8 text i 0 h)) (fits (at + i)).fits in
    let number = subst (λ l. (from_be_bytes w64 l / 2 ^ (64 - 8 * len) ≡ digits 0 (take len l)) × (digits 0 (take len l) < 0x10000000000000000)) (sym (eight v long))
    (word_at (get_or v 0 0) (get_or v 1 0) (get_or v 2 0) (get_or v 3 0) (get_or v 4 0) (get_or v 5 0) (get_or v 6 0) (get_or v 7 0) (byte 0 (omega arith)) (byte 1 (omega arith)) (byte 2 (omega arith)) (byte 3 (omega arith)) (byte 4 (omega arith)) (byte 5 (omega arith)) (byte 6 (omega arith)) (byte 7 (omega arith)) len some few) in
    let same = take-take len 8 (drop at text) few in
    (ap (λ n. n / 2 ^ (64 - 8 * len)) w ∙ number.0 ∙ ap (digits 0) same, subst (λ l. digits 0 l < 2 ^ 64) same number.1)

pub word_is : (text : List ℕ) (at len word : ℕ) → at + 8 ≤ length text → 1 ≤ len → len ≤ 8 → ((k : ℕ) → Fits w8 (get_or text k 0))
    → word ≡ from_be_bytes w64 (chunk at 8 text) → ((k : ℕ) → at ≤ k → k < at + len → (get_or text k 0 < 128) × (get_or text k 0 ≢ 92))
    → IsPlainWord text at len (word / 2 ^ (64 - 8 * len))
word_is text at len word room some few fits w plain = let v = word_value text at len word room some few fits w in grind arith
