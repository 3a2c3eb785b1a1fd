-- The characters of a text, by runs that were read and blocks of ASCII.
use Rattle.std.proofs.Common.{◌≡◌, ℕ, zero, suc, ◌+◌, ◌-◌, ◌%◌, ◌<◌, ◌≤◌, ◌⊎◌, ◌↔◌, ◌&&◌, inl, inr, Bool, true, false, List, [], ◌∷◌, ◌++◌, length, take, drop, get_or, replicate, slice_index, IsTrue, IsFalse, refl, sym, ap, subst, ◌∙◌, arith, append_assoc, length-append, true≢false}
use Rattle.std.specs.Prelude.{IsUtf8}
use Rattle.std.specs.Str.{IsAscii}
use Rattle.std.proofs.lemmas.Bool.{cases_lt, and_parts, and_cases}
use Rattle.std.proofs.lemmas.Str.{IsUtf8-append, IsUtf8-take, IsUtf8-from_ascii, IsUtf8-nil, IsCharBoundary-before_ascii}
use Rattle.std.proofs.lemmas.List.{take_all, take_more, take_rest, take-append-drop, drop-drop, get_or_default, get_or-append_right, get_or-replicate, length-replicate}
use Rattle.std.proofs.Math.Seq.{take-add, take-append_seam}
use Rattle.std.proofs.lemmas.Bool.Decides.{nat_tests}
use Rattle.bit_words.specs.Words.{is_set, HasBits}
use Rattle.bit_words.proofs.Bits.{is_set-zero}
use Rattle.byte_masks.specs.Classes.{high_byte}
use Rattle.structural_index.specs.declared.characters.Characters.{Characters}
use Rattle.structural_index.specs.Places.{byte}
use Rattle.structural_index.specs.Utf8.{EndsRun, IsRun, AreRead}

-- ---- ASCII behind characters

one_ascii : (b : ℕ) → b < 128 → IsAscii (b ∷ [])
one_ascii b h zero = h
one_ascii b h (suc i) = omega arith

pub ascii_on : (text : List ℕ) (m k : ℕ) → IsUtf8 (take m text) → ((j : ℕ) → m ≤ j → j < m + k → byte text j < 128) → IsUtf8 (take (m + k) text)
ascii_on text m zero u h = let e : m ≡ m + 0 = omega arith in subst (λ n. IsUtf8 (take n text)) e u
ascii_on text m (suc k) u h = let next : (m + k) + 1 ≡ m + suc k = omega arith in
    subst (λ n. IsUtf8 (take n text)) next (go (cases_lt (m + k) (length text)) (ascii_on text m k u (λ j from to. h j from (omega (arith, to)))))
  where
    go : (m + k < length text) ⊎ (length text ≤ m + k) → IsUtf8 (take (m + k) text) → IsUtf8 (take ((m + k) + 1) text)
    go (inl l) before =
        let at : get_or text (m + k) 0 < 128 = subst (λ b. b < 128) (sym (get_or_default text (m + k) 0 32 l)) (h (m + k) (omega arith) (omega arith)) in
        subst IsUtf8 (sym (take_more text (m + k) 0 l)) (IsUtf8-append (take (m + k) text) (get_or text (m + k) 0 ∷ []) before (IsUtf8-from_ascii _ (one_ascii _ at)))
    go (inr l) before = subst IsUtf8 (take_all (m + k) text l ∙ sym (take_all ((m + k) + 1) text (omega (arith, l)))) before

pub low_bytes : (lanes : List ℕ) (word : ℕ) → HasBits word (λ i. high_byte (slice_index lanes i)) → word ≡ 0 → (k : ℕ) → k < 64 → slice_index lanes k < 128
low_bytes lanes word bits none k h = let low = sym (bits k h) ∙ ap (λ w. is_set w k) none ∙ is_set-zero k in grind (arith, nat_tests, low)

-- ---- a run

-- one more block of it
pub block_on : (text : List ℕ) (from at : ℕ) → from ≤ at → take (at + 64 - from) (drop from text) ≡ take (at - from) (drop from text) ++ take 64 (drop at text)
block_on text from at le =
    let more : at + 64 - from ≡ (at - from) + 64 = omega arith in
    let same : from + (at - from) ≡ at = omega arith in
    ap (λ n. take n (drop from text)) more ∙ take-add (at - from) 64 (drop from text)
    ∙ ap (λ l. take (at - from) (drop from text) ++ take 64 l) (drop-drop (at - from) from text ∙ ap (λ n. drop n text) same)

-- the last bytes of it, with spaces after them
pub block_last : (text lanes : List ℕ) (from at n : ℕ) → from ≤ at → n ≡ length text - at → lanes ≡ take n (drop at text) ++ replicate (64 - length (take n (drop at text))) 32
    → take (at - from) (drop from text) ++ lanes ≡ drop from text ++ replicate (64 - length (take n (drop at text))) 32
block_last text lanes from at n le whole e =
    let spaces : List ℕ = replicate (64 - length (take n (drop at text))) 32 in
    let same : from + (at - from) ≡ at = omega arith in
    let rest : take n (drop at text) ≡ drop (at - from) (drop from text) = ap (λ k. take k (drop at text)) whole ∙ take_rest text at ∙ sym (drop-drop (at - from) from text ∙ ap (λ k. drop k text) same) in
    ap (λ l. take (at - from) (drop from text) ++ l) e ∙ sym (append_assoc (take (at - from) (drop from text)) (take n (drop at text)) spaces)
    ∙ ap (λ l. (take (at - from) (drop from text) ++ l) ++ spaces) rest ∙ ap (λ l. l ++ spaces) (take-append-drop (at - from) (drop from text))

spaces_ascii : (k : ℕ) → IsAscii (replicate k 32)
spaces_ascii zero i = omega arith
spaces_ascii (suc k) zero = omega arith
spaces_ascii (suc k) (suc i) = spaces_ascii k i

-- spaces behind the text change nothing
pub padded_utf8 : (bs : List ℕ) (k : ℕ) → 0 < k → IsUtf8 (bs ++ replicate k 32) ↔ IsUtf8 bs
padded_utf8 bs k some = (
  λ u. subst IsUtf8 (take-append_seam bs (replicate k 32)) (IsUtf8-take (bs ++ replicate k 32) (length bs) u (IsCharBoundary-before_ascii (bs ++ replicate k 32) (length bs)
      (let both = length-append bs (replicate k 32) in let long = length-replicate {A = ℕ} k 32 in omega (arith, both, long, some)) space)),
  λ u. IsUtf8-append bs (replicate k 32) u (IsUtf8-from_ascii (replicate k 32) (spaces_ascii k)),
)
  where
    space : get_or (bs ++ replicate k 32) (length bs) 0 < 128
    space = let e = get_or-append_right bs (replicate k 32) (length bs) (length bs) 0 refl (omega arith) in let f = get_or-replicate {A = ℕ} k (length bs - length bs) 32 0 (omega (arith, some)) in omega (arith, e, f)

-- ---- what is known, a block further

pub ascii_read : (text : List ℕ) (n : ℕ) (found : Characters) → AreRead text n found → ((k : ℕ) → k < 64 → byte text (n + k) < 128) → AreRead text (n + 64) found
ascii_read text n found known ascii = record {
  here = λ e v. go e v (cases_lt n found.end);
  ahead = λ e v. known.ahead (omega (arith, e)) v;
  wrong = known.wrong;
  inside = known.inside;
  over = known.over;
}
  where
    from : (m j : ℕ) → n ≤ m → m ≤ j → j < n + 64 → byte text j < 128
    from m j le lo hi = let same : n + (j - n) ≡ j = omega arith in subst (λ i. byte text i < 128) same (ascii (j - n) (omega arith))

    go : found.end ≤ n + 64 → IsTrue found.valid → (n < found.end) ⊎ (found.end ≤ n) → IsUtf8 (take (n + 64) text)
    go e v (inl l) =
        let same : found.end + (n + 64 - found.end) ≡ n + 64 = omega arith in
        subst (λ m. IsUtf8 (take m text)) same (ascii_on text found.end (n + 64 - found.end) (known.ahead (omega (arith, l)) v) (λ j lo hi. from found.end j (omega (arith, l)) lo (omega (arith, hi, same))))
    go e v (inr l) = ascii_on text n 64 (known.here l v) (λ j lo hi. from n j (omega arith) lo hi)

-- up to the end of a run, and to byte n behind it
to_block : (text : List ℕ) (end n : ℕ) → EndsRun text end → n % 64 ≡ 0 → (n < end) ⊎ (end ≡ length text) → end ≤ n + 64 → IsUtf8 (take end text) → IsUtf8 (take (n + 64) text)
to_block text end n (inl whole) blocks (inl past) near u = let same : end ≡ n + 64 = omega arith in subst (λ m. IsUtf8 (take m text)) same u
to_block text end n (inl whole) blocks (inr all) near u = subst IsUtf8 (take_all end text (omega (arith, all)) ∙ sym (take_all (n + 64) text (omega (arith, all, near)))) u
to_block text end n (inr all) blocks past near u = subst IsUtf8 (take_all end text (omega (arith, all)) ∙ sym (take_all (n + 64) text (omega (arith, all, near)))) u

-- a block of a run that was read
pub run_ahead : (text : List ℕ) (n : ℕ) (found : Characters) → AreRead text n found → n % 64 ≡ 0 → n < found.end → AreRead text (n + 64) found
run_ahead text n found known blocks past = record {
  here = λ e v. to_block text found.end n known.over blocks (inl past) e (known.ahead (omega (arith, past)) v);
  ahead = λ e v. known.ahead (omega (arith, e)) v;
  wrong = known.wrong;
  inside = known.inside;
  over = known.over;
}

-- a run that begins here
pub run_read : (text : List ℕ) (n : ℕ) (found run : Characters) → AreRead text n found → IsRun text n run → n ≤ length text → n % 64 ≡ 0 → found.end ≤ n → AreRead text (n + 64) (record { end = run.end; valid = found.valid && run.valid })
run_read text n found run known new within blocks behind = record {
  here = λ e v. to_block text run.end n new.over blocks new.past e (up_to v);
  ahead = λ e v. up_to v;
  wrong = λ v u. wrong u (and_cases found.valid run.valid v);
  inside = new.inside;
  over = new.over;
}
  where
    later : (n < run.end) ⊎ (run.end ≡ length text) → n + (run.end - n) ≡ run.end
    later (inl past) = omega arith
    later (inr all) = omega (arith, all, within)

    up_to : IsTrue (found.valid && run.valid) → IsUtf8 (take run.end text)
    up_to v =
        let both = and_parts found.valid run.valid v in
        subst (λ m. IsUtf8 (take m text)) (later new.past) (subst IsUtf8 (sym (take-add n (run.end - n) text)) (IsUtf8-append (take n text) (take (run.end - n) (drop n text)) (known.here behind both.0) (new.sound both.1)))

    wrong : IsUtf8 text → (found.valid ≡ false) ⊎ (run.valid ≡ false) → ⊥
    wrong u (inl v) = known.wrong v u
    wrong u (inr v) = first found.valid refl
      where
        first : (b : Bool) → found.valid ≡ b → ⊥
        first true e = true≢false (sym (new.complete (known.here behind e) u) ∙ v)
        first false e = known.wrong e u

-- ---- the whole text

pub none_read : (text : List ℕ) → AreRead text 0 (record { end = 0; valid = true })
none_read text = record {
  here = λ _ _. IsUtf8-nil;
  ahead = λ _ _. IsUtf8-nil;
  wrong = λ v _. true≢false v;
  inside = omega arith;
  over = inl refl;
}

pub all_read : (text : List ℕ) (n : ℕ) (found : Characters) → AreRead text n found → length text ≤ n → IsTrue found.valid ↔ IsUtf8 text
all_read text n found known past = (
  λ v. subst IsUtf8 (take_all n text past) (known.here (omega (arith, past, known.inside)) v),
  λ u. go found.valid known.wrong u,
)
  where
    go : (v : Bool) → (IsFalse v → IsUtf8 text → ⊥) → IsUtf8 text → IsTrue v
    go true wrong u = refl
    go false wrong u = absurd (wrong refl u)
