-- The words of a text that begins within a word.
use Rattle.std.proofs.Common.{◌≡◌, ℕ, suc, ◌+◌, Bool, true, false, List, [], ◌∷◌, take, drop, ap, refl, arith}
use Rattle.std.specs.List.{position_or_len}
use Rattle.client_lines.specs.Keys.{in_front, is_separator, words_in, words_within}

-- the first word has n bytes
abbrev cut : (n : ℕ) → List ℕ → List (List ℕ)
cut n text = take n text ∷ words_in (drop n text)

behind : (byte : ℕ) (text : List ℕ) (n : ℕ) → words_within text ≡ cut n text → in_front byte (words_within text) ≡ cut (1 + n) (byte ∷ text)
behind byte text n e = let more : 1 + n ≡ suc n = omega arith in rw more (ap (in_front byte) e)

at_first : (byte : ℕ) (text : List ℕ) (b : Bool) → is_separator byte ≡ b → words_within text ≡ cut (position_or_len is_separator text) text → words_within (byte ∷ text) ≡ cut (position_or_len is_separator (byte ∷ text)) (byte ∷ text)
at_first byte text true e others = rw e (rw e refl)
at_first byte text false e others = rw e (behind byte text (position_or_len is_separator text) others)

pub word_within : (text : List ℕ) → words_within text ≡ take (position_or_len is_separator text) text ∷ words_in (drop (position_or_len is_separator text) text)
word_within [] = refl
word_within (byte ∷ text) = at_first byte text (is_separator byte) refl (word_within text)
