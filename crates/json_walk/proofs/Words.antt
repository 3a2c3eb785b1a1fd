-- The letters of a word, by the number that its first four make.
use Rattle.std.proofs.Common.{◌≡◌, ℕ, suc, ◌+◌, ◌*◌, ◌<◌, ◌≤◌, List, [], ◌∷◌, length, take, drop, get_or, refl, sym, ◌∙◌, arith}
use Rattle.std.proofs.lemmas.List.{drop_more, take_all}
use Rattle.json_strings.specs.Letters.{word_at}

take_next : (text : List ℕ) (i j n : ℕ) → i + 1 ≡ j → i < length text → take (suc n) (drop i text) ≡ get_or text i 0 ∷ take n (drop j text)
take_next text i j n e l = grind (arith, drop_more text i 0 l, e)

four_letters : (bs : List ℕ) (n a b c d word : ℕ) → ((k : ℕ) → get_or bs k 0 < 256) → 4 ≤ length bs → word ≡ word_at bs 0
    → a < 256 → b < 256 → c < 256 → d < 256 → word ≡ a + b * 256 + c * 65536 + d * 16777216
    → take (suc (suc (suc (suc n)))) bs ≡ a ∷ b ∷ c ∷ d ∷ take n (drop 4 bs)
four_letters bs n a b c d word fits room w ha hb hc hd e = grind arith

pub spells_four : (bs : List ℕ) (a b c d word : ℕ) → ((k : ℕ) → get_or bs k 0 < 256) → length bs ≡ 4 → word ≡ word_at bs 0
    → a < 256 → b < 256 → c < 256 → d < 256 → word ≡ a + b * 256 + c * 65536 + d * 16777216 → bs ≡ a ∷ b ∷ c ∷ d ∷ []
spells_four bs a b c d word fits long w ha hb hc hd e = sym (take_all 4 bs (omega arith)) ∙ four_letters bs 0 a b c d word fits (omega arith) w ha hb hc hd e

pub spells_five : (bs : List ℕ) (a b c d last word : ℕ) → ((k : ℕ) → get_or bs k 0 < 256) → length bs ≡ 5 → word ≡ word_at bs 0
    → a < 256 → b < 256 → c < 256 → d < 256 → word ≡ a + b * 256 + c * 65536 + d * 16777216 → get_or bs 4 0 ≡ last → bs ≡ a ∷ b ∷ c ∷ d ∷ last ∷ []
spells_five bs a b c d last word fits long w ha hb hc hd e f =
    cc (take_all 5 bs (omega arith), four_letters bs 1 a b c d word fits (omega arith) w ha hb hc hd e, take_next bs 4 5 0 refl (omega arith))
