-- Strings that are spelled are read again, whatever follows them.
use Rattle.std.proofs.Common.{◌≡◌, ℕ, zero, suc, ◌<◌, true, false, ◌||◌, ◌==◌, List, [], ◌∷◌, ◌++◌, length, Some, refl, append_assoc, length-append, arith, nat_lt}
use Rattle.std.proofs.lemmas.Bool.Decides.{nat_tests}
use Rattle.std.specs.Char.Utf16.{surrogate_pair_char}
use Rattle.path_grammar.specs.Characters.{Text, is_between, is_digit, is_plain}
use Rattle.path_grammar.specs.Strings.{Hex, digit_hex, upper_hex, lower_hex, FourHex, four, Escape, quote_mark, backspace, form_feed, line_feed, carriage_return, tab, slash, backslash, non_surrogate, surrogate_pair, Inside, end, plain, escaped, StringLiteral, double_quoted, single_quoted}
use Rattle.path_grammar.specs.ReadingStrings.{hex_of, hex_at, unit_at, low_at, whole_at, unicode_at, short_of, escape_at, character_at, inside_step, inside_at, string_at}
use Rattle.path_grammar.proofs.Read.{found}
use Rattle.path_grammar.proofs.Again.{Starts, behind_same, behind_other}

upper_digit : (c : ℕ) → is_between 0x41 0x46 c ≡ true → is_digit c ≡ false
upper_digit c e = grind (arith, nat_tests)

lower_digit : (c : ℕ) → is_between 0x61 0x66 c ≡ true → is_digit c ≡ false
lower_digit c e = grind (arith, nat_tests)

lower_upper : (c : ℕ) → is_between 0x61 0x66 c ≡ true → is_between 0x41 0x46 c ≡ false
lower_upper c e = grind (arith, nat_tests)

hex_again : (c n : ℕ) → Hex c n → hex_of c ≡ Some n
unfolding hex_of
hex_again c _ (digit_hex h) = rw h refl
hex_again c _ (upper_hex h) = rw (upper_digit c h, h) refl
hex_again c _ (lower_hex h) = rw (lower_digit c h, lower_upper c h, h) refl

hex_read : (c n : ℕ) (rest : Text) → Hex c n → hex_at (c ∷ rest) ≡ found n rest
unfolding hex_at
hex_read c n rest h = rw (hex_again c n h) refl

unit_again : (t rest : Text) (n : ℕ) → FourHex t n → unit_at (t ++ rest) ≡ found n rest
unfolding unit_at
unit_again _ rest _ (four {a} {b} {c} {d} {i} {j} {k} {l} p q r s) =
    rw (hex_read a i (b ∷ c ∷ d ∷ rest) p, hex_read b j (c ∷ d ∷ rest) q, hex_read c k (d ∷ rest) r, hex_read d l rest s) refl

low_again : (high low : ℕ) (s rest : Text) → FourHex s low → is_between 0xDC00 0xDFFF low ≡ true → low_at high (0x5C ∷ 0x75 ∷ s ++ rest) ≡ found (surrogate_pair_char high low) rest
unfolding low_at
low_again high low s rest f h = rw (behind_same 0x5C (0x75 ∷ s ++ rest) refl, behind_same 0x75 (s ++ rest) refl, unit_again s rest low f, h) refl

high_paired : (u : ℕ) → is_between 0xD800 0xDBFF u ≡ true → (nat_lt u 0xD800 || nat_lt 0xDFFF u) ≡ false
high_paired u e = grind (arith, nat_tests)

high_low : (u : ℕ) → is_between 0xD800 0xDBFF u ≡ true → nat_lt u 0xDC00 ≡ true
high_low u e = grind (arith, nat_tests)

single_again : (t rest : Text) (u : ℕ) → FourHex t u → (nat_lt u 0xD800 || nat_lt 0xDFFF u) ≡ true → unicode_at (t ++ rest) ≡ found u rest
unfolding unicode_at whole_at
single_again t rest u f h = rw (unit_again t rest u f, h) refl

pair_again : (t s rest : Text) (high low : ℕ) → FourHex t high → FourHex s low → is_between 0xD800 0xDBFF high ≡ true → is_between 0xDC00 0xDFFF low ≡ true → unicode_at (t ++ (0x5C ∷ 0x75 ∷ s ++ rest)) ≡ found (surrogate_pair_char high low) rest
unfolding unicode_at whole_at
pair_again t s rest high low f g h k = rw (unit_again t (0x5C ∷ 0x75 ∷ s ++ rest) high f, high_paired high h, high_low high h) (low_again high low s rest g k)

-- the two kinds of quotes
data Quotes : ℕ → ℕ → Type 0 where
  double : Quotes 0x22 0x27
  single : Quotes 0x27 0x22

unicode_escape : (quote other : ℕ) (t rest : Text) (c : ℕ) → Quotes quote other → unicode_at t ≡ found c rest → escape_at quote (0x75 ∷ t) ≡ found c rest
unfolding escape_at
unicode_escape _ _ t rest c double e = e
unicode_escape _ _ t rest c single e = e

quote_escape : (quote : ℕ) (rest : Text) → (quote == quote) ≡ true → escape_at quote (quote ∷ rest) ≡ found quote rest
unfolding escape_at
quote_escape quote rest e = rw e refl

short_escape : (quote other c v : ℕ) (rest : Text) → (c == quote) ≡ false → (c == 0x75) ≡ false → short_of c ≡ Some v → escape_at quote (c ∷ rest) ≡ found v rest
unfolding escape_at
short_escape quote other c v rest q u s = rw (q, u, s) refl

escape_again : (quote other : ℕ) (t rest : Text) (c : ℕ) → Quotes quote other → Escape quote t c → escape_at quote (t ++ rest) ≡ found c rest
unfolding escape_at short_of
escape_again _ _ _ rest _ double quote_mark = refl
escape_again _ _ _ rest _ double backspace = refl
escape_again _ _ _ rest _ double form_feed = refl
escape_again _ _ _ rest _ double line_feed = refl
escape_again _ _ _ rest _ double carriage_return = refl
escape_again _ _ _ rest _ double tab = refl
escape_again _ _ _ rest _ double slash = refl
escape_again _ _ _ rest _ double backslash = refl
escape_again _ _ _ rest _ double (non_surrogate {t} {u} f h) = single_again t rest u f h
escape_again _ _ _ rest _ double (surrogate_pair {t} {s} {high} {low} f g h k) = rw (append_assoc t (0x5C ∷ 0x75 ∷ s) rest) (pair_again t s rest high low f g h k)
escape_again _ _ _ rest _ single quote_mark = refl
escape_again _ _ _ rest _ single backspace = refl
escape_again _ _ _ rest _ single form_feed = refl
escape_again _ _ _ rest _ single line_feed = refl
escape_again _ _ _ rest _ single carriage_return = refl
escape_again _ _ _ rest _ single tab = refl
escape_again _ _ _ rest _ single slash = refl
escape_again _ _ _ rest _ single backslash = refl
escape_again _ _ _ rest _ single (non_surrogate {t} {u} f h) = single_again t rest u f h
escape_again _ _ _ rest _ single (surrogate_pair {t} {s} {high} {low} f g h k) = rw (append_assoc t (0x5C ∷ 0x75 ∷ s) rest) (pair_again t s rest high low f g h k)

plain_double : (c : ℕ) → (is_plain c || c == 0x27) ≡ true → (c == 0x22) ≡ false
plain_double c e = grind (arith, nat_tests)

plain_single : (c : ℕ) → (is_plain c || c == 0x22) ≡ true → (c == 0x27) ≡ false
plain_single c e = grind (arith, nat_tests)

plain_quote : (quote other c : ℕ) → Quotes quote other → (is_plain c || c == other) ≡ true → (c == quote) ≡ false
plain_quote _ _ c double e = plain_double c e
plain_quote _ _ c single e = plain_single c e

double_backslash : (c : ℕ) → (is_plain c || c == 0x27) ≡ true → (c == 0x5C) ≡ false
double_backslash c e = grind (arith, nat_tests)

single_backslash : (c : ℕ) → (is_plain c || c == 0x22) ≡ true → (c == 0x5C) ≡ false
single_backslash c e = grind (arith, nat_tests)

plain_backslash : (quote other c : ℕ) → Quotes quote other → (is_plain c || c == other) ≡ true → (c == 0x5C) ≡ false
plain_backslash _ _ c double e = double_backslash c e
plain_backslash _ _ c single e = single_backslash c e

plain_again : (quote other c : ℕ) (rest : Text) → Quotes quote other → (is_plain c || c == other) ≡ true → character_at quote other (c ∷ rest) ≡ found c rest
unfolding character_at
plain_again quote other c rest q h = rw (plain_backslash quote other c q h, h) refl

backslash_quote : (quote other : ℕ) → Quotes quote other → (0x5C == quote) ≡ false
backslash_quote _ _ double = refl
backslash_quote _ _ single = refl

quote_same : (quote other : ℕ) → Quotes quote other → (quote == quote) ≡ true
quote_same _ _ double = refl
quote_same _ _ single = refl

closed_step : (quote other n : ℕ) (rest : Text) → (quote == quote) ≡ true → inside_at quote other (suc n) (quote ∷ rest) ≡ found [] rest
unfolding inside_at inside_step
closed_step quote other n rest e = rw (behind_same quote rest e) refl

character_step : (quote other n c x : ℕ) (t u rest : Text) (cs : List ℕ) → (c == quote) ≡ false → character_at quote other (c ∷ t) ≡ found x u → inside_at quote other n u ≡ found cs rest → inside_at quote other (suc n) (c ∷ t) ≡ found (x ∷ cs) rest
unfolding inside_at inside_step
character_step quote other n c x t u rest cs b e f = rw (behind_other quote c t b, e, f) refl

escape_character : (quote other c : ℕ) (t u : Text) → escape_at quote t ≡ found c u → character_at quote other (0x5C ∷ t) ≡ found c u
unfolding character_at
escape_character quote other c t u e = e

regroup : (e t : Text) (q : ℕ) (rest : Text) → (e ++ t) ++ (q ∷ rest) ≡ e ++ (t ++ (q ∷ rest))
regroup e t q rest = append_assoc e t (q ∷ rest)

shorter : (e t : Text) (n : ℕ) → length (0x5C ∷ (e ++ t)) < suc n → length t < n
shorter e t n h = omega (arith, length-append e t)

inside_again : (quote other n : ℕ) (t rest : Text) (cs : List ℕ) → Quotes quote other → Inside quote other t cs → length t < n → inside_at quote other n (t ++ (quote ∷ rest)) ≡ found cs rest
inside_again quote other zero t rest cs q i h = absurd (omega arith)
inside_again quote other (suc n) _ rest _ q end h = closed_step quote other n rest (quote_same quote other q)
inside_again quote other (suc n) _ rest _ q (plain {c} {t} {cs} p i) h =
    character_step quote other n c c (t ++ (quote ∷ rest)) (t ++ (quote ∷ rest)) rest cs (plain_quote quote other c q p) (plain_again quote other c (t ++ (quote ∷ rest)) q p) (inside_again quote other n t rest cs q i (omega arith))
inside_again quote other (suc n) _ rest _ q (escaped {c} {e} {t} {cs} p i) h =
    character_step quote other n 0x5C c ((e ++ t) ++ (quote ∷ rest)) (t ++ (quote ∷ rest)) rest cs (backslash_quote quote other q)
    (rw (regroup e t quote rest) (escape_character quote other c (e ++ (t ++ (quote ∷ rest))) (t ++ (quote ∷ rest)) (escape_again quote other e (t ++ (quote ∷ rest)) c q p)))
    (inside_again quote other n t rest cs q i (shorter e t n h))

close : (t rest : Text) (q : ℕ) → (t ++ (q ∷ [])) ++ rest ≡ t ++ (q ∷ rest)
close t rest q = append_assoc t (q ∷ []) rest

fits : (t rest : Text) (q : ℕ) → length t < length (t ++ (q ∷ rest))
fits t rest q = omega (arith, length-append t (q ∷ rest))

pub string_again : (t rest : Text) (cs : List ℕ) → StringLiteral t cs → string_at (t ++ rest) ≡ found cs rest
unfolding string_at
string_again _ rest _ (double_quoted {t} {cs} i) = rw (close t rest 0x22) (inside_again 0x22 0x27 (length (t ++ (0x22 ∷ rest))) t rest cs double i (fits t rest 0x22))
string_again _ rest _ (single_quoted {t} {cs} i) = rw (close t rest 0x27) (inside_again 0x27 0x22 (length (t ++ (0x27 ∷ rest))) t rest cs single i (fits t rest 0x27))

pub string_starts : (t : Text) (cs : List ℕ) → StringLiteral t cs → Starts (λ c. c == 0x22 || c == 0x27) t
string_starts _ _ (double_quoted {t} i) = record { head = 0x22; tail = t ++ (0x22 ∷ []); is = refl; passes = refl }
string_starts _ _ (single_quoted {t} i) = record { head = 0x27; tail = t ++ (0x27 ∷ []); is = refl; passes = refl }
