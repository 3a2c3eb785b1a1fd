-- The tokens that stand at a byte: strings by where they end, words by their run, and what no token is.
use Rattle.json_text.proofs.Names.{◌≡◌, ◌≢◌, ℕ, ◌+◌, ◌-◌, ◌<◌, ◌≤◌, inl, inr, cases_lt, Bool, true, false, List, [], ◌∷◌, ◌++◌, length, take, drop, get_or, Some, None, refl}
use Rattle.json_text.proofs.Names.{sym, ap, subst, ◌∙◌, arith, Ok, nat_tests, drop_more, Token, Text, Word, run_at, is_atom, AreAtoms, sign_at}
use Rattle.json_text.proofs.Names.{IsToken, sign, text, IsWord}
use Rattle.json_walk.proofs.Names.{IsAtomRun, Kind, Lexed, Marked, StringEnds, ClosesBefore, TokenAt, begins_value, is_text, token_of, end_of}
use Rattle.byte_masks.specs.Classes.{blank_byte}
use Rattle.decimal_order.specs.Number.{IsNumber}
use Rattle.json_text.specs.declared.tape.Kind.TheVariants.{Number}
use Rattle.structural_index.specs.Places.{byte}
use Rattle.structural_index.specs.Runs.{EndsAtBlank}
use Rattle.json_text.specs.Tokens.{WordIs}
use Rattle.json_walk.specs.Walked.{NoneAt}
use Rattle.json_walk.proofs.Bridge.{same_classes, same_default}
use Rattle.json_walk.proofs.Calls.{no_string, word_is, atoms_here}
use Rattle.json_walk.proofs.Placing.{run_ends}
use Rattle.json_walk.proofs.Runs.{word_run, token_run}

-- ---- Strings

pub text_at : (bytes : List ℕ) (i end : ℕ) → StringEnds bytes i (Some end) → TokenAt bytes i (Text (run_at i (end - i)))
text_at bytes i end (j, e, x) = let last = x.end in let size : length x.bytes ≡ end - i = omega arith in
    record { bytes = x.bytes; rest = x.rest; stands = x.stands; is_token = subst (λ n. IsToken i x.bytes (Text (run_at i n)) x.rest) size (text x.characters x.is_string) }

-- where no string ends, no token stands at its quote
pub none_at : (such : Token → Bool) (bytes : List ℕ) (i : ℕ) → i < length bytes → get_or bytes i 0 ≡ 34 → StringEnds bytes i None → NoneAt such bytes i
none_at such bytes i h q e = λ tok at. absurd (no_string at.is_token (drop (i + 1) bytes) e (ap (λ b. b ∷ drop (i + 1) bytes) (sym q) ∙ sym (drop_more bytes i 0 h) ∙ at.stands))

sign_no_text : (p b : ℕ) (tok : Token) → sign_at p b ≡ Some tok → is_text tok ≡ false
sign_no_text p b tok h = grind (arith, nat_tests)

no_text : {p : ℕ} {vs rest : List ℕ} {tok : Token} → IsToken p vs tok rest → (b : ℕ) (cs : List ℕ) → b ∷ cs ≡ vs ++ rest → b ≢ 34 → is_text tok ≡ false
no_text h b cs e n = grind arith

pub no_name_at : (bytes : List ℕ) (i : ℕ) → i < length bytes → get_or bytes i 0 ≢ 34 → NoneAt is_text bytes i
no_name_at bytes i h n = λ tok at. no_text at.is_token (get_or bytes i 0) (drop (i + 1) bytes) (sym (drop_more bytes i 0 h) ∙ at.stands) n

-- ---- Words

pub long_enough : (bs : List ℕ) → bs ≢ [] → 0 < length bs
long_enough [] n = absurd (n refl)
long_enough (b ∷ bs) n = omega arith

-- a word begins with a byte of words
word_begins : (bytes bs : List ℕ) (i : ℕ) (k : Kind) → i < length bytes → IsAtomRun bytes i (i + length bs) → IsWord bs k → is_atom (get_or bytes i 0) ≡ true
word_begins bytes bs i k h r w = grind (arith, long_enough, same_default, same_classes)

pub word_at : (bytes bs : List ℕ) (i next : ℕ) (k : Kind) → i < length bytes → ClosesBefore bytes i next → bs ≡ take (length bs) (drop i bytes) → EndsAtBlank bytes i next (i + length bs) → IsWord bs k → TokenAt bytes i (Word (run_at i (length bs)) k)
word_at bytes bs i next k h c e ends w = let r = word_run bytes i next h c bs e ends k w in
    let a = atoms_here bytes i (i + length bs) h (word_begins bytes bs i k h r w) (run_ends bytes i (length bs) r) in let last = a.end in
    let size : length a.vs ≡ length bs = omega arith in let back : i + length bs - i ≡ length bs = omega arith in
    let same : bs ≡ a.vs = e ∙ ap (λ n. take n (drop i bytes)) (sym back) ∙ a.taken in
    record { bytes = a.vs; rest = a.rest; stands = a.stands; is_token = subst (λ n. IsToken i a.vs (Word (run_at i n) k) a.rest) size (word_is i a.vs a.rest k a.are a.over (subst (λ l. IsWord l k) same w) a.some) }

-- a digit right before the next place is a number
module _ (bytes : List ℕ) (i next : ℕ) (inside : i < length bytes) where
  abbrev d : ℕ
  d = get_or bytes i 0

  pub byte_taken : d ∷ [] ≡ take 1 (drop i bytes)
  byte_taken = sym (ap (take 1) (drop_more bytes i 0 inside))

  no_blank : (b : ℕ) → 48 ≤ b → blank_byte b ≡ false
  no_blank b low = grind (arith, nat_tests)

  digit_ends : 48 ≤ d → next ≡ i + 1 → EndsAtBlank bytes i next (i + 1)
  digit_ends low n = record { from = omega arith; to = omega (arith, n); solid = λ k a b. (let f : i ≡ k = omega arith in no_blank (byte bytes k) (subst (λ x. 48 ≤ x) (same_default bytes i inside ∙ ap (byte bytes) f) low)); over = λ l. absurd (omega (arith, n, l)) }

  digit_number : 48 ≤ d → d ≤ 57 → IsNumber (d ∷ [])
  digit_number low high = record { minus = []; int = d ∷ []; frac = []; exp = []; is_minus = inl refl; is_int = elim (cases_lt 48 d) [ inl l ↦ inr (omega arith, high, tt) | inr l ↦ inl (omega arith, refl) ]; is_frac = inl refl; is_exp = inl refl; whole = refl }

  pub digit_at : 48 ≤ d → d ≤ 57 → ClosesBefore bytes i next → next ≡ i + 1 → TokenAt bytes i (Word (run_at i 1) Number)
  digit_at low high c n = word_at bytes (d ∷ []) i next Number inside c byte_taken (digit_ends low n) (digit_number low high)

sign_begins : (p b : ℕ) (tok : Token) → sign_at p b ≡ Some tok → b ≢ 91 → b ≢ 123 → begins_value tok ≡ false
sign_begins p b tok h m n = grind (arith, nat_tests)

no_value : {p : ℕ} {vs rest : List ℕ} {tok : Token} → IsToken p vs tok rest → (b : ℕ) (cs : List ℕ) → b ∷ cs ≡ vs ++ rest → b ≢ 34 → b ≢ 91 → b ≢ 123 → ((kind : Kind) → AreAtoms vs → 0 < length vs → IsWord vs kind → ⊥) → begins_value tok ≡ false
no_value h b cs e q m n none = grind arith

-- where there is no word, no value begins, unless it is a string or a container
pub no_value_at : (bytes bs : List ℕ) (i next : ℕ) → i < length bytes → ClosesBefore bytes i next → get_or bytes i 0 ≢ 34 → get_or bytes i 0 ≢ 91 → get_or bytes i 0 ≢ 123 → bs ≡ take (length bs) (drop i bytes) → EndsAtBlank bytes i next (i + length bs) → WordIs bs None → NoneAt begins_value bytes i
no_value_at bytes bs i next h c q m n e ends w = λ tok at.
    no_value at.is_token (get_or bytes i 0) (drop (i + 1) bytes) (sym (drop_more bytes i 0 h) ∙ at.stands) q m n
    (λ kind are some k. w kind (subst (λ l. IsWord l kind) (token_run bytes i next h c bs e ends at.bytes at.rest tok at.is_token are some at.stands) k))

-- ---- Signs

pub sign_token : (bytes : List ℕ) (i : ℕ) (tok : Token) → i < length bytes → sign_at i (get_or bytes i 0) ≡ Some tok → TokenAt bytes i tok
sign_token bytes i tok h a = record { bytes = get_or bytes i 0 ∷ []; rest = drop (i + 1) bytes; stands = drop_more bytes i 0 h; is_token = sign a }

-- the bytes of a token
abbrev pub size : Token → ℕ
size (Text x) = x.len
size (Word x kind) = x.len
size _ = 1

sign_size : (p b : ℕ) (tok : Token) → sign_at p b ≡ Some tok → size tok ≡ 1
sign_size p b tok h = grind (arith, nat_tests)

pub token_size : {p : ℕ} {vs rest : List ℕ} {tok : Token} → IsToken p vs tok rest → size tok ≡ length vs
token_size h = grind arith

pub ends_at : (i : ℕ) (l : Lexed) → end_of i l ≡ i + size (token_of i l)
ends_at i l = grind arith

-- ---- The mark

-- a token that is no word leaves it
pub no_word_marked : (bytes : List ℕ) (i b j : ℕ) (mark : Bool) → get_or bytes i 0 ≡ b → is_atom b ≡ false → Marked bytes i mark (Ok j) mark
no_word_marked bytes i b j mark e a = λ n. (n, λ k. absurd (let f = ap is_atom e in cc))
