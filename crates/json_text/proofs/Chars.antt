-- Bytes spell one list of characters; and the bytes of a number are atom bytes.
use Rattle.json_text.proofs.Names.{◌≡◌, ◌≢◌, ℕ, ◌≤◌, ◌⊎◌, List, [], ◌∷◌, ◌++◌, length, refl, sym, ap, ◌∙◌, subst, arith, length-encode}
use Rattle.json_text.proofs.Names.{len_utf8_bounds, Spelt, Plain, Short, Unit4, IsHexDigit, IsChar, AreChars, AreAtoms}
use Rattle.std.proofs.Common.{⊎_elim}
use Rattle.std.proofs.lemmas.Str.{encode_same, char_from_byte}
use lib.Utf8.{encode}
use Rattle.decimal_order.specs.Number.{Optional, IsMinus, IsInt, IsFrac, IsExp, IsNumber}
use Rattle.json_text.proofs.Complete.{digit_class, digits_atoms}

hex_one : (b n m : ℕ) → IsHexDigit b n → IsHexDigit b m → n ≡ m
hex_one b n m h g = grind arith

-- a character that stands for itself does not begin with a backslash
no_plain_slash : (c : ℕ) (rest others : List ℕ) → c ≢ 92 → encode c ++ rest ≡ 92 ∷ others → ⊥
no_plain_slash c rest others n e = let s = char_from_byte (92 ∷ others) rest c (sym e) (omega arith) (omega arith) in n s

record SameChar (c d : Spelt) (r s : List ℕ) : Type 0 where
  chars : c ≡ d
  rests : r ≡ s

char_one : (c d : Spelt) (one one' r s : List ℕ) → IsChar one c → IsChar one' d → one ++ r ≡ one' ++ s → SameChar c d r s
char_one (Plain c) (Plain d) one one' r s h g e = grind (arith, encode_same)
char_one (Plain c) (Short l) one one' r s h g e = absurd (no_plain_slash c r (l ∷ s) h.3 (sym (ap (λ x. x ++ r) h.4) ∙ e ∙ ap (λ x. x ++ s) g.1))
char_one (Plain c) (Unit4 u) one one' r s h (a, b, c', d, k, l, m, n, ha, hb, hc, hd, eu, f) e = search (arith, no_plain_slash)
char_one (Short l) (Plain d) one one' r s h g e = absurd (no_plain_slash d s (l ∷ r) g.3 (sym (ap (λ x. x ++ s) g.4) ∙ sym e ∙ ap (λ x. x ++ r) h.1))
char_one (Short l) (Short m) one one' r s h g e = let x = sym (ap (λ y. y ++ r) h.1) ∙ e ∙ ap (λ y. y ++ s) g.1 in record { chars = cc; rests = cc }
char_one (Short l) (Unit4 u) one one' r s h (a, b, c', d, k, l', m, n, ha, hb, hc, hd, eu, f) e = search arith
char_one (Unit4 u) (Plain d) one one' r s (a, b, c', d', k, l, m, n, ha, hb, hc, hd, eu, f) g e = search (arith, no_plain_slash)
char_one (Unit4 u) (Short l') one one' r s (a, b, c', d, k, l, m, n, ha, hb, hc, hd, eu, f) g e = search arith
char_one (Unit4 u) (Unit4 v) one one' r s (a, b, c, d, k, l, m, n, ha, hb, hc, hd, eu, f) (a', b', c', d', k', l', m', n', ha', hb', hc', hd', ev, f') e =
    let x = sym (ap (λ y. y ++ r) f) ∙ e ∙ ap (λ y. y ++ s) f' in let ea : a' ≡ a = cc in let eb : b' ≡ b = cc in let ec : c' ≡ c = cc in
    let ed : d' ≡ d = cc in let p = hex_one a k k' ha (subst (λ y. IsHexDigit y k') ea ha') in
    let q = hex_one b l l' hb (subst (λ y. IsHexDigit y l') eb hb') in let t = hex_one c m m' hc (subst (λ y. IsHexDigit y m') ec hc') in
    let w = hex_one d n n' hd (subst (λ y. IsHexDigit y n') ed hd') in let z : u ≡ v = omega arith in grind arith

one_some : (c : Spelt) (one : List ℕ) → IsChar one c → one ≡ [] → ⊥
one_some (Plain c) one h e = let x = ap length (sym h.4 ∙ e) in let y = length-encode c in let z = len_utf8_bounds c in omega (arith, z.0)
one_some c one h e = search arith

front_nil : (a b : List ℕ) → a ++ b ≡ [] → a ≡ []
front_nil [] b e = refl
front_nil (x ∷ a) b e = absurd (cc)

pub chars_one : (cs ds : List Spelt) (bs : List ℕ) → AreChars bs cs → AreChars bs ds → cs ≡ ds
chars_one [] [] bs h g = refl
chars_one [] (d ∷ ds) bs h (one, others, i, is, e) = absurd (one_some d one i (front_nil one others (sym e ∙ h)))
chars_one (c ∷ cs) [] bs (one, others, i, is, e) g = absurd (one_some c one i (front_nil one others (sym e ∙ g)))
chars_one (c ∷ cs) (d ∷ ds) bs (one, others, i, is, e) (one', others', i', is', e') =
    let x = char_one c d one one' others others' i i' (sym e ∙ e') in
    let ih = chars_one cs ds others is (subst (λ l. AreChars l ds) (sym x.rests) is') in ap (λ y. y ∷ cs) x.chars ∙ ap (λ y. d ∷ y) ih

atoms-append : (a b : List ℕ) → AreAtoms a → AreAtoms b → AreAtoms (a ++ b)
atoms-append [] b h g = g
atoms-append (x ∷ a) b h g = (h.0, atoms-append a b h.1 g)

minus_atoms : (bs : List ℕ) → Optional IsMinus bs → AreAtoms bs
minus_atoms bs h = ⊎_elim (λ e. subst AreAtoms (sym e) tt) (λ e. subst AreAtoms (sym e) (refl, tt)) h

int_atoms : (bs : List ℕ) → IsInt bs → AreAtoms bs
int_atoms bs h = grind (arith, digit_class, digits_atoms)

frac_atoms : (bs : List ℕ) → Optional IsFrac bs → AreAtoms bs
frac_atoms bs h = grind (arith, digits_atoms)

exp_atoms : (bs : List ℕ) → Optional IsExp bs → AreAtoms bs
exp_atoms bs h = grind (arith, atoms-append, digits_atoms)

pub number_atoms : (bs : List ℕ) → IsNumber bs → AreAtoms bs
number_atoms bs n = subst AreAtoms (sym n.whole) (atoms-append n.minus _ (minus_atoms n.minus n.is_minus) (atoms-append n.int _ (int_atoms n.int n.is_int) (atoms-append n.frac n.exp (frac_atoms n.frac n.is_frac) (exp_atoms n.exp n.is_exp))))

-- a number begins with a minus or a digit
abbrev pub IsFirst : ℕ → Type 0
IsFirst b = (b ≡ 45) ⊎ ((48 ≤ b) × (b ≤ 57))

int_first : (b : ℕ) (bs int rest : List ℕ) → IsInt int → b ∷ bs ≡ int ++ rest → IsFirst b
int_first b bs int rest h e = search arith

pub number_some : (bs : List ℕ) → IsNumber bs → bs ≢ []
number_some bs n e = grind arith
