-- One text has one way through it: the token that stands at a place is the one that the way takes.
use Rattle.json_text.proofs.Names.{true, false, cond, eqb, common_steps, ◌≡◌, ◌≢◌, ℕ, ◌+◌, List, [], ◌∷◌, ◌++◌, length, take, Some, refl, sym, ap}
use Rattle.json_text.proofs.Names.{◌∙◌, subst, arith, append_assoc, nat_tests, take_at, Spelt, IsBlank, AreChars, Blank, class, AreAtoms, NoAtomFirst}
use Rattle.json_text.proofs.Names.{IsToken, sign, text, word, Goes, stay, blank, token, sign_at, IsWord, Token, State, step}
use Rattle.std.proofs.lemmas.List.{append_cancel_left}
use Rattle.json_text.specs.Tokens.{Sign}
use Rattle.json_text.proofs.Complete.{blank_class}
use Rattle.json_text.specs.declared.tape.Kind.{Kind}
use Rattle.json_text.specs.declared.tape.Kind.TheVariants as kinds
use Rattle.json_text.proofs.Strings.{string_one}

pub sign_class : (p b : ℕ) (tok : Token) → sign_at p b ≡ Some tok → class b ≡ Sign
sign_class p b tok h = grind (arith, nat_tests)

-- a token begins with a byte that is no blank
pub record Begins (vs : List ℕ) : Type 0 where
  pub first : ℕ
  pub others : List ℕ
  pub is : vs ≡ first ∷ others
  pub solid : class first ≢ Blank

pub token_begins : {p : ℕ} {vs rest : List ℕ} {tok : Token} → IsToken p vs tok rest → Begins vs
token_begins h = search (arith, sign_class)

quote_ends : (a b r r' : List ℕ) (cs ds : List Spelt) → AreChars a cs → AreChars b ds → a ++ 34 ∷ r ≡ b ++ 34 ∷ r' → a ≡ b
quote_ends a b r r' cs ds f g e = let l = string_one a b r r' cs ds f g e in
    sym (take_at a (34 ∷ r) (length a) refl) ∙ ap (take (length a)) e ∙ take_at b (34 ∷ r') (length a) (sym l)

pub atoms_end : (a b r r' : List ℕ) → AreAtoms a → AreAtoms b → NoAtomFirst r → NoAtomFirst r' → a ++ r ≡ b ++ r' → a ≡ b
atoms_end [] [] r r' h g n m e = refl
atoms_end [] (y ∷ b) r r' h g n m e = absurd (subst NoAtomFirst e n g.0)
atoms_end (x ∷ a) [] r r' h g n m e = absurd (subst NoAtomFirst (sym e) m h.0)
atoms_end (x ∷ a) (y ∷ b) r r' h g n m e = let i : a ++ r ≡ b ++ r' = cc in let t = atoms_end a b r r' h.1 g.1 n m i in cc

quoted : (inside rest vs : List ℕ) → vs ≡ 34 ∷ (inside ++ 34 ∷ []) → vs ++ rest ≡ 34 ∷ (inside ++ 34 ∷ rest)
quoted inside rest vs f = ap (λ l. l ++ rest) f ∙ ap (λ l. 34 ∷ l) (append_assoc inside (34 ∷ []) rest)

-- a word or a number shows its kind by its first byte
abbrev first_kind : List ℕ → Kind
first_kind [] = kinds.Number
first_kind (b ∷ bs) = cond (eqb b 110) kinds.Null (cond (eqb b 116) (kinds.Bool true) (cond (eqb b 102) (kinds.Bool false) kinds.Number))

word_first : (bs : List ℕ) (k : Kind) → IsWord bs k → k ≡ first_kind bs
word_first [] kinds.Number h = refl
word_first bs k h = search arith

pub record Same (vs vs' : List ℕ) (tok tok' : Token) : Type 0 where
  pub bytes : vs ≡ vs'
  pub tokens : tok ≡ tok'

pub same_token : {p : ℕ} {vs vs' rest rest' : List ℕ} {tok tok' : Token} → IsToken p vs tok rest → IsToken p vs' tok' rest' → vs ++ rest ≡ vs' ++ rest' → Same vs vs' tok tok'
same_token (sign {p = p} {b = b} h) (sign {b = b'} h') e = let f : b ≡ b' = cc in record { bytes = cc; tokens = (let g = ap (sign_at p) f in cc) }
same_token (sign {p = p} {b = b} {tok = tok} h) (text cs g) e = let c = sign_class p b tok h in let f : b ≡ 34 = cc in absurd (let k = ap class f in cc)
same_token (sign {p = p} {b = b} {tok = tok} h) (word {b = b'} a n k) e = let c = sign_class p b tok h in let f : b ≡ b' = cc in let d = a.0 in absurd (let k = ap class f in cc)
same_token (text cs g) (sign {p = p} {b = b} {tok = tok} h) e = let c = sign_class p b tok h in let f : b ≡ 34 = cc in absurd (let k = ap class f in cc)
same_token (text {p = p} {vs = vs} {rest = rest} cs (inside, i, f)) (text {vs = vs'} {rest = rest'} ds (inside', i', f')) e =
    grind (arith, nat_tests, common_steps, quote_ends, quoted)
same_token (text cs g) (word {b = b'} a n k) e = let f : b' ≡ 34 = cc in let d = a.0 in absurd (let k = ap class f in cc)
same_token (word {b = b} {vs = vs} a n k) (sign {p = p} {b = b'} {tok = tok} h) e = let c = sign_class p b' tok h in let f : b ≡ b' = cc in let d = a.0 in absurd (let k = ap class f in cc)
same_token (word {b = b} a n k) (text cs g) e = let f : b ≡ 34 = cc in let d = a.0 in absurd (let k = ap class f in cc)
same_token (word {p = p} {b = b} {vs = vs} {rest = rest} {kind = kind} a n k) (word {b = b'} {vs = vs'} {rest = rest'} {kind = kind'} a' n' k') e =
    grind (arith, atoms_end)

-- what is left of a way to the end of the text, past a token
pub record Past (p q : ℕ) (vs rest : List ℕ) (tok : Token) (s s'' : State) : Type 0 where
  pub next : State
  pub steps : step tok s ≡ Some next
  pub way : Goes (p + length vs) rest next q [] s''

pub goes_token : {p q : ℕ} {bs vs rest : List ℕ} {tok : Token} {s s'' : State} → Goes p bs s q [] s'' → bs ≡ vs ++ rest → IsToken p vs tok rest → Past p q vs rest tok s s''
goes_token {vs = vs} {rest = rest} (stay f g) e i = let b = token_begins i in absurd (let h = ap (λ l. l ++ rest) b.is in cc)
goes_token {vs = vs} {rest = rest} (blank {b = b} {cs = cs} g f h w) e i = grind (arith, token_begins, blank_class)
goes_token {q = q} {vs = vs} {rest = rest} {tok = tok} {s = s} {s'' = s''} (token {p = p} {p' = p'} {vs = vs'} {rest = rest'} {tok = tok'} {s' = s'} g f j st w) e i =
    grind (arith, same_token, append_cancel_left)

pub goes_blank : {p q : ℕ} {bs cs : List ℕ} {b : ℕ} {s s'' : State} → Goes p bs s q [] s'' → bs ≡ b ∷ cs → IsBlank b → Goes (p + 1) cs s q [] s''
goes_blank h e h' = grind (arith, token_begins, blank_class)

-- at the end of the text the way is over
pub goes_end : {p q : ℕ} {bs : List ℕ} {s s'' : State} → Goes p bs s q [] s'' → bs ≡ [] → s ≡ s''
goes_end h e = grind (arith, token_begins)
