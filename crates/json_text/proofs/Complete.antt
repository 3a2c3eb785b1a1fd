-- The builder follows the grammar.
use Rattle.json_text.proofs.Names.{true, ◌≡◌, ℕ, ◌+◌, List, [], ◌∷◌, ◌++◌, length, refl, sym, ap, subst, arith, Blank, Atom, class, is_atom, AreAtoms}
use Rattle.json_text.proofs.Names.{NoAtomFirst, Goes, stay, blank, token, IsBlank, AreBlanks, nat_tests, State}
use Rattle.std.proofs.Common.{⊎_elim}
use Rattle.decimal_order.specs.Number.{IsDigit, AreDigits}

pub goes_on : {p q r : ℕ} {bs cs ds : List ℕ} {s s' s'' : State} → Goes p bs s q cs s' → Goes q cs s' r ds s'' → Goes p bs s r ds s''
goes_on {r = r} {ds = ds} {s'' = s''} (stay {q = q} {bs = bs} {s = s} e f) g = subst (λ n. Goes n bs s r ds s'') (sym e) (subst (λ l. Goes q l s r ds s'') (sym f) g)
goes_on (blank e f b h) g = blank e f b (goes_on h g)
goes_on (token e f i s h) g = token e f i s (goes_on h g)

pub blank_class : (b : ℕ) → IsBlank b → class b ≡ Blank
blank_class b h = ⊎_elim (λ e. ap class e) (⊎_elim (λ e. ap class e) (⊎_elim (λ e. ap class e) (λ e. ap class e))) h

pub atom_by_class : (b : ℕ) → class b ≡ Atom → is_atom b ≡ true
atom_by_class b h = grind (arith, nat_tests)

pub no_atom-blanks : (s rest : List ℕ) → AreBlanks s → NoAtomFirst rest → NoAtomFirst (s ++ rest)
no_atom-blanks [] rest b h = h
no_atom-blanks (x ∷ s) rest b h = λ e. let c = blank_class x b.0 in cc

pub blanks_go : (b rest : List ℕ) (p : ℕ) (s : State) → AreBlanks b → Goes p (b ++ rest) s (p + length b) rest s
blanks_go [] rest p s h = let e : p ≡ p + 0 = omega arith in stay e refl
blanks_go (x ∷ b) rest p s h = let e : p + 1 + length b ≡ p + length (x ∷ b) = omega arith in
    blank {p' = p + 1} refl refl h.0 (subst (λ n. Goes (p + 1) (b ++ rest) s n rest s) e (blanks_go b rest (p + 1) s h.1))

pub digit_class : (b : ℕ) → IsDigit b → class b ≡ Atom
digit_class b h = grind (arith, nat_tests)

pub digits_atoms : (bs : List ℕ) → AreDigits bs → AreAtoms bs
digits_atoms [] h = tt
digits_atoms (b ∷ bs) h = (digit_class b h.0, digits_atoms bs h.1)
