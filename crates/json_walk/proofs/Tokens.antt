-- What the reader's small functions find, as tokens.
use Rattle.json_text.proofs.Names.{◌≡◌, ◌≢◌, ℕ, ◌+◌, List, [], ◌∷◌, ◌++◌, length, drop, Some, None, Bool, true, false, cond, refl, sym, ap, ◌∙◌}
use Rattle.json_text.proofs.Names.{arith, IsUtf8, nat_tests, Spelt, AreChars, Atom, class, is_atom, AreAtoms, NoAtomFirst, IsToken, quote_end}
use Rattle.json_text.proofs.Names.{atom_end, Refused, Token, State, step}
use Rattle.json_text.proofs.Lexed.{same_token}
use Rattle.json_text.proofs.Strings.{string_found, string_none}

-- the token that stands here is refused, so each is
pub refused_all : (bytes vs rest : List ℕ) (i : ℕ) (tok : Token) (s : State) → drop i bytes ≡ vs ++ rest → IsToken i vs tok rest → step tok s ≡ None → Refused bytes i s
refused_all bytes vs rest i tok s e h n = λ vs' rest' tok' e' h'. let a = same_token h h' (sym e ∙ e') in let b = a.tokens in ap (λ t. step t s) (sym b) ∙ n

-- the class of a byte, by the tests
pub class_atom : (b : ℕ) → is_atom b ≡ true → class b ≡ Atom
class_atom b h = grind (arith, nat_tests)

pub class_not_atom : (b : ℕ) → is_atom b ≡ false → class b ≢ Atom
class_not_atom b h = λ e. grind (arith, nat_tests)

-- strings
pub record Closed (k j : ℕ) (bs : List ℕ) : Type 0 where
  pub inside : List ℕ
  pub rest : List ℕ
  pub characters : List Spelt
  pub are : AreChars inside characters
  pub is : bs ≡ inside ++ 34 ∷ rest
  pub end : j ≡ k + length inside + 1

pub quote_found : (k : ℕ) (bs : List ℕ) (j : ℕ) → IsUtf8 bs → quote_end k bs ≡ Some j → Closed k j bs
quote_found k bs j u h = let f = string_found bs k j u h in record { inside = f.0; rest = f.1; characters = f.2; are = f.3; is = f.4; end = f.5 }

pub quote_none : (k : ℕ) (bs : List ℕ) → quote_end k bs ≡ None → (cs : List Spelt) (inside rest : List ℕ) → AreChars inside cs → bs ≡ inside ++ 34 ∷ rest → ⊥
quote_none k bs h cs inside rest a e = string_none bs k h inside rest cs a e

-- words and numbers
pub record Run (k j : ℕ) (bs : List ℕ) : Type 0 where
  pub atoms : List ℕ
  pub rest : List ℕ
  pub are : AreAtoms atoms
  pub over : NoAtomFirst rest
  pub is : bs ≡ atoms ++ rest
  pub end : j ≡ k + length atoms

pub atoms_found : (k : ℕ) (bs : List ℕ) → Run k (atom_end k bs) bs
atoms_found k [] = record { atoms = []; rest = []; are = tt; over = tt; is = refl; end = omega arith }
atoms_found k (b ∷ bs) = by_atom (is_atom b) refl (atoms_found (k + 1) bs) where
  by_atom : (x : Bool) → is_atom b ≡ x → Run (k + 1) (atom_end (k + 1) bs) bs → Run k (cond (is_atom b) (atom_end (k + 1) bs) k) (b ∷ bs)
  by_atom true t r = rw t (record { atoms = b ∷ r.atoms; rest = r.rest; are = (class_atom b t, r.are); over = r.over; is = ap (λ l. b ∷ l) r.is; end = (let e = r.end in omega arith) })
  by_atom false t r = rw t (record { atoms = []; rest = b ∷ bs; are = tt; over = class_not_atom b t; is = refl; end = omega arith })
