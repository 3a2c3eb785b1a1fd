-- What the calls for a token show, with the bytes that stand at the place.
use Rattle.json_text.proofs.Names.{◌≡◌, ◌≢◌, ℕ, ◌+◌, ◌-◌, ◌<◌, List, [], ◌∷◌, ◌++◌, length, take, drop, get_or, None, true, refl, sym, arith}
use Rattle.json_text.proofs.Names.{append_assoc, IsUtf8, IsCharBoundary-after_ascii, drop_more, take_at, is_atom, AreAtoms, NoAtomFirst, IsToken}
use Rattle.json_text.proofs.Names.{word, IsWord, quote_end, atom_end, Token, Word, run_at}
use Rattle.std.proofs.lemmas.Str.{IsUtf8-drop}
use Rattle.json_text.specs.declared.tape.Kind.{Kind}
use Rattle.json_walk.proofs.Tokens.{class_atom, quote_none, atoms_found}

pub behind : (bytes : List ℕ) (i : ℕ) → IsUtf8 bytes → i < length bytes → get_or bytes i 0 ≡ 34 → IsUtf8 (drop (i + 1) bytes)
behind bytes i u l e = IsUtf8-drop bytes (i + 1) u (IsCharBoundary-after_ascii bytes i u l (omega arith))

pub no_string : {i : ℕ} {vs rest : List ℕ} {tok : Token} → IsToken i vs tok rest → (cs : List ℕ) → quote_end (i + 1) cs ≡ None → 34 ∷ cs ≡ vs ++ rest → ⊥
no_string h cs n e = grind (arith, quote_none, append_assoc)

-- words and numbers
pub word_is : (i : ℕ) (atoms rest : List ℕ) (k : Kind) → AreAtoms atoms → NoAtomFirst rest → IsWord atoms k → atoms ≢ [] → IsToken i atoms (Word (run_at i (length atoms)) k) rest
word_is i [] rest k a o e n = absurd (n refl)
word_is i (b ∷ vs) rest k a o e n = word a o e

pub record Atoms (bytes : List ℕ) (i j : ℕ) : Type 0 where
  pub vs : List ℕ
  pub rest : List ℕ
  pub are : AreAtoms vs
  pub over : NoAtomFirst rest
  pub stands : drop i bytes ≡ vs ++ rest
  pub some : vs ≢ []
  pub end : j ≡ i + length vs
  pub taken : take (j - i) (drop i bytes) ≡ vs

pub atoms_here : (bytes : List ℕ) (i j : ℕ) → i < length bytes → is_atom (get_or bytes i 0) ≡ true → j ≡ atom_end i (drop i bytes) → Atoms bytes i j
atoms_here bytes i j h q e = let r = atoms_found i (drop i bytes) in let long : j - i ≡ length r.atoms = (let a = r.end in omega arith) in
    grind (arith, drop_more bytes i 0 h, class_atom (get_or bytes i 0) q, take_at r.atoms r.rest (j - i) (sym long))
