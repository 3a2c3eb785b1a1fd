-- Which bytes are a token, and the way from one place of the text to another, token by token.
use Rattle.std.specs.Prelude.{◌≡◌, ◌≢◌, ℕ, suc, ◌+◌, Bool, true, false, cond, not, ◌||◌, eqb, drop, List, [], ◌∷◌, ◌++◌, length, Option, Some, None, codes}
use Rattle.decimal_order.specs.Number.{IsNumber}
use Rattle.json_text.specs.Tree.{Spelt}
use Rattle.json_text.specs.Letters.{IsBlank, IsString}
use Rattle.json_text.specs.declared.tape.Kind.{Kind}
use Rattle.json_text.specs.declared.tape.Kind.TheVariants as kinds
use Rattle.json_text.specs.declared.tape.Shape.TheVariants.{Array, Object}
use Rattle.json_text.specs.declared.modes.Mode.TheVariants as modes
use Rattle.json_text.specs.Scanning.{string_end}
use Rattle.json_text.specs.Machine.{Token, Opening, Closing, Comma, Between, Text, Word, State, step, run_at}

-- what a byte is, by itself
pub data Class : Type 0 where
  Blank : Class
  Sign : Class
  Quote : Class
  Atom : Class

abbrev pub is_sign : ℕ → Bool
is_sign b = eqb b 91 || eqb b 93 || eqb b 123 || eqb b 125 || eqb b 44 || eqb b 58

abbrev pub is_blank : ℕ → Bool
is_blank b = eqb b 32 || eqb b 9 || eqb b 10 || eqb b 13

abbrev pub class : ℕ → Class
class b = cond (is_blank b) Blank (cond (is_sign b) Sign (cond (eqb b 34) Quote Atom))

-- the bytes of words and numbers
abbrev pub AreAtoms : List ℕ → Type 0
AreAtoms [] = Unit {0}
AreAtoms (b ∷ bs) = (class b ≡ Atom) × AreAtoms bs

-- no atom byte comes first
abbrev pub NoAtomFirst : List ℕ → Type 0
NoAtomFirst [] = Unit {0}
NoAtomFirst (b ∷ bs) = class b ≢ Atom

-- the byte of a token of one byte
abbrev pub sign_at : ℕ → ℕ → Option Token
sign_at p b =
    cond (eqb b 91) (Some (Opening Array p))
    (cond (eqb b 93) (Some (Closing Array p))
    (cond (eqb b 123) (Some (Opening Object p))
    (cond (eqb b 125) (Some (Closing Object p))
    (cond (eqb b 44) (Some Comma)
    (cond (eqb b 58) (Some Between) None)))))

-- a number, or the word of this kind
abbrev pub IsWord : List ℕ → Kind → Type 0
IsWord bs kinds.Number = IsNumber bs
IsWord bs kinds.Null = bs ≡ codes "null"
IsWord bs (kinds.Bool true) = bs ≡ codes "true"
IsWord bs (kinds.Bool false) = bs ≡ codes "false"
IsWord bs kinds.Text = ⊥
IsWord bs kinds.Array = ⊥
IsWord bs kinds.Object = ⊥

-- the kind of a word or a number, where the bytes are one
abbrev pub WordIs : List ℕ → Option Kind → Type 0
WordIs bs (Some kind) = IsWord bs kind
WordIs bs None = (kind : Kind) → IsWord bs kind → ⊥

-- these bytes at p are this token, whatever follows is no part of it
pub data IsToken : ℕ → List ℕ → Token → List ℕ → Type 0 where
  sign : {p b : ℕ} {tok : Token} {rest : List ℕ} → sign_at p b ≡ Some tok → IsToken p (b ∷ []) tok rest
  text : {p : ℕ} {vs rest : List ℕ} (cs : List Spelt) → IsString vs cs → IsToken p vs (Text (run_at p (length vs))) rest
  word : {p b : ℕ} {vs rest : List ℕ} {kind : Kind} → AreAtoms (b ∷ vs) → NoAtomFirst rest → IsWord (b ∷ vs) kind
      → IsToken p (b ∷ vs) (Word (run_at p (suc (length vs))) kind) rest

-- the builder goes from one state at p, before these bytes, to another at q, token by token
pub data Goes : ℕ → List ℕ → State → ℕ → List ℕ → State → Type 0 where
  stay : {p q : ℕ} {bs cs : List ℕ} {s : State} → p ≡ q → bs ≡ cs → Goes p bs s q cs s
  blank : {p p' q b : ℕ} {bs cs ds : List ℕ} {s s' : State} → bs ≡ b ∷ cs → p' ≡ p + 1 → IsBlank b → Goes p' cs s q ds s' → Goes p bs s q ds s'
  token : {p p' q : ℕ} {bs vs rest ds : List ℕ} {tok : Token} {s s' s'' : State} → bs ≡ vs ++ rest → p' ≡ p + length vs
      → IsToken p vs tok rest → step tok s ≡ Some s' → Goes p' rest s' q ds s'' → Goes p bs s q ds s''

abbrev pub is_atom : ℕ → Bool
is_atom b = not (is_blank b || is_sign b || eqb b 34)

-- the end of a string whose characters begin at k, past its quote
abbrev pub quote_end : ℕ → List ℕ → Option ℕ
quote_end k bs = string_end modes.Between k bs

-- the end of a run of atom bytes that begins at k
abbrev pub atom_end : ℕ → List ℕ → ℕ
atom_end k [] = k
atom_end k (b ∷ bs) = cond (is_atom b) (atom_end (k + 1) bs) k

-- no token that stands at i is one that the builder takes
abbrev pub Refused : List ℕ → ℕ → State → Type 0
Refused bytes i s = (vs rest : List ℕ) (tok : Token) → drop i bytes ≡ vs ++ rest → IsToken i vs tok rest → step tok s ≡ None

-- the token at i, its end and the builder after it
pub record Taken (bytes : List ℕ) (i j : ℕ) (old new : State) : Type 0 where
  pub vs : List ℕ
  pub rest : List ℕ
  pub tok : Token
  pub stands : drop i bytes ≡ vs ++ rest
  pub is_token : IsToken i vs tok rest
  pub steps : step tok old ≡ Some new
  pub end : j ≡ i + length vs
