-- The repetitions of the grammar, as RFC 9535 writes them: `*(S R)` and `R *(S separator S R)`.
use Rattle.std.specs.Prelude.{List, [], ◌∷◌, ◌++◌}
use Rattle.path_grammar.specs.Characters.{Text, Blanks}

-- any number of R, with a gap before each
pub data Many {X : Type 0} (Gap : Text → Type 0) (R : Text → X → Type 0) : Text → List X → Type 0 where
  none : Many Gap R [] []
  next : {t u : Text} {x : X} {xs : List X} (g : Text) → Gap g → R t x → Many Gap R u xs → Many Gap R (g ++ (t ++ u)) (x ∷ xs)

-- *(S R)
abbrev pub Repeated : {X : Type 0} → (Text → X → Type 0) → Text → List X → Type 0
Repeated R = Many Blanks R

-- S separator S
pub data Between (separator : Text) : Text → Type 0 where
  between : (b c : Text) → Blanks b → Blanks c → Between separator (b ++ (separator ++ c))

-- one R, and any number more, with a gap before each
pub data OneOrMore {X : Type 0} (Gap : Text → Type 0) (R : Text → X → Type 0) : Text → List X → Type 0 where
  first : {t u : Text} {x : X} {xs : List X} → R t x → Many Gap R u xs → OneOrMore Gap R (t ++ u) (x ∷ xs)

-- R *(S separator S R)
abbrev pub Separated : {X : Type 0} → Text → (Text → X → Type 0) → Text → List X → Type 0
Separated separator R = OneOrMore (Between separator) R
