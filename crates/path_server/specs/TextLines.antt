-- Texts of lines, each of which spells one thing: this project's own.
use Rattle.std.specs.Prelude.{◌≡◌, ◌⊎◌, ℕ, suc, ◌==◌, if◌then◌else◌, List, [], ◌∷◌}
use Rattle.std.specs.List.{AllZip}
use Rattle.path_server.specs.declared.text_lines.LinesFault.{LinesFault}
use Rattle.path_server.specs.declared.text_lines.LinesFault.TheVariants.{BadLine, Memory}

-- the most bytes of such a text
abbrev pub text_limit : ℕ
text_limit = 67108864

abbrev pub in_front : ℕ → List (List ℕ) → List (List ℕ)
in_front c [] = (c ∷ []) ∷ []
in_front c (line ∷ lines) = (c ∷ line) ∷ lines

-- the lines of a text, each up to its line feed, which the last may lack
abbrev pub lines_in : List ℕ → List (List ℕ)
lines_in [] = []
lines_in (c ∷ text) = if c == 10 then [] ∷ lines_in text else in_front c (lines_in text)

-- the text spells these things, one a line
abbrev pub SpellAll : {A : Type 0} → (List ℕ → A → Type 0) → List ℕ → List A → Type 0
SpellAll spells text things = AllZip spells (lines_in text) things

abbrev pub IsBad : {A : Type 0} → (List ℕ → A → Type 0) → List ℕ → Type 0
IsBad {A} spells line = (thing : A) → ¬ spells line thing

-- of the lines, which have numbers from this one on, the first bad one has that number
abbrev pub IsFirstBad : {A : Type 0} → (List ℕ → A → Type 0) → ℕ → List (List ℕ) → ℕ → Type 0
IsFirstBad spells number [] bad = ⊥
IsFirstBad {A} spells number (line ∷ lines) bad = (IsBad spells line × (bad ≡ number)) ⊎ ((thing : A) × spells line thing × IsFirstBad spells (suc number) lines bad)

-- what is wrong with the lines, or want of memory
abbrev pub IsLinesFault : {A : Type 0} → (List ℕ → A → Type 0) → List (List ℕ) → LinesFault → Type 0
IsLinesFault spells lines (BadLine number) = IsFirstBad spells 1 lines number
IsLinesFault spells lines Memory = Unit {0}
