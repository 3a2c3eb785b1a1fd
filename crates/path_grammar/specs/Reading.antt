-- Reading a text from left to right: what each function of the reader gives, and the readers that all others are made of.
use Rattle.std.specs.Prelude.{◌≡◌, ℕ, zero, suc, List, [], ◌∷◌, ◌++◌, length, Bool, ◌||◌, ◌==◌, if◌then◌else◌, Option, Some, None, Result, Ok, Err}
use Rattle.path_grammar.specs.Characters.{Text, is_blank, is_digit, is_first, is_function}
use Rattle.path_grammar.specs.declared.class.Class.{Class}
use Rattle.path_grammar.specs.declared.class.Class.TheVariants.{Blank, Digit, Name, Function}
use Rattle.path_grammar.specs.declared.fault.ParseFault.{ParseFault}
use Rattle.path_grammar.specs.declared.fault.ParseFault.TheVariants.{QueryTooLong, NotWellFormed, Memory}

-- a value and the text after it, or nothing
abbrev pub Reader : Type 0 → Type 0
Reader X = Text → Option (X × Text)

infixl 10 ◌>>=◌
abbrev pub ◌>>=◌ : {A B : Type 0} → Option A → (A → Option B) → Option B
None >>= f = None
(Some x) >>= f = f x

-- what a function returned, seen by view, is what reading gives, unless memory ran out
abbrev pub Fails : {Y : Type 0} → ParseFault → Option Y → Type 0
Fails Memory read = Unit {0}
Fails NotWellFormed read = read ≡ None
Fails QueryTooLong read = ⊥

abbrev pub Gives : {X Y : Type 0} → (X → Y) → Result X ParseFault → Option Y → Type 0
Gives view (Ok x) read = read ≡ Some (view x)
Gives view (Err e) read = Fails e read

-- ---- Runs of a class

abbrev pub is_name : ℕ → Bool
is_name c = is_first c || is_digit c

abbrev pub in_class : Class → ℕ → Bool
in_class Blank = is_blank
in_class Digit = is_digit
in_class Name = is_name
in_class Function = is_function

-- the run at the front of those that pass
abbrev pub front_run : (ℕ → Bool) → Text → Text
front_run p [] = []
front_run p (c ∷ t) = if p c then c ∷ front_run p t else []

-- the text after the run of those that pass
abbrev pub after_run : (ℕ → Bool) → Text → Text
after_run p [] = []
after_run p (c ∷ t) = if p c then after_run p t else c ∷ t

-- ---- One character

-- the text behind a character
unfoldable pub behind : ℕ → Text → Option Text
behind k [] = None
behind k (c ∷ t) = if c == k then Some t else None

-- a value, where blanks and a character stand behind it
unfoldable pub closing : {X : Type 0} → ℕ → X → Reader X
closing k x t = do
  rest ← behind k (after_run is_blank t)
  Some (x, rest)

-- ---- Lists: `next` is where another one begins, if one does

unfoldable pub go_on : {X : Type 0} → Reader X → Reader (List X) → Text → Option Text → Option (List X × Text)
go_on one others t None = Some ([], t)
go_on one others t (Some u) = do
  x ← one u
  xs ← others x.1
  Some (x.0 ∷ xs.0, xs.1)

-- at most so many
unfoldable pub repeat_at : {X : Type 0} → (Text → Option Text) → Reader X → ℕ → Reader (List X)
repeat_at next one zero t = Some ([], t)
repeat_at next one (suc k) t = go_on one (repeat_at next one k) t (next t)

-- one, and then any number
unfoldable pub list_at : {X : Type 0} → (Text → Option Text) → Reader X → Reader (List X)
list_at next one t = do
  x ← one t
  xs ← repeat_at next one (length t) x.1
  Some (x.0 ∷ xs.0, xs.1)

-- what was read before, and what is still read
abbrev pub put_front : {X : Type 0} → List X → Option (List X × Text) → Option (List X × Text)
put_front front read = read >>= λ x. Some (front ++ x.0, x.1)
