-- The tape builder: what each token does to its state.
use Rattle.std.specs.Prelude.{◌≡◌, ℕ, zero, suc, ◌+◌, ◌-◌, ◌≤◌, Bool, true, false, cond, List, [], ◌∷◌, ◌++◌, length, max, Option, Some, None}
use Rattle.json_text.specs.declared.tape.Kind.{Kind}
use Rattle.json_text.specs.declared.tape.Kind.TheVariants as kinds
use Rattle.json_text.specs.declared.tape.Extent.{Extent}
use Rattle.json_text.specs.declared.tape.Entry.{Entry}
use Rattle.json_text.specs.Tape.{Label, Top, Index, Named, role_of, label_spot}
use Rattle.json_text.specs.declared.tape.Shape.{Shape}
use Rattle.json_text.specs.declared.tape.Shape.TheVariants.{Array, Object}
use Rattle.json_text.specs.declared.tape.Level.{Level}
use Rattle.json_text.specs.declared.tape.Level.TheVariants.{Root, Inside}
use Rattle.json_text.specs.declared.tape.Want.{Want}
use Rattle.json_text.specs.declared.tape.Want.TheVariants.{Value, FirstValue, Name, FirstName, Colon, Next}
use Rattle.json_text.specs.declared.tape.Open.{Open}
use Rattle.std.specs.Prelude.{Result, Ok, Err}
use Rattle.json_text.specs.declared.tape.BuildFault.{BuildFault}
use Rattle.json_text.specs.declared.tape.BuildFault.TheVariants.{NotJson, Memory}

-- a token: a bracket or brace with its place, a comma, a colon, a string, or a word or number with its kind
pub data Token : Type 0 where
  Opening : (shape : Shape) (place : ℕ) → Token
  Closing : (shape : Shape) (place : ℕ) → Token
  Comma : Token
  Between : Token
  Text : (source : Extent) → Token
  Word : (source : Extent) (kind : Kind) → Token

-- the entries so far, the open containers from the innermost out to the root, what may come next, the name that waits for its value, and how many containers were open at most
pub record State : Type 0 where
  pub entries : List Entry
  pub opens : List Open
  pub want : Want
  pub name : Option Extent
  pub deep : ℕ

abbrev pub takes_value : Want → Bool
takes_value Value = true
takes_value FirstValue = true
takes_value _ = false

abbrev pub takes_name : Want → Bool
takes_name Name = true
takes_name FirstName = true
takes_name _ = false

-- what may come after an opening one
abbrev pub first_of : Shape → Want
first_of Array = FirstValue
first_of Object = FirstName

-- whether this one may be closed now
abbrev pub closes : Shape → Level → Want → Bool
closes Array (Inside Array) Next = true
closes Array (Inside Array) FirstValue = true
closes Object (Inside Object) Next = true
closes Object (Inside Object) FirstName = true
closes _ _ _ = false

-- what may come after a comma
abbrev pub after_comma : Level → Want → Option Want
after_comma (Inside Array) Next = Some Value
after_comma (Inside Object) Next = Some Name
after_comma _ _ = None

abbrev pub kind_of_shape : Shape → Kind
kind_of_shape Array = kinds.Array
kind_of_shape Object = kinds.Object

-- one more child
abbrev pub with_child : Open → Open
with_child o = record o { children = o.children + 1 }

abbrev pub run_at : ℕ → ℕ → Extent
run_at p n = record { start = p; len = n }

-- how the next value lies in the innermost open container
abbrev pub label_at : Level → ℕ → Option Extent → Label
label_at Root n name = Top
label_at (Inside Array) n name = Index n
label_at (Inside Object) n (Some x) = Named x
label_at (Inside Object) n None = Top

abbrev pub label_for : Open → Option Extent → Label
label_for o name = label_at o.level o.children name

-- a value that holds no other
abbrev pub put_leaf : Extent → Kind → List Entry → List Open → Want → Option Extent → ℕ → Option State
put_leaf x kind es [] w name d = None
put_leaf x kind es (o ∷ os) w name d = cond (takes_value w)
    (Some (record { entries = es ++ record { kind = kind; role = role_of (label_for o name); label = label_spot (label_for o name); source = x; up = o.entry; children = 0; after = length es + 1 } ∷ []; opens = with_child o ∷ os; want = Next; name = None; deep = d }))
    None

-- an entry whose length, children and end are not known yet
abbrev pub put_open : Shape → ℕ → List Entry → List Open → Want → Option Extent → ℕ → Option State
put_open shape p es [] w name d = None
put_open shape p es (o ∷ os) w name d = cond (takes_value w)
    (Some (record { entries = es ++ record { kind = kind_of_shape shape; role = role_of (label_for o name); label = label_spot (label_for o name); source = run_at p 0; up = o.entry; children = 0; after = 0 } ∷ []; opens = record { level = Inside shape; entry = length es; children = 0 } ∷ with_child o ∷ os; want = first_of shape; name = None; deep = max d (length (o ∷ os)) }))
    None

-- the entry of a container that is closed at p
abbrev pub closed : ℕ → ℕ → ℕ → Entry → Entry
closed p children after e = record { kind = e.kind; role = e.role; label = e.label; source = run_at e.source.start (p + 1 - e.source.start); up = e.up; children = children; after = after }

-- the entry at i, changed
abbrev pub change_at : List Entry → ℕ → (Entry → Entry) → List Entry
change_at [] i f = []
change_at (e ∷ es) zero f = f e ∷ es
change_at (e ∷ es) (suc i) f = e ∷ change_at es i f

abbrev pub put_close : Shape → ℕ → List Entry → List Open → Want → Option Extent → ℕ → Option State
put_close shape p es [] w name d = None
put_close shape p es (o ∷ []) w name d = None
put_close shape p es (o ∷ o' ∷ os) w name d = cond (closes shape o.level w)
    (Some (record { entries = change_at es o.entry (closed p o.children (length es)); opens = o' ∷ os; want = Next; name = None; deep = d }))
    None

abbrev pub put_comma : List Entry → List Open → Option Want → ℕ → Option State
put_comma es os None d = None
put_comma es os (Some w) d = Some (record { entries = es; opens = os; want = w; name = None; deep = d })

abbrev pub level_of : List Open → Level
level_of [] = Root
level_of (o ∷ os) = o.level

abbrev pub is_colon : Want → Bool
is_colon Colon = true
is_colon _ = false

abbrev pub put_text : Extent → List Entry → List Open → Want → Option Extent → ℕ → Option State
put_text x es os w name d = cond (takes_name w)
    (Some (record { entries = es; opens = os; want = Colon; name = Some x; deep = d }))
    (put_leaf x kinds.Text es os w name d)

-- one token, or none where it may not come
abbrev pub step : Token → State → Option State
step (Opening shape p) s = put_open shape p s.entries s.opens s.want s.name s.deep
step (Closing shape p) s = put_close shape p s.entries s.opens s.want s.name s.deep
step Comma s = put_comma s.entries s.opens (after_comma (level_of s.opens) s.want) s.deep
step Between s = cond (is_colon s.want) (Some (record { entries = s.entries; opens = s.opens; want = Value; name = s.name; deep = s.deep })) None
step (Text x) s = put_text x s.entries s.opens s.want s.name s.deep
step (Word x kind) s = put_leaf x kind s.entries s.opens s.want s.name s.deep

-- before the first token
abbrev pub root : ℕ → Open
root n = record { level = Root; entry = 0; children = n }

abbrev pub start : State
start = record { entries = []; opens = root 0 ∷ []; want = Value; name = None; deep = 0 }

-- the counts are no larger than n
abbrev pub AreSmall : ℕ → List Open → Type 0
AreSmall n [] = Unit {0}
AreSmall n (o ∷ os) = (o.children ≤ n) × AreSmall n os

pub record IsSmall (n : ℕ) (s : State) : Type 0 where
  pub entries : length s.entries ≤ n
  pub opens : AreSmall n s.opens

-- a call of the builder did what the machine does, unless memory ran out
abbrev pub Took : {A : Type 0} → Option State → Result A BuildFault → State → Type 0
Took next (Ok x) new = next ≡ Some new
Took next (Err NotJson) new = next ≡ None
Took next (Err Memory) new = Unit {0}
