-- A walk over the places of a text, a token at each: what leads from one point of it to another, and where nothing leads on.
use Rattle.std.specs.Prelude.{◌≡◌, ◌≢◌, ◌<◌, ◌≤◌, ℕ, zero, suc, ◌+◌, Bool, true, false, List, drop, ◌++◌, length, get_or, Option, Some, None, Result, Ok, Err, IsUtf8}
use Rattle.structural_index.specs.Places.{places, IsUnclosed, HasControlInside, HasWrongEscape}
use Rattle.json_text.specs.declared.tape.Kind.TheVariants as kinds
use Rattle.json_text.specs.declared.tape.Extent.{Extent}
use Rattle.json_text.specs.declared.tape.Shape.{Shape}
use Rattle.json_text.specs.declared.tape.Shape.TheVariants.{Array, Object}
use Rattle.json_text.specs.declared.tape.Level.{Level}
use Rattle.json_text.specs.declared.tape.Level.TheVariants.{Root, Inside}
use Rattle.json_text.specs.declared.tape.Want.{Want}
use Rattle.json_text.specs.declared.tape.Want.TheVariants as wants
use Rattle.json_text.specs.declared.tape.BuildFault.{BuildFault}
use Rattle.json_text.specs.declared.tape.BuildFault.TheVariants.{NotJson, Memory}
use Rattle.json_walk.specs.declared.lexing.Lexed.{Lexed}
use Rattle.name_stamps.specs.declared.seen.Quoted.{Quoted}
use Rattle.name_stamps.specs.declared.seen.StampedName.{StampedName}
use Rattle.json_walk.specs.declared.lexing.Lexed.TheVariants as lexed
use Rattle.json_walk.specs.declared.second_stage.Spot.{Spot}
use Rattle.json_text.specs.Machine.{Token, Opening, Text, Word, State, level_of, first_of, takes_value, takes_name}
use Rattle.tape_cells.specs.Built.{Built, standing}
use Rattle.json_text.specs.Tokens.{IsToken, Taken, Refused}
use Rattle.json_walk.specs.Lexing.{Marked}
use Rattle.json_walk.specs.Walking.{weight}
use Rattle.tape_cells.specs.Cells.{is_container}
use Rattle.tape_cells.specs.Opened.{HasRoom}
use Rattle.json_text.specs.Verdict.{text_limit}

-- ---- Tokens

-- the bytes from byte i on begin with this token
pub record TokenAt (text : List ℕ) (i : ℕ) (tok : Token) : Type 0 where
  pub bytes : List ℕ
  pub rest : List ℕ
  pub stands : drop i text ≡ bytes ++ rest
  pub is_token : IsToken i bytes tok rest

abbrev pub begins_value : Token → Bool
begins_value (Opening shape p) = true
begins_value (Text x) = true
begins_value (Word x kind) = true
begins_value _ = false

abbrev pub is_text : Token → Bool
is_text (Text x) = true
is_text _ = false

-- the bytes from byte i on begin with no token that passes the test
abbrev pub NoneAt : (Token → Bool) → List ℕ → ℕ → Type 0
NoneAt such text i = (tok : Token) → TokenAt text i tok → such tok ≡ false

-- a string that may be a name
abbrev pub IsNameAt : List ℕ → ℕ → Option Extent → Type 0
IsNameAt text i (Some x) = TokenAt text i (Text x)
IsNameAt text i None = NoneAt is_text text i

-- the first token of a value
abbrev pub token_of : ℕ → Lexed → Token
token_of i (lexed.Text x) = Text x
token_of i (lexed.Number x) = Word x kinds.Number
token_of i (lexed.Word kind x) = Word x kind
token_of i (lexed.Opens shape) = Opening shape i

-- the bytes of a string, and of a name with its stamp
abbrev pub source_in : Option Quoted → Option Extent
source_in (Some q) = Some q.source
source_in None = None

abbrev pub stamped_source : Option StampedName → Option Extent
stamped_source (Some m) = Some m.source
stamped_source None = None

abbrev pub IsValueAt : List ℕ → ℕ → Option Lexed → Type 0
IsValueAt text i (Some l) = TokenAt text i (token_of i l)
IsValueAt text i None = NoneAt begins_value text i

-- the tape has room for its numbers, and a word holds no other value
abbrev pub FitsTape : Lexed → Type 0
FitsTape (lexed.Text x) = HasRoom x
FitsTape (lexed.Number x) = HasRoom x
FitsTape (lexed.Word kind x) = HasRoom x × (is_container kind ≡ false)
FitsTape (lexed.Opens shape) = Unit {0}

-- what may come behind it
abbrev pub behind : Lexed → Want
behind (lexed.Opens shape) = first_of shape
behind _ = wants.Next

-- where that token ends, and how many looks it may take
abbrev pub end_of : ℕ → Lexed → ℕ
end_of i (lexed.Text x) = i + x.len
end_of i (lexed.Number x) = i + x.len
end_of i (lexed.Word kind x) = i + x.len
end_of i (lexed.Opens shape) = i + 1

abbrev pub price_of : Lexed → ℕ
price_of (lexed.Text x) = x.len + 2
price_of (lexed.Number x) = x.len + 2
price_of (lexed.Word kind x) = x.len + 2
price_of (lexed.Opens shape) = 1

-- ---- Points

-- what holds of a text while it is walked by the list of its places
pub record IsListed (text items : List ℕ) : Type 0 where
  pub list : items ≡ places text
  pub short : length text ≤ text_limit
  pub utf8 : IsUtf8 text
  pub controls : HasControlInside text → ⊥
  pub escapes : HasWrongEscape text → ⊥
  pub closed : IsUnclosed text → ⊥

-- the place with this number, and the byte that stands there
abbrev pub place : List ℕ → ℕ → ℕ
place items k = get_or items k 0

abbrev pub byte_at : (text items : List ℕ) → ℕ → ℕ
byte_at text items k = get_or text (place items k) 0

-- the number of the next place, the machine before it, the looks that are paid for, and whether a number may be beyond the limits
pub record Point : Type 0 where
  pub number : ℕ
  pub state : State
  pub looked : ℕ
  pub exceeds : Bool

abbrev pub point : ℕ → State → ℕ → Bool → Point
point k s looked exceeds = record { number = k; state = s; looked = looked; exceeds = exceeds }

-- the token at the next place leads from one point to the other: it costs at most three looks and one for each of its source bytes
pub record Moves (text items : List ℕ) (a b : Point) : Type 0 where
  pub inside : a.number < length items
  pub end : ℕ
  pub taken : Taken text (place items a.number) end a.state b.state
  pub next : b.number ≡ suc a.number
  pub looks : b.looked ≤ a.looked + 3 + weight taken.tok
  pub marked : Marked text (place items a.number) a.exceeds (Ok end) b.exceeds

-- tokens, one at each place, lead from one point to the other; looks that are paid for need not be taken
pub data Walked (text items : List ℕ) : (a b : Point) → Type 0 where
  stays : {a b : Point} → b.number ≡ a.number → b.state ≡ a.state → b.exceeds ≡ a.exceeds → b.looked ≤ a.looked → Walked text items a b
  moves : {a b c : Point} → Moves text items a b → Walked text items b c → Walked text items a c

-- ---- Where nothing leads on

abbrev pub IsUnfinished : State → Type 0
IsUnfinished s = (level_of s.opens ≡ Root) × (s.want ≡ wants.Next) → ⊥

-- however the next n tokens are taken from place number k on, the value of the text is not complete before or behind them
abbrev pub Outlasts : (text items : List ℕ) (n k : ℕ) (s : State) → Type 0
Outlasts text items zero k s = IsUnfinished s
Outlasts text items (suc n) k s = IsUnfinished s × ((j : ℕ) (s' : State) → k < length items → Taken text (place items k) j s s' → Outlasts text items n (suc k) s')

-- no token can be taken at the point, or too few places are left to complete the text
pub data IsBlocked (text items : List ℕ) (a : Point) : Type 0 where
  refused : a.number < length items → Refused text (place items a.number) a.state → IsBlocked text items a
  few : (n : ℕ) → length items ≤ a.number + n → Outlasts text items n a.number a.state → IsBlocked text items a

-- tokens lead to a point that is blocked, so that the text is no JSON
abbrev pub Halts : (text items : List ℕ) → Point → Type 0
Halts text items a = (b : Point) × Walked text items a b × IsBlocked text items b

-- ---- The calls

-- what may come before the first child of a container, or behind a value
abbrev pub want_at : Bool → Level → Want
want_at true level = wants.Next
want_at false Root = wants.Value
want_at false (Inside shape) = first_of shape

-- the looks that are paid for at a spot: in front of a first child one more, at its place; a sign behind a value has three of its own
abbrev pub paid : Bool → ℕ → ℕ
paid true looked = looked
paid false looked = looked + 1

-- the point of a spot
abbrev pub at : Spot → Built → ℕ → Bool → Point
at spot b looked exceeds = point spot.number (standing b (want_at spot.behind (level_of b.opens)) None) (paid spot.behind looked) exceeds

-- the walk leads to the spot that the call gives; a call that finds no JSON halts, and one without memory says nothing
abbrev pub WalksTo : (text items : List ℕ) → Point → Result Spot BuildFault → Built → ℕ → Bool → Type 0
WalksTo text items a (Ok spot) b looked exceeds = Walked text items a (at spot b looked exceeds)
WalksTo text items a (Err NotJson) b looked exceeds = Halts text items a
WalksTo text items a (Err Memory) b looked exceeds = Unit {0}

-- a value may stand at place number k, which is not the end of an empty array
abbrev pub AsksValue : (text items : List ℕ) (k : ℕ) → Want → Type 0
AsksValue text items k w = (takes_value w ≡ true) × (w ≡ wants.FirstValue → byte_at text items k ≢ 93)

-- a name may stand there, which is not the end of an empty object
abbrev pub AsksName : (text items : List ℕ) (k : ℕ) → Want → Type 0
AsksName text items k w = (takes_name w ≡ true) × (w ≡ wants.FirstName → byte_at text items k ≢ 125)

-- a child of a container of this shape may stand there
abbrev pub AsksChild : (text items : List ℕ) (k : ℕ) → Shape → Want → Type 0
AsksChild text items k Array w = AsksValue text items k w
AsksChild text items k Object w = AsksName text items k w

abbrev pub shape_of : Bool → Shape
shape_of true = Object
shape_of false = Array

-- how many places a child has up to its value's first, and the sign that ends a container
abbrev pub width : Shape → ℕ
width Array = 1
width Object = 3

abbrev pub ending : Shape → ℕ
ending Array = 93
ending Object = 125

-- the sign behind a value, where its entry was made
abbrev pub with_sign : Result (Unit {0}) BuildFault → ℕ → Result (Option ℕ) BuildFault
with_sign (Ok x) sign = Ok (Some sign)
with_sign (Err fault) sign = Err fault

-- no sign behind a container that was opened, and no child in one that was closed
abbrev pub no_more : {A : Type 0} → Result (Unit {0}) BuildFault → Result (Option A) BuildFault
no_more (Ok x) = Ok None
no_more (Err fault) = Err fault

-- what stands behind the first token of a text
abbrev pub is_whole : Lexed → Bool
is_whole (lexed.Opens shape) = false
is_whole _ = true

abbrev pub spot_after : Result (Unit {0}) BuildFault → Lexed → Result Spot BuildFault
spot_after (Ok x) l = Ok (record { number = 1; behind = is_whole l })
spot_after (Err fault) l = Err fault

-- what stands behind a container that was closed at place number k
abbrev pub spot_behind : Result (Unit {0}) BuildFault → ℕ → Result Spot BuildFault
spot_behind (Ok x) k = Ok (record { number = k + 1; behind = true })
spot_behind (Err fault) k = Err fault

-- the walk leads over a name and its colon to place number k
abbrev pub WalksName : (text items : List ℕ) → Point → Built → ℕ → Option Extent → ℕ → Bool → Type 0
WalksName text items a b k (Some x) looked exceeds = Walked text items a (point k (standing b wants.Value (Some x)) looked exceeds)
WalksName text items a b k None looked exceeds = Halts text items a

-- the walk leads over a value, up to the sign at place number k, or into the container that it opens
abbrev pub WalksValue : (text items : List ℕ) → Point → Shape → ℕ → Result (Option ℕ) BuildFault → Built → ℕ → Bool → Type 0
WalksValue text items a shape k (Ok (Some sign)) b looked exceeds =
    Walked text items a (point k (standing b wants.Next None) looked exceeds)
    × (level_of b.opens ≡ Inside shape) × (sign ≡ byte_at text items k) × (k < length items)
WalksValue text items a shape k (Ok None) b looked exceeds = Walked text items a (point k (standing b (want_at false (level_of b.opens)) None) (looked + 1) exceeds) × (level_of b.opens ≡ Root → ⊥)
WalksValue text items a shape k (Err NotJson) b looked exceeds = Halts text items a
WalksValue text items a shape k (Err Memory) b looked exceeds = Unit {0}

-- the walk leads to the place of the next child, or behind the end of the container
abbrev pub WalksInto : (text items : List ℕ) → Point → Shape → ℕ → Result (Option ℕ) BuildFault → Built → ℕ → Bool → Type 0
WalksInto text items a shape next (Ok (Some k)) b looked exceeds =
    (level_of b.opens ≡ Inside shape) × (k ≤ next)
    × ((w : Want) × AsksChild text items k shape w × Walked text items a (point k (standing b w None) looked exceeds))
WalksInto text items a shape next (Ok None) b looked exceeds = Walked text items a (point next (standing b wants.Next None) looked exceeds)
WalksInto text items a shape next (Err NotJson) b looked exceeds = Halts text items a
WalksInto text items a shape next (Err Memory) b looked exceeds = Unit {0}
