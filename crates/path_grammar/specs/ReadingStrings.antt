-- Reading strings in quotes from left to right.
use Rattle.std.specs.Prelude.{ℕ, zero, suc, ◌+◌, ◌-◌, ◌*◌, List, [], ◌∷◌, length, ◌||◌, ◌==◌, nat_lt, if◌then◌else◌, Option, Some, None}
use Rattle.std.specs.Char.Utf16.{surrogate_pair_char}
use Rattle.path_grammar.specs.Characters.{Text, is_between, is_digit, is_plain}
use Rattle.path_grammar.specs.Reading.{Reader, ◌>>=◌, behind}

unfoldable pub hex_of : ℕ → Option ℕ
hex_of c =
    if is_digit c then Some (c - 0x30)
    else if is_between 0x41 0x46 c then Some (c - 0x37)
    else if is_between 0x61 0x66 c then Some (c - 0x57)
    else None

unfoldable pub hex_at : Reader ℕ
hex_at [] = None
hex_at (c ∷ t) = hex_of c >>= λ n. Some (n, t)

unfoldable pub unit_at : Reader ℕ
unit_at t = do
  i ← hex_at t
  j ← hex_at i.1
  k ← hex_at j.1
  l ← hex_at k.1
  Some (0x1000 * i.0 + 0x100 * j.0 + 0x10 * k.0 + l.0, l.1)

-- the second half of a pair
unfoldable pub low_at : ℕ → Reader ℕ
low_at high t = do
  u ← behind 0x5C t
  v ← behind 0x75 u
  x ← unit_at v
  if is_between 0xDC00 0xDFFF x.0 then Some (surrogate_pair_char high x.0, x.1) else None

-- a unit that stands for itself, or the first half of a pair
unfoldable pub whole_at : ℕ → Reader ℕ
whole_at u t =
    if nat_lt u 0xD800 || nat_lt 0xDFFF u then Some (u, t)
    else if nat_lt u 0xDC00 then low_at u t
    else None

unfoldable pub unicode_at : Reader ℕ
unicode_at t = do
  x ← unit_at t
  whole_at x.0 x.1

unfoldable pub short_of : ℕ → Option ℕ
short_of c =
    if c == 0x62 then Some 0x08
    else if c == 0x66 then Some 0x0C
    else if c == 0x6E then Some 0x0A
    else if c == 0x72 then Some 0x0D
    else if c == 0x74 then Some 0x09
    else if c == 0x2F then Some 0x2F
    else if c == 0x5C then Some 0x5C
    else None

unfoldable pub escape_at : ℕ → Reader ℕ
escape_at quote [] = None
escape_at quote (c ∷ t) =
    if c == quote then Some (quote, t)
    else if c == 0x75 then unicode_at t
    else (short_of c >>= λ v. Some (v, t))

unfoldable pub character_at : ℕ → ℕ → Reader ℕ
character_at quote other [] = None
character_at quote other (c ∷ t) =
    if c == 0x5C then escape_at quote t
    else if is_plain c || c == other then Some (c, t)
    else None

-- the characters up to the quote that closes
unfoldable pub inside_step : ℕ → ℕ → Reader (List ℕ) → Text → Option Text → Option (List ℕ × Text)
inside_step quote other others t (Some u) = Some ([], u)
inside_step quote other others t None = do
  x ← character_at quote other t
  xs ← others x.1
  Some (x.0 ∷ xs.0, xs.1)

unfoldable pub inside_at : ℕ → ℕ → ℕ → Reader (List ℕ)
inside_at quote other zero t = None
inside_at quote other (suc n) t = inside_step quote other (inside_at quote other n) t (behind quote t)

unfoldable pub string_at : Reader (List ℕ)
string_at [] = None
string_at (c ∷ t) =
    if c == 0x22 then inside_at 0x22 0x27 (length t) t
    else if c == 0x27 then inside_at 0x27 0x22 (length t) t
    else None
