-- The beginning that two strings have in common.
use Rattle.std.specs.Prelude.{◌≡◌, ℕ, List, ◌++◌}
use Rattle.std.specs.Str.{chars, IsUtf8}
use Rattle.json_strings.specs.Spelling.{scalars_in, unquoted}

-- the scalar values that bytes with quotes around them mean
abbrev pub meant_by : List ℕ → List ℕ
meant_by bs = scalars_in (chars (unquoted bs))

-- what two strings mean begins alike, and these characters mean what is behind that
abbrev pub HaveRests : (a b left right : List ℕ) → Type 0
HaveRests a b left right = (front : List ℕ) × (meant_by a ≡ front ++ scalars_in (chars left)) × (meant_by b ≡ front ++ scalars_in (chars right))

-- characters end here: what they mean stands before what follows them means
abbrev pub IsSettled : List ℕ → Type 0
IsSettled bs = IsUtf8 bs × ((front : List ℕ) × ((cs : List ℕ) → scalars_in (chars bs ++ cs) ≡ front ++ scalars_in cs))
