-- The order of names: by the scalar values, and by a hash before these.
use Rattle.std.specs.Prelude.{ℕ, ◌*◌, ◌/◌, ◌%◌, ◌^◌, List}
use Rattle.std.specs.Ordering.{nat_cmp, on, then_cmp}
use Rattle.std.specs.declared.cmp.Ordering.{Ordering}
use Rattle.std.specs.Cmp.Lexicographic.{slice_cmp}
use Rattle.std.specs.Str.{chars}
use Rattle.json_strings.specs.Spelling.{scalars_in}
use Rattle.json_strings.specs.declared.sought.Sought.{Sought}
use Rattle.json_strings.specs.declared.sought.Sought.TheVariants.{Spelt, Meant}
use Rattle.json_strings.specs.Hashes.{hash_of}

-- the high half of a hash times a number
unfoldable pub mixed : ℕ → ℕ
mixed h = (h * 0x9E3779B97F4A7C15) % (2 ^ 64) / 2 ^ 32

-- the high half of a hash times the factor
unfoldable pub spread : (factor hash : ℕ) → ℕ
spread factor hash = (hash * factor) % (2 ^ 64) / 2 ^ 32

-- No fact of a text rests on which hash it is, nor on the factor.
abbrev pub name_hash : (factor : ℕ) → List ℕ → ℕ
name_hash factor cs = spread factor (hash_of factor cs)

abbrev pub name_cmp : List ℕ → List ℕ → Ordering
name_cmp = slice_cmp nat_cmp

abbrev pub hashed_cmp : (factor : ℕ) → List ℕ → List ℕ → Ordering
hashed_cmp factor = then_cmp (on (name_hash factor) nat_cmp) name_cmp

-- the name that is looked for
abbrev pub sought_name : Sought → List ℕ
sought_name (Spelt inside) = scalars_in (chars inside.now)
sought_name (Meant name) = name.now

-- a member: the number of its value, and what its name means
pub record Keyed : Type 0 where
  pub number : ℕ
  pub name : List ℕ

abbrev pub key_number : Keyed → ℕ
key_number x = x.number

abbrev pub key_name : Keyed → List ℕ
key_name x = x.name

abbrev pub key_hash : (factor : ℕ) → Keyed → ℕ
key_hash factor x = name_hash factor x.name
