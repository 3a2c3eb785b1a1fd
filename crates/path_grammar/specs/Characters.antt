-- Texts and the classes of their characters (RFC 9535, sections 2.1.1, 2.3.1.1, 2.4 and 2.5.1.1). A text is a list of scalar values.
use Rattle.std.specs.Prelude.{ℕ, List, ◌++◌, Bool, ◌&&◌, ◌||◌, ◌==◌, nat_le, nat_lt, IsTrue}
use Rattle.std.specs.List.{list_all}

abbrev pub Text : Type 0
Text = List ℕ

abbrev pub is_between : ℕ → ℕ → ℕ → Bool
is_between low high c = nat_le low c && nat_le c high

abbrev pub is_blank : ℕ → Bool
is_blank c = c == 0x20 || c == 0x09 || c == 0x0A || c == 0x0D

abbrev pub is_digit : ℕ → Bool
is_digit = is_between 0x30 0x39

-- name-first: a letter, `_`, or any scalar value past ASCII
abbrev pub is_first : ℕ → Bool
is_first c = is_between 0x41 0x5A c || is_between 0x61 0x7A c || c == 0x5F || is_between 0x80 0xD7FF c || is_between 0xE000 0x10FFFF c

abbrev pub is_ascii : ℕ → Bool
is_ascii c = nat_lt c 0x80

-- function-name-first: LCALPHA
abbrev pub is_lower : ℕ → Bool
is_lower = is_between 0x61 0x7A

-- function-name-char
abbrev pub is_function : ℕ → Bool
is_function c = is_lower c || c == 0x5F || is_digit c

-- unescaped: no control character, no quote of either kind, no backslash
abbrev pub is_plain : ℕ → Bool
is_plain c = is_between 0x20 0x21 c || is_between 0x23 0x26 c || is_between 0x28 0x5B c || is_between 0x5D 0xD7FF c || is_between 0xE000 0x10FFFF c

-- S: any number of blanks
abbrev pub Blanks : Text → Type 0
Blanks t = IsTrue (list_all is_blank t)

-- two texts with blanks around what is between them
abbrev pub spaced : Text → Text → Text → Text → Text → Text
spaced t b middle c u = t ++ (b ++ (middle ++ (c ++ u)))
