-- Which requests a browser may send for a web page of elsewhere (RFC 6454, section 7; Fetch Metadata Request Headers, section 2; RFC 9112, section 3.2).
use Rattle.std.specs.Prelude.{ℕ, ◌==◌, ◌&&◌, ◌||◌, not, Bool, List, map, String, string_bytes, codes, length, take, nat_lt, slice_index}
use Rattle.std.specs.Char.{is_ascii_digit}
use Rattle.std.specs.List.{list_all, list_any}
use Rattle.std.specs.Str.{bytes_eq, str_eq_ignore_ascii_case}

abbrev pub is_host : List ℕ → Bool
is_host name = str_eq_ignore_ascii_case name (codes "host")

-- digits, a dot and a colon
abbrev pub stands_in_address : ℕ → Bool
stands_in_address byte = is_ascii_digit byte || (byte == 46 || byte == 58)

-- an address in brackets, or one of digits, with a port or without: no name that a browser would look up
abbrev pub is_address : List ℕ → Bool
is_address value = nat_lt 0 (length value) && (slice_index value 0 == 91 || list_all stands_in_address value)

-- this name, with a port or without
abbrev pub is_named : (value name : List ℕ) → Bool
is_named value name =
    str_eq_ignore_ascii_case value name
    || (nat_lt (length name) (length value)
    && (slice_index value (length name) == 58 && str_eq_ignore_ascii_case (take (length name) value) name))

abbrev pub texts : {A : Type 0} → List (String A) → List (List ℕ)
texts names = map string_bytes names

-- a name that the server was given, unless it is empty
abbrev pub is_given : (value name : List ℕ) → Bool
is_given value name = nat_lt 0 (length name) && is_named value name

-- an address, `localhost`, or one of the names that the server was given
abbrev pub is_own_host : (own : List (List ℕ)) → (value : List ℕ) → Bool
is_own_host own value = is_address value || (is_named value (codes "localhost") || list_any (is_given value) own)

abbrev pub is_own_site : List ℕ → Bool
is_own_site value = bytes_eq value (codes "none") || bytes_eq value (codes "same-origin")

abbrev pub is_elsewhere : (own : List (List ℕ)) → (name value : List ℕ) → Bool
is_elsewhere own name value =
    (is_host name && not (is_own_host own value))
    || (str_eq_ignore_ascii_case name (codes "origin")
    || (str_eq_ignore_ascii_case name (codes "sec-fetch-site") && not (is_own_site value)))
