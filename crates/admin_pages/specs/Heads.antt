-- What a request's head asks (RFC 9112, sections 3.2 and 6; RFC 9110, section 15.5).
use Rattle.std.specs.Prelude.{ℕ, ◌==◌, ◌&&◌, ◌||◌, not, Bool, List, map, codes, nat_lt, if◌then◌else◌, Result, Ok, Err}
use Rattle.std.specs.List.{count_by, list_any}
use Rattle.std.specs.Str.{bytes_eq, str_eq_ignore_ascii_case}
use Rattle.httparse.specs.Grammar.{RequestHead}
use Rattle.httparse.specs.Spans.{name_and_value}
use Rattle.admin_pages.specs.declared.heads.Reading.{Reading}
use Rattle.admin_pages.specs.declared.heads.Reading.TheVariants.{Part, Asked, Refused}
use Rattle.admin_pages.specs.declared.routes.AdminRequest as asked
use Rattle.admin_pages.specs.declared.routes.Refusal.{Refusal}
use Rattle.admin_pages.specs.declared.routes.Refusal.TheVariants.{BadRequest, Forbidden, HasBody}
use Rattle.admin_pages.specs.Hosts.{is_elsewhere, is_host}
use Rattle.admin_pages.specs.Routes.{route}

-- a field that announces a body, if only an empty chunked one
abbrev pub brings_body : (name value : List ℕ) → Bool
brings_body name value =
    str_eq_ignore_ascii_case name (codes "transfer-encoding")
    || (str_eq_ignore_ascii_case name (codes "content-length") && not (bytes_eq value (codes "0")))

-- a field is its name and its value
abbrev pub field_is_host : List ℕ × List ℕ → Bool
field_is_host field = is_host field.0

abbrev pub field_brings_body : List ℕ × List ℕ → Bool
field_brings_body field = brings_body field.0 field.1

abbrev pub field_is_elsewhere : (own : List (List ℕ)) → List ℕ × List ℕ → Bool
field_is_elsewhere own field = is_elsewhere own field.0 field.1

abbrev pub reading_of : Result asked.AdminRequest Refusal → Reading
reading_of (Ok it) = Asked it
reading_of (Err refusal) = Refused refusal

-- exactly one Host, in HTTP/1.0 at most one
abbrev pub has_bad_host : (minor hosts : ℕ) → Bool
has_bad_host minor hosts = nat_lt 1 hosts || (hosts == 0 && not (minor == 0))

abbrev pub judged_of : (minor hosts : ℕ) → (is_elsewhere has_body : Bool) → (method target : List ℕ) → Reading
judged_of minor hosts is_elsewhere has_body method target =
    if has_bad_host minor hosts then Refused BadRequest
    else if is_elsewhere then Refused Forbidden
    else if has_body then Refused HasBody
    else reading_of (route method target)

-- what a head comes to, at a server that was given these names
abbrev pub judged : (own : List (List ℕ)) → RequestHead → Reading
judged own h =
    judged_of h.minor (count_by field_is_host (map name_and_value h.fields)) (list_any (field_is_elsewhere own) (map name_and_value h.fields))
    (list_any field_brings_body (map name_and_value h.fields)) h.method h.target

-- P, where the head is not whole
abbrev pub OnPart : Reading → Type 0 → Type 0
OnPart Part P = P
OnPart (Asked it) P = Unit {0}
OnPart (Refused refusal) P = Unit {0}
