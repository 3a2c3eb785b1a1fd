-- What a method and a target ask: this project's own.
use Rattle.std.specs.Prelude.{ℕ, ◌+◌, ◌-◌, ◌*◌, ◌&&◌, Bool, List, [], ◌∷◌, take, drop, length, nat_lt, nat_le, if◌then◌else◌, codes, Option, Some, None, Result, Ok, Err}
use Rattle.std.specs.Char.{is_ascii_digit}
use Rattle.std.specs.Str.{bytes_eq}
use Rattle.admin_pages.specs.declared.routes.AdminRequest.TheVariants as asked
use Rattle.admin_pages.specs.declared.routes.AdminRequest.{AdminRequest}
use Rattle.admin_pages.specs.declared.routes.Refusal.{Refusal}
use Rattle.admin_pages.specs.declared.routes.Refusal.TheVariants.{BadRequest, NotFound, GetOnly, PostOnly, GetOrPostOnly}
use Rattle.admin_pages.specs.declared.routes.Target.{Target}
use Rattle.admin_pages.specs.declared.routes.Target.TheVariants.{Health, Ready, Metrics, Drain, BadGrace, Elsewhere}

-- the number that decimal digits spell behind others, at most a day in seconds
abbrev pub seconds_from : ℕ → List ℕ → Option ℕ
seconds_from seconds [] = Some seconds
seconds_from seconds (digit ∷ digits) =
    if is_ascii_digit digit && nat_le (seconds * 10 + (digit - 48)) 86400 then seconds_from (seconds * 10 + (digit - 48)) digits else None

abbrev pub grace : Option ℕ → Target
grace (Some seconds) = Drain seconds
grace None = BadGrace

abbrev pub grace_of : List ℕ → Target
grace_of digits = grace (seconds_from 0 digits)

-- the page with this path; open connections have 30 seconds where no grace is named
abbrev pub target_of : List ℕ → Target
target_of target =
    if bytes_eq target (codes "/health") then Health
    else if bytes_eq target (codes "/ready") then Ready
    else if bytes_eq target (codes "/metrics") then Metrics
    else if bytes_eq target (codes "/drain") then Drain 30
    else if nat_lt 13 (length target) && bytes_eq (take 13 target) (codes "/drain?grace=") then grace_of (drop 13 target)
    else Elsewhere

-- by whether the method is GET, and whether it is POST
abbrev pub asked_of : (is_get is_post : Bool) → Target → Result AdminRequest Refusal
asked_of is_get is_post Health = if is_get then Ok asked.Health else Err GetOnly
asked_of is_get is_post Ready = if is_get then Ok asked.Ready else if is_post then Ok asked.SayReady else Err GetOrPostOnly
asked_of is_get is_post Metrics = if is_get then Ok asked.Metrics else Err GetOnly
asked_of is_get is_post (Drain seconds) = if is_post then Ok (asked.Drain seconds) else Err PostOnly
asked_of is_get is_post BadGrace = if is_post then Err BadRequest else Err PostOnly
asked_of is_get is_post Elsewhere = Err NotFound

abbrev pub route : (method target : List ℕ) → Result AdminRequest Refusal
route method target = asked_of (bytes_eq method (codes "GET")) (bytes_eq method (codes "POST")) (target_of target)
