-- How long a reply may be: this project's own limit.
use Rattle.std.specs.Prelude.{ℕ, ◌-◌}

-- the most bytes of a reply's body
abbrev pub longest_reply : ℕ
longest_reply = 8388608

-- the most bytes of a payload: those of a reply's body without the status and the request's number
abbrev pub payload_limit : ℕ
payload_limit = longest_reply - 5
