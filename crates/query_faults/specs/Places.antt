-- Where a place lies in a query.
use Rattle.std.specs.Prelude.{ℕ, ◌≤◌, IfSome, Option}
use Rattle.text_faults.specs.declared.findings.Finding.{Finding}

-- the place, if there is one, has no more bytes before it than so many
abbrev pub IsWithin : Option Finding → ℕ → Type 0
IsWithin found n = IfSome found (λ (f : Finding). IfSome f.at (λ at. at ≤ n))
