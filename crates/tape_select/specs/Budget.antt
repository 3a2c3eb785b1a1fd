-- How much a query may be charged.
use Rattle.std.specs.Prelude.{ℕ}

-- the most units of a query over all that it is evaluated on
abbrev pub budget : ℕ
budget = 10000000
