-- Each slot is that of one query, or of one condition.
use Rattle.std.specs.Prelude.{◌≡◌, ℕ, Some, IsTrue}
use Rattle.decisions.specs.Decided.{is_told_on}
use Rattle.query_plan.specs.Planned.{Claims, no_claims, claim, told, both, look, nested_view}
use Rattle.query_plan.specs.declared.plan.Nested.{Nested, out-Nested}

-- what has a slot is what is found under its number, and conditions are told on their scales
abbrev pub AreClaimed : Claims → Claims → Type 0
AreClaimed table no_claims = Unit {0}
AreClaimed table (claim slot c) = look table slot ≡ Some c
AreClaimed table (told s e) = IsTrue (is_told_on s e)
AreClaimed table (both a b) = AreClaimed table a × AreClaimed table b

-- the query with this slot
pub record HasSlot (table : Claims) (slot : ℕ) (q : Nested) : Type 0 where
  pub same : (out-Nested q).slot ≡ Some slot
  pub claimed : AreClaimed table (nested_view q).claims
