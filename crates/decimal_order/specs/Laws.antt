-- Laws that the definitions of numbers have to meet.
use Rattle.std.specs.Prelude.{◌≡◌, ℕ, ◌+◌, ◌<◌, ◌≤◌, ◌^◌, ◌⊎◌, ◌↔◌, ◌≤ℤ◌, List, length, get_or, false, pos, is_some, IsTrue}
use Rattle.std.specs.Cmp.{IsTotalOrder}
use Rattle.std.specs.Fmt.{decimal}
use Rattle.std.specs.declared.cmp.Ordering.TheVariants.{Equal}
use Rattle.decimal_order.specs.Number.{IsNumber}
use Rattle.decimal_order.specs.Value.{Value, value, is_e}
use Rattle.decimal_order.specs.Order.{scaled, value_cmp, number_cmp}
use Rattle.decimal_order.specs.Limits.{IsWithinLimits, length_limit, short_length}
use Rattle.decimal_order.specs.Parts.{Parts, HasParts, parts_value}
use Rattle.decimal_order.specs.Reading.{read}

-- v is at most w
abbrev pub IsAtMost : Value → Value → Type 0
IsAtMost v w = scaled v w ≤ℤ scaled w v

-- a total order on values, in which those that it calls equal stand for each other
pub record OrdersValues : Type 0 where
  pub transitive : (u v w : Value) → IsAtMost u v → IsAtMost v w → IsAtMost u w
  pub total : (v w : Value) → IsAtMost v w ⊎ IsAtMost w v
  pub antisymmetric : (v w : Value) → IsAtMost v w → IsAtMost w v → value_cmp v w ≡ Equal
  pub values : IsTotalOrder value_cmp
  pub numbers : IsTotalOrder number_cmp

-- a number falls into its parts in one way, which a reader from left to right finds, and its value is that of its parts
pub record ReadsOneWay : Type 0 where
  pub has_parts : (text : List ℕ) → IsNumber text ↔ ((p : Parts) × HasParts text p)
  pub one_way : (text : List ℕ) (p q : Parts) → HasParts text p → HasParts text q → p ≡ q
  pub is_read : (text : List ℕ) → IsTrue (is_some (read text)) ↔ IsNumber text
  pub value_of_parts : (text : List ℕ) (p : Parts) → HasParts text p → value text ≡ parts_value p

-- the decimal text of a whole number is a number within the limits, and of that value
abbrev pub WritesWholeNumbers : Type 0
WritesWholeNumbers = (n : ℕ) → n < 2 ^ 64 → IsNumber (decimal n) × IsWithinLimits (decimal n) × (value (decimal n) ≡ record { coefficient = pos n; exponent = pos 0 })

-- a text of few bytes keeps the limits where no e stands before its last ten bytes
abbrev pub LateExponentsKeepLimits : Type 0
LateExponentsKeepLimits = (text : List ℕ) (front : ℕ) → length text ≤ length_limit → length text ≤ front + short_length → ((k : ℕ) → k < front → is_e (get_or text k 0) ≡ false) → IsWithinLimits text
