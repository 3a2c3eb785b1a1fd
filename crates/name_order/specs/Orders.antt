-- The orders that are kept, one list of words for all, as lists of their own.
use Rattle.std.specs.Prelude.{ℕ, ◌+◌, ◌/◌, ◌%◌, ◌≤◌, List, [], length, map, take, drop}
use Rattle.std.specs.List.{All}
use Rattle.std.specs.List.Sorted.{IsNonDecreasingBy}
use Rattle.name_order.specs.declared.orders.Header.{Header}

-- an object, and its members as words in the order of their names
pub record Order : Type 0 where
  pub object : ℕ
  pub words : List ℕ

abbrev pub no_order : Order
no_order = record { object = 0; words = [] }

-- the orders of a document, and the factor of the hashes in their words
pub record Kept : Type 0 where
  pub factor : ℕ
  pub orders : List Order

-- so many from a place on
abbrev pub part : ℕ → ℕ → List ℕ → List ℕ
part start n xs = take n (drop start xs)

-- the hash of a name and the number of its member, which are one word
unfoldable pub high_half : ℕ → ℕ
high_half word = word / 4294967296

unfoldable pub low_half : ℕ → ℕ
low_half word = word % 4294967296

abbrev pub order_in : List ℕ → Header → Order
order_in words h = record { object = h.object; words = part h.start h.count words }

abbrev pub orders_of : List Header → List ℕ → List Order
orders_of headers words = map (order_in words) headers

-- the objects ascend, and the words of each are there
pub record AreOrders (headers : List Header) (words : List ℕ) : Type 0 where
  pub rising : IsNonDecreasingBy (λ (h : Header). h.object) headers
  pub inside : All (λ (h : Header). h.start + h.count ≤ length words) headers
