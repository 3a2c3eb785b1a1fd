-- The orders of objects, where the words of all stand in one list.
use Rattle.json_text.proofs.Names.{◌≡◌, ℕ, ◌+◌, ◌-◌, ◌<◌, ◌≤◌, inl, inr, Ok, Err, List, [], ◌∷◌, ◌++◌, length, take, drop, get_or, refl, sym, ap}
use Rattle.json_text.proofs.Names.{◌∙◌, arith, length-append, All, AllByRecursion, Contains, nat_cmp, cases_lt, nat_tests, length-map}
use Rattle.json_text.proofs.Names.{length-drop, drop_at, take_all, get_or-map, get_or_default, recursion_from_All}
use Rattle.std.specs.List.Sorted.{IsNonDecreasingBy, IsBinarySearchResult}
use Rattle.std.specs.Ordering.{ordering_index}
use Rattle.std.specs.declared.cmp.Ordering.TheVariants.{Equal}
use Rattle.std.proofs.lemmas.Cmp.{ranked}
use Rattle.std.proofs.lemmas.List.{take-append-le, drop-append-le, map_push}
use Rattle.std.proofs.lemmas.List.Elements.{All-push}
use Rattle.std.proofs.lemmas.List.Sorted.{IsNonDecreasingBy-push}
use Rattle.name_order.specs.Orders.{Order, no_order, part, order_in, orders_of, AreOrders}
use Rattle.name_order.specs.declared.orders.Header.{Header}

part_left : (start n : ℕ) (xs ys : List ℕ) → start + n ≤ length xs → part start n (xs ++ ys) ≡ part start n xs
part_left start n xs ys h = ap (take n) (drop-append-le start xs ys (omega arith)) ∙ take-append-le n (drop start xs) ys (let l = length-drop start xs in omega arith)

-- what was added is the part that begins where the list ended
part_right : (start n : ℕ) (xs ys : List ℕ) → length xs ≡ start → length ys ≡ n → part start n (xs ++ ys) ≡ ys
part_right start n xs ys e f = ap (take n) (drop_at xs ys start e) ∙ take_all n ys (omega arith)

-- a part that was read as a slice
pub sliced : (start n : ℕ) (ys xs : List ℕ) → ys ≡ xs → take (start + n - start) (drop start ys) ≡ part start n xs
sliced start n ys xs e = let z : start + n - start ≡ n = omega arith in rw (e, z) refl

abbrev IsInside : List ℕ → Header → Type 0
IsInside words h = h.start + h.count ≤ length words

-- more words do not change the orders
orders_kept : (words more : List ℕ) (headers : List Header) → AllByRecursion (IsInside words) headers → orders_of headers (words ++ more) ≡ orders_of headers words
orders_kept words more [] h = refl
orders_kept words more (x ∷ headers) h = rw (part_left x.start x.count words more h.0, orders_kept words more headers h.1) refl

module _ (headers : List Header) (words more : List ℕ) (are : AreOrders headers words) where
  pub still_orders : AreOrders headers (words ++ more)
  still_orders = grind (arith, length-append)

  same_orders : orders_of headers (words ++ more) ≡ orders_of headers words
  same_orders = orders_kept words more headers (recursion_from_All (IsInside words) headers are.inside)

-- one object more
module _ (headers : List Header) (words new : List ℕ) (orders : List Order) (are : AreOrders headers words) (shown : orders_of headers words ≡ orders) (h : Header) (start : h.start ≡ length words) (long : length new ≡ h.count) where
  pub one_more : All (λ (o : Order). o.object < h.object) orders → AreOrders (headers ++ h ∷ []) (words ++ new)
  one_more behind = record {
    rising = IsNonDecreasingBy-push (λ (x : Header). x.object) headers h are.rising (λ d l.
        (let k : length orders ≡ length headers = sym (ap length shown) ∙ length-map headers (order_in words) in let last = length headers - 1 in
        let e : get_or orders last no_order ≡ order_in words (get_or headers last d) = sym (ap (λ os. get_or os last no_order) shown) ∙ get_or-map (order_in words) headers last d no_order (omega arith) in
        let b = behind last no_order (omega arith) in let q = ap (λ (o : Order). o.object) e in omega (arith, b, q)));
    inside = All-push (IsInside (words ++ new)) headers h (still_orders headers words new are).inside (let a = length-append words new in omega arith);
  }

  pub one_shown : orders_of (headers ++ h ∷ []) (words ++ new) ≡ orders ++ record { object = h.object; words = new } ∷ []
  one_shown = grind (arith, map_push, same_orders, part_right)

-- the order at a place
module _ (headers : List Header) (words : List ℕ) (orders : List Order) (shown : orders_of headers words ≡ orders) where
  orders_many : length headers ≡ length orders
  orders_many = sym (length-map headers (order_in words)) ∙ ap length shown

  order_at : (at : ℕ) (h : Header) → at < length orders → h ≡ get_or headers at h → get_or orders at no_order ≡ order_in words h
  order_at at h l read = grind (arith, get_or-map, orders_many)

  module _ (object : ℕ) where
    -- an object that is found, with the parts of the words that were read
    pub found : (at : ℕ) → at < length headers → IsBinarySearchResult (λ (h : Header). nat_cmp h.object object) headers (Ok at) → (h : Header) → h ≡ get_or headers at h → (ws : List ℕ) → ws ≡ part h.start h.count words
        → Contains orders (record { object = object; words = ws })
    found at l b h read ws e =
        let same : h.object ≡ object = ranked h.object object Equal (sym (ap (λ (x : Header). nat_cmp x.object object) read ∙ b h)) in
        (at, omega (arith, orders_many, l), get_or_default orders at _ no_order (omega (arith, orders_many, l)) ∙ order_at at h (omega (arith, orders_many, l)) read ∙ rw (same, e) refl)

    -- an object that is not found is none of these
    pub absent : AreOrders headers words → (at : ℕ) → IsBinarySearchResult (λ (h : Header). nat_cmp h.object object) headers (Err at) → (o : Order) → Contains orders o → o.object ≡ object → ⊥
    absent are at b o (k, l, e) q = let h = get_or headers k none in let i : k < length headers = omega (arith, orders_many, l) in
        let here : h.object ≡ object = ap (λ (x : Order). x.object) (sym (order_at k h l (get_or_default headers k none h i)) ∙ get_or_default orders k no_order o l ∙ e) ∙ q in
        let parted = b rising in elim (cases_lt k at) [ inl g ↦ grind (arith, ranked, none) | inr g ↦ grind (arith, ranked, none) ]
      where
        none : Header
        none = record { object = 0; count = 0; start = 0 }

        rising : IsNonDecreasingBy (λ (h : Header). ordering_index (nat_cmp h.object object)) headers
        rising i j d le l = grind (arith, nat_tests)
