-- The orders that a document keeps.
use Rattle.json_text.proofs.Names.{◌≡◌, ℕ, ◌<◌, List, length, sym, subst, Contains, entry_in, IsWide}
use Rattle.std.proofs.lemmas.List.Elements.{All-contains}
use Rattle.json_tape.specs.Document.{Doc, count}
use Rattle.name_order.specs.Ordered.{AreKept, IsOrderOf}
use Rattle.name_order.specs.Orders.{Order, Kept}

-- what was found among the orders of the fields, of the value
module _ (i d : Doc) (e : i ≡ d) (names : Kept) (kept : AreKept i.text i.entries (length i.entries) names) where
  kept_there : AreKept d.text d.entries (length d.entries) names
  kept_there = subst (λ (x : Doc). AreKept x.text x.entries (length x.entries) names) e kept

  pub none_found : (n : ℕ) → n < count d → ((o : Order) → Contains names.orders o → o.object ≡ n → ⊥) → IsWide (entry_in d.entries n) → ⊥
  unfolding count
  none_found n h none w = let (o, c, q) = kept_there.all n h w in none o c q

  pub order_found : (n factor : ℕ) (words : List ℕ) → factor ≡ names.factor → Contains names.orders (record { object = n; words = words }) → IsOrderOf factor d.text d.entries n words
  order_found n factor words f c = subst (λ x. IsOrderOf x d.text d.entries n words) (sym f) (All-contains (λ (o : Order). (o.object < length d.entries) × IsOrderOf names.factor d.text d.entries o.object o.words) names.orders (record { object = n; words = words }) kept_there.each c).1
