-- The members of wide objects, kept one object after the other.
use Rattle.json_text.proofs.Names.{◌≡◌, ℕ, zero, suc, ◌+◌, ◌<◌, ◌≤◌, true, inl, inr, List, [], ◌∷◌, ◌++◌, length, get_or, sym}
use Rattle.json_text.proofs.Names.{subst, arith, cases_lt, All, All-from_recursion}
use Rattle.name_order.proofs.Names.{Less, IsOrderOf, AreKept, Order, Entry, members_in}
use Rattle.name_order.specs.Orders.{Kept}
use Rattle.std.proofs.lemmas.List.Elements.{All-push, All-weaker, Contains-append_left, Contains-push}
use Rattle.std.specs.List.Sorted.{IsStrictlySortedBy}
use Rattle.std.specs.declared.cmp.Ordering.{Ordering}
use Rattle.json_text.specs.declared.tape.Kind.{Kind}
use Rattle.json_text.specs.declared.tape.Kind.TheVariants as kinds
use Rattle.tape_cells.specs.Cells.{is_object}
use Rattle.tape_cells.proofs.WideObjects.{object_members}

-- what is strictly in order, by two places
pub in_order : {K : Type 0} (order : K → K → Ordering) (xs : List K) (d : K) → IsStrictlySortedBy order xs → (j k : ℕ) → j < k → k < length xs → order (get_or xs j d) (get_or xs k d) ≡ Less
unfolding IsStrictlySortedBy
in_order order (x ∷ xs) d s zero (suc k) h l = All-from_recursion (λ y. order x y ≡ Less) xs s.0 k d (omega arith)
in_order order (x ∷ xs) d s (suc j) (suc k) h l = in_order order xs d s.1 j k (omega arith) (omega arith)
in_order order _ d s j _ h l = absurd (omega arith)

-- ---- One object more

module _ (text : List ℕ) (tape : List Entry) where
  pub kept_more : (n : ℕ) (kept new : Kept) (words : List ℕ) → AreKept text tape n kept → IsOrderOf kept.factor text tape n words
      → new ≡ record { factor = kept.factor; orders = kept.orders ++ record { object = n; words = words } ∷ [] } → AreKept text tape (n + 1) new
  kept_more n kept new words k o e = subst (AreKept text tape (n + 1)) (sym e) (record {
    each = All-push (Keeps (n + 1)) kept.orders one (All-weaker (Keeps n) (Keeps (n + 1)) (λ x h. (omega arith, h.1)) kept.orders k.each) (omega arith, o);
    all = λ m h w. elim (cases_lt m n) [
      | inl g ↦ (let (x, c, f) = k.all m g w in (x, Contains-append_left kept.orders (one ∷ []) x c, f))
      | inr g ↦ (one, Contains-push kept.orders one, omega arith)
    ];
  }) where
    Keeps : ℕ → Order → Type 0
    Keeps below x = (x.object < below) × IsOrderOf kept.factor text tape x.object x.words

    one : Order
    one = record { object = n; words = words }

  pub objects_before : (n : ℕ) (kept : Kept) → AreKept text tape n kept → All (λ (o : Order). o.object < n) kept.orders
  objects_before n kept k i d l = (k.each i d l).0

-- what the number of its members tells of an object
object_kind : (kind : Kind) → is_object kind ≡ true → kind ≡ kinds.Object
object_kind kind h = grind arith

pub members_are : (e : Entry) → 0 < members_in e → (e.kind ≡ kinds.Object) × (members_in e ≡ e.children)
members_are e h = grind arith

pub few_members : (e : Entry) (members : ℕ) → members ≡ members_in e → members ≤ 1 → (e.kind ≡ kinds.Object) × (1 < e.children) → ⊥
few_members e members m l w = let q = object_members e w.0 in let h = w.1 in omega arith
