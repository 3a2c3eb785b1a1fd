-- The fault of a query is that of the first document that shows one.
use Rattle.std.proofs.Common.{◌≡◌, ◌<◌, ◌≤◌, ◌+◌, ℕ, zero, suc, List, [], ◌∷◌, length, take, Bool, true, false, nat_lt, ◌⊎◌, inl, inr, Some, None, refl, sym, ap, ◌∙◌, arith, length-append}
use Rattle.std.specs.Prelude.{◌↔◌}
use Rattle.std.proofs.lemmas.Bool.{cases_lt}
use Rattle.std.proofs.lemmas.Bool.Decides.{nat_tests}
use Rattle.path_grammar.specs.Tree.{Segments}
use Rattle.tape_select.specs.Budget.{budget}
use Rattle.tape_select.specs.Charge.{total_of, charge}
use Rattle.tenant_map.specs.declared.faults.StoreFault.TheVariants.{ReplyTooLarge, Costly}
use Rattle.store_names.specs.Lengths.{payload_limit}
use Rattle.tenant_store.specs.Payloads.{Text, found_in, found_bytes, query_fault}
use Rattle.tenant_store.specs.FirstFault.{ShowsCostly, QueriesRefuseInOrder}
use Rattle.tenant_store.proofs.Walking.{fault_over, fault_large, fault_next, no_fault_left}
use Rattle.tenant_store.proofs.Single.{OneTree, texts_once}

-- ---- Faults from a document on, where so much was spent and written before it

Over : Segments → (spent : ℕ) → List Text → ℕ → Type 0
Over q spent ts place = (place < length ts) × (budget < spent + total_of (λ t. charge t.tree q) (take (suc place) ts))

Large : Segments → (size : ℕ) → List Text → ℕ → Type 0
Large q size ts place = (place < length ts) × (payload_limit < size + length (found_bytes q (take (suc place) ts)))

OverFirst : Segments → (spent size : ℕ) → List Text → Type 0
OverFirst q spent size ts = (place : ℕ) × Over q spent ts place × ((other : ℕ) → other < place → Large q size ts other → ⊥)

LargeFirst : Segments → (spent size : ℕ) → List Text → Type 0
LargeFirst q spent size ts = (place : ℕ) × Large q size ts place × ((other : ℕ) → other ≤ place → Over q spent ts other → ⊥)

Within : Segments → (spent size : ℕ) → List Text → Type 0
Within q spent size ts = (place : ℕ) → (Over q spent ts place → ⊥) × (Large q size ts place → ⊥)

Decided : Segments → (spent size : ℕ) → List Text → Type 0
Decided q spent size ts =
    ((query_fault q spent size ts ≡ Some Costly) × OverFirst q spent size ts)
    ⊎ (((query_fault q spent size ts ≡ Some ReplyTooLarge) × LargeFirst q spent size ts) ⊎ ((query_fault q spent size ts ≡ None) × Within q spent size ts))

-- ---- One document further

length-found : (q : Segments) (t : Text) (ts : List Text) → length (found_bytes q (t ∷ ts)) ≡ length (found_in q t) + length (found_bytes q ts)
length-found q t ts = length-append (found_in q t) (found_bytes q ts)

over_up : (q : Segments) (spent : ℕ) (t : Text) (ts : List Text) (place : ℕ) → Over q (spent + charge t.tree q) ts place → Over q spent (t ∷ ts) (suc place)
unfolding Over
over_up q spent t ts place h = (omega (arith, h.0), omega (arith, h.1))

over_down : (q : Segments) (spent : ℕ) (t : Text) (ts : List Text) (place : ℕ) → Over q spent (t ∷ ts) (suc place) → Over q (spent + charge t.tree q) ts place
unfolding Over
over_down q spent t ts place h = (omega (arith, h.0), omega (arith, h.1))

large_up : (q : Segments) (size : ℕ) (t : Text) (ts : List Text) (place : ℕ) → Large q (size + length (found_in q t)) ts place → Large q size (t ∷ ts) (suc place)
unfolding Large
large_up q size t ts place h = (omega (arith, h.0), omega (arith, h.1, length-found q t (take (suc place) ts)))

large_down : (q : Segments) (size : ℕ) (t : Text) (ts : List Text) (place : ℕ) → Large q size (t ∷ ts) (suc place) → Large q (size + length (found_in q t)) ts place
unfolding Large
large_down q size t ts place h = (omega (arith, h.0), omega (arith, h.1, length-found q t (take (suc place) ts)))

-- what the first document shows
over_here : (q : Segments) (spent : ℕ) (t : Text) (ts : List Text) → budget < spent + charge t.tree q → Over q spent (t ∷ ts) 0
unfolding Over
over_here q spent t ts h = (omega arith, omega (arith, h))

not_over_here : (q : Segments) (spent : ℕ) (t : Text) (ts : List Text) → spent + charge t.tree q ≤ budget → Over q spent (t ∷ ts) 0 → ⊥
unfolding Over
not_over_here q spent t ts h o = absurd (omega (arith, h, o.1))

large_here : (q : Segments) (size : ℕ) (t : Text) (ts : List Text) → payload_limit < size + length (found_in q t) → Large q size (t ∷ ts) 0
unfolding Large
large_here q size t ts h = (omega arith, omega (arith, h, length-found q t []))

not_large_here : (q : Segments) (size : ℕ) (t : Text) (ts : List Text) → size + length (found_in q t) ≤ payload_limit → Large q size (t ∷ ts) 0 → ⊥
unfolding Large
not_large_here q size t ts h o = absurd (omega (arith, h, o.1, length-found q t []))

-- ---- All documents

nat_lt_false : (a b : ℕ) → nat_lt a b ≡ false → b ≤ a
nat_lt_false a b h = grind (arith, nat_tests)

nat_lt_true : (a b : ℕ) → nat_lt a b ≡ true → a < b
nat_lt_true a b h = grind (arith, nat_tests)

over_decides : (q : Segments) (spent size : ℕ) (t : Text) (ts : List Text) → budget < spent + charge t.tree q → OverFirst q spent size (t ∷ ts)
unfolding OverFirst
over_decides q spent size t ts h = (0, over_here q spent t ts h, λ other l _. absurd (omega arith))

large_decides : (q : Segments) (spent size : ℕ) (t : Text) (ts : List Text) → spent + charge t.tree q ≤ budget → payload_limit < size + length (found_in q t) → LargeFirst q spent size (t ∷ ts)
unfolding LargeFirst
large_decides q spent size t ts h l = (0, large_here q size t ts l, by)
  where
    by : (other : ℕ) → other ≤ 0 → Over q spent (t ∷ ts) other → ⊥
    by zero k o = not_over_here q spent t ts h o
    by (suc other) k o = absurd (omega arith)

later_over : (q : Segments) (spent size : ℕ) (t : Text) (ts : List Text) → size + length (found_in q t) ≤ payload_limit
    → OverFirst q (spent + charge t.tree q) (size + length (found_in q t)) ts → OverFirst q spent size (t ∷ ts)
unfolding OverFirst
later_over q spent size t ts s (place, o, f) = (suc place, over_up q spent t ts place o, by)
  where
    by : (other : ℕ) → other < suc place → Large q size (t ∷ ts) other → ⊥
    by zero l k = not_large_here q size t ts s k
    by (suc other) l k = f other (omega (arith, l)) (large_down q size t ts other k)

later_large : (q : Segments) (spent size : ℕ) (t : Text) (ts : List Text) → spent + charge t.tree q ≤ budget
    → LargeFirst q (spent + charge t.tree q) (size + length (found_in q t)) ts → LargeFirst q spent size (t ∷ ts)
unfolding LargeFirst
later_large q spent size t ts s (place, o, f) = (suc place, large_up q size t ts place o, by)
  where
    by : (other : ℕ) → other ≤ suc place → Over q spent (t ∷ ts) other → ⊥
    by zero l k = not_over_here q spent t ts s k
    by (suc other) l k = f other (omega (arith, l)) (over_down q spent t ts other k)

later_within : (q : Segments) (spent size : ℕ) (t : Text) (ts : List Text) → spent + charge t.tree q ≤ budget → size + length (found_in q t) ≤ payload_limit
    → Within q (spent + charge t.tree q) (size + length (found_in q t)) ts → Within q spent size (t ∷ ts)
unfolding Within
later_within q spent size t ts c s f zero = (not_over_here q spent t ts c, not_large_here q size t ts s)
later_within q spent size t ts c s f (suc place) = (λ o. (f place).0 (over_down q spent t ts place o), λ l. (f place).1 (large_down q size t ts place l))

later : (q : Segments) (spent size : ℕ) (t : Text) (ts : List Text) → spent + charge t.tree q ≤ budget → size + length (found_in q t) ≤ payload_limit
    → Decided q (spent + charge t.tree q) (size + length (found_in q t)) ts → Decided q spent size (t ∷ ts)
unfolding Decided
later q spent size t ts c s (inl (e, o)) = inl (fault_next q spent size t ts c s ∙ e, later_over q spent size t ts s o)
later q spent size t ts c s (inr (inl (e, l))) = inr (inl (fault_next q spent size t ts c s ∙ e, later_large q spent size t ts c l))
later q spent size t ts c s (inr (inr (e, w))) = inr (inr (fault_next q spent size t ts c s ∙ e, later_within q spent size t ts c s w))

none_here : (q : Segments) (spent size : ℕ) → Within q spent size []
unfolding Within Over Large
none_here q spent size place = (λ o. absurd (omega (arith, o.0)), λ l. absurd (omega (arith, l.0)))

decided : (q : Segments) (spent size : ℕ) (ts : List Text) → Decided q spent size ts
unfolding Decided
decided q spent size [] = inr (inr (no_fault_left q spent size, none_here q spent size))
decided q spent size (t ∷ ts) =
    by (nat_lt budget (spent + charge t.tree q)) (nat_lt payload_limit (size + length (found_in q t))) refl refl (decided q (spent + charge t.tree q) (size + length (found_in q t)) ts)
  where
    by : (a b : Bool) → nat_lt budget (spent + charge t.tree q) ≡ a → nat_lt payload_limit (size + length (found_in q t)) ≡ b
        → Decided q (spent + charge t.tree q) (size + length (found_in q t)) ts → Decided q spent size (t ∷ ts)
    by true b h k d = let o = nat_lt_true _ _ h in inl (fault_over q spent size t ts o, over_decides q spent size t ts o)
    by false true h k d = let c = nat_lt_false _ _ h in let l = nat_lt_true _ _ k in inr (inl (fault_large q spent size t ts c l, large_decides q spent size t ts c l))
    by false false h k d = later q spent size t ts (nat_lt_false _ _ h) (nat_lt_false _ _ k) d

-- ---- The law

not_both : (q : Segments) (spent size : ℕ) (ts : List Text) → OverFirst q spent size ts → LargeFirst q spent size ts → ⊥
unfolding OverFirst LargeFirst
not_both q spent size ts (n, o, f) (m, l, g) = elim (cases_lt m n) [ inl h ↦ f m h l | inr h ↦ g n h o ]

over_is : (q : Segments) (ts : List Text) → (query_fault q 0 4 ts ≡ Some Costly) ↔ OverFirst q 0 4 ts
unfolding Decided OverFirst LargeFirst Within
over_is q ts = (
  λ h. elim (decided q 0 4 ts) [
    | inl (e, o) ↦ o
    | inr (inl (e, l)) ↦ let w : Some Costly ≡ Some ReplyTooLarge = sym h ∙ e in absurd cc
    | inr (inr (e, w)) ↦ let w : Some Costly ≡ None = sym h ∙ e in absurd cc
  ],
  λ o. elim (decided q 0 4 ts) [
    | inl (e, _) ↦ e
    | inr (inl (e, l)) ↦ absurd (not_both q 0 4 ts o l)
    | inr (inr (e, w)) ↦ absurd ((w o.0).0 o.1)
  ],
)

large_is : (q : Segments) (ts : List Text) → (query_fault q 0 4 ts ≡ Some ReplyTooLarge) ↔ LargeFirst q 0 4 ts
unfolding Decided OverFirst LargeFirst Within
large_is q ts = (
  λ h. elim (decided q 0 4 ts) [
    | inl (e, o) ↦ let w : Some ReplyTooLarge ≡ Some Costly = sym h ∙ e in absurd cc
    | inr (inl (e, l)) ↦ l
    | inr (inr (e, w)) ↦ let w : Some ReplyTooLarge ≡ None = sym h ∙ e in absurd cc
  ],
  λ l. elim (decided q 0 4 ts) [
    | inl (e, o) ↦ absurd (not_both q 0 4 ts o l)
    | inr (inl (e, _)) ↦ e
    | inr (inr (e, w)) ↦ absurd ((w l.0).1 l.1)
  ],
)

within_is : (q : Segments) (ts : List Text) → (query_fault q 0 4 ts ≡ None) ↔ Within q 0 4 ts
unfolding Decided OverFirst LargeFirst Within
within_is q ts = (
  λ h. elim (decided q 0 4 ts) [
    | inl (e, o) ↦ let w : None ≡ Some Costly = sym h ∙ e in absurd cc
    | inr (inl (e, l)) ↦ let w : None ≡ Some ReplyTooLarge = sym h ∙ e in absurd cc
    | inr (inr (e, w)) ↦ w
  ],
  λ w. elim (decided q 0 4 ts) [
    | inl (e, o) ↦ absurd ((w o.0).0 o.1)
    | inr (inl (e, l)) ↦ absurd ((w l.0).1 l.1)
    | inr (inr (e, _)) ↦ e
  ],
)

shows : (q : Segments) (ts : List Text) (place : ℕ) → Over q 0 ts place → ShowsCostly q ts place
unfolding Over
shows q ts place h = (h.0, omega (arith, h.1))

shown : (q : Segments) (ts : List Text) (place : ℕ) → ShowsCostly q ts place → Over q 0 ts place
unfolding Over
shown q ts place h = (h.0, omega (arith, h.1))

pub queries_refuse_in_order : OneTree → QueriesRefuseInOrder
unfolding OverFirst LargeFirst Within Large
queries_refuse_in_order one =
    record {
      costly = λ q ds ts a. (
        λ r. let o = (over_is q ts).0 (ap (λ us. query_fault q 0 4 us) (texts_once one ds ts r.texts a r.read) ∙ r.first) in (o.0, shows q ts o.0 o.1, o.2),
        λ o. record { texts = ts; read = a; first = (over_is q ts).1 (o.0, shown q ts o.0 o.1, o.2) },
      );
      too_large = λ q ds ts a. (
        λ r. let l = (large_is q ts).0 (ap (λ us. query_fault q 0 4 us) (texts_once one ds ts r.texts a r.read) ∙ r.first) in (l.0, l.1, λ other k o. l.2 other k (shown q ts other o)),
        λ l. record { texts = ts; read = a; first = (large_is q ts).1 (l.0, l.1, λ other k o. l.2 other k (shows q ts other o)) },
      );
      answered = λ q ds ts old a. (
        λ r. let w = (within_is q ts).0 (ap (λ us. query_fault q 0 4 us) (texts_once one ds ts r.texts a r.read) ∙ r.no_fault) in λ place. (λ o. (w place).0 (shown q ts place o), (w place).1),
        λ w. record { texts = ts; read = a; no_fault = (within_is q ts).1 (λ place. (λ o. (w place).0 (shows q ts place o), (w place).1)); appended = refl },
      );
    }
