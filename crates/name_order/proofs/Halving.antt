-- A name is found by halving among names that rise.
use Rattle.json_text.proofs.Names.{◌≡◌, ℕ, ◌+◌, ◌<◌, ◌≤◌, List, length, get_or, inl, inr, sym, ap, ◌∙◌, subst, arith, cases_lt, length-map, nat_cmp}
use Rattle.json_text.proofs.Names.{get_or-map, Contains, is_eq, bytes_decides}
use Rattle.name_order.proofs.Names.{Less, Equal, Entry, name_at, name_in, name_cmp}
use Rattle.json_strings.specs.Keys.{hashed_cmp, name_hash}
use Rattle.std.proofs.lemmas.Cmp.{tied_itself}
use Rattle.std.proofs.lemmas.List.Elements.{Contains-get_or}
use Rattle.std.specs.Ordering.{ordering_reverse, ordering_then}
use Rattle.std.specs.declared.cmp.Ordering.{Ordering}
use Rattle.std.specs.declared.cmp.Ordering.TheVariants.{Greater}
use Rattle.name_order.specs.Ordered.{AreNamed, members_of}
use Rattle.name_order.specs.Orders.{high_half, low_half}
use Rattle.json_strings.specs.KeyOrder.{hashed_total, hashed_tie}

-- the name stands neither before the first place nor from the second on
pub record Between (factor : ℕ) (text : List ℕ) (tape : List Entry) (words : List ℕ) (name : List ℕ) (low high : ℕ) : Type 0 where
  pub inside : high ≤ length words
  pub below : (k : ℕ) → k < low → hashed_cmp factor (name_in text tape (get_or words k 0)) name ≡ Less
  pub above : (k : ℕ) → high ≤ k → k < length words → hashed_cmp factor (name_in text tape (get_or words k 0)) name ≡ Greater

-- names that tie are the same
pub tied : (factor : ℕ) (x y : List ℕ) → hashed_cmp factor x y ≡ Equal → x ≡ y
tied factor x y e = (bytes_decides x y).0 (hashed_tie factor x y ∙ ap is_eq e)

-- a member of a place
pub member_of : (words : List ℕ) (k m : ℕ) → k < length words → m ≡ low_half (get_or words k 0) → Contains (members_of words) m
member_of words k m h e = subst (Contains (members_of words)) (get_or-map low_half words k 0 0 h ∙ sym e) (Contains-get_or (members_of words) k 0 (let l = length-map words low_half in omega arith))

module _ (factor : ℕ) (text : List ℕ) (tape : List Entry) (words : List ℕ) (name : List ℕ) (named : AreNamed factor text tape words) where
  abbrev at : ℕ → List ℕ
  at k = name_in text tape (get_or words k 0)

  -- the order by the hash of a word is that by the hash of its name
  pub compared : (k hash : ℕ) (o : Ordering) → k < length words → hash ≡ name_hash factor name → ordering_then (nat_cmp (high_half (get_or words k 0)) hash) (name_cmp (at k) name) ≡ o → hashed_cmp factor (at k) name ≡ o
  compared k hash o l e h = ap (λ x. ordering_then (nat_cmp x (name_hash factor name)) (name_cmp (at k) name)) (sym (named.each k 0 l).hashed) ∙ ap (λ x. ordering_then (nat_cmp (high_half (get_or words k 0)) x) (name_cmp (at k) name)) (sym e) ∙ h

  number_at : (k : ℕ) → k < length (members_of words) → (k < length words) × (get_or (members_of words) k 0 ≡ low_half (get_or words k 0))
  number_at k h = let l = length-map words low_half in let i : k < length words = omega arith in (i, get_or-map low_half words k 0 0 i)

  pub member_inside : (k : ℕ) → k < length (members_of words) → get_or (members_of words) k 0 < length tape
  member_inside k h = let (i, e) = number_at k h in subst (λ m. m < length tape) (sym e) (named.each k 0 i).inside

  pub higher : (low high middle : ℕ) → Between factor text tape words name low high → middle < high → hashed_cmp factor (at middle) name ≡ Less → Between factor text tape words name (middle + 1) high
  higher low high middle b h e = record {
    inside = b.inside;
    below = λ k l. elim (cases_lt k middle) [
      | inl g ↦ (hashed_total factor).trans (at k) (at middle) name (named.rising k middle g (let i = b.inside in omega arith)) e
      | inr g ↦ (let same : middle ≡ k = omega arith in subst (λ j. hashed_cmp factor (at j) name ≡ Less) same e)
    ];
    above = b.above;
  }

  pub lower : (low high middle : ℕ) → Between factor text tape words name low high → middle < high → hashed_cmp factor (at middle) name ≡ Greater → Between factor text tape words name low middle
  lower low high middle b h e = record {
    inside = (let i = b.inside in omega arith);
    below = b.below;
    above = λ k l m. elim (cases_lt middle k) [
      | inl g ↦
          (let first : hashed_cmp factor name (at middle) ≡ Less = (hashed_total factor).antisymm name (at middle) ∙ ap ordering_reverse e in
          let both = (hashed_total factor).trans name (at middle) (at k) first (named.rising middle k g m) in
          (hashed_total factor).antisymm (at k) name ∙ ap ordering_reverse both)
      | inr g ↦ (let same : middle ≡ k = omega arith in subst (λ j. hashed_cmp factor (at j) name ≡ Greater) same e)
    ];
  }

  pub nowhere : (low high : ℕ) → Between factor text tape words name low high → high ≤ low → (k : ℕ) → k < length (members_of words) → name_at text tape (get_or (members_of words) k 0) ≡ name → ⊥
  nowhere low high b h k l e = grind (arith, number_at k l, tied_itself (hashed_total factor) name)

  -- members of one name are one
  pub one_place : (j k : ℕ) → j < length (members_of words) → k < length (members_of words) → name_at text tape (get_or (members_of words) j 0) ≡ name_at text tape (get_or (members_of words) k 0)
      → get_or (members_of words) j 0 ≡ get_or (members_of words) k 0
  one_place j k l m e = elim (cases_lt j k) [
    | inl g ↦ absurd (apart j k g (number_at k m).0 same)
    | inr g ↦ elim (cases_lt k j) [ inl h ↦ absurd (apart k j h (number_at j l).0 (sym same)) | inr h ↦ grind (arith, same) ]
  ] where
    same : at j ≡ at k
    same = ap (name_at text tape) (sym (number_at j l).1) ∙ e ∙ ap (name_at text tape) (number_at k m).1

    apart : (j k : ℕ) → j < k → k < length words → at j ≡ at k → ⊥
    apart j k h m e = let x = sym (named.rising j k h m) ∙ ap (λ y. hashed_cmp factor y (at k)) e ∙ tied_itself (hashed_total factor) (at k) in cc
