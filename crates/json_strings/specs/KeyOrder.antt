-- The laws of the order of names.
use Rattle.std.proofs.Common.{sym, ap, ◌∙◌}
use Rattle.std.specs.Prelude.{◌≡◌, ℕ, List, Bool, true, false, refl, nat_eq, Some}
use Rattle.std.specs.Ordering.{nat_cmp, on, ordering_then, eq_by_cmp, is_eq}
use Rattle.std.specs.declared.cmp.Ordering.{Ordering}
use Rattle.std.specs.declared.cmp.Ordering.TheVariants.{Less, Equal, Greater}
use Rattle.std.specs.Cmp.{IsEquivalence, IsTotalOrder, IsPartialOrder, po, on_equiv, on_total, then_total, nat_cmp_total, tied_itself}
use Rattle.std.specs.Cmp.Lexicographic.{pointwise, texts_ties, bytes_decides, nat_list_eq_equiv, nat_list_cmp_total}
use Rattle.json_strings.specs.Keys.{Keyed, key_name, name_hash, name_cmp, hashed_cmp}

pub names_total : IsTotalOrder name_cmp
names_total = nat_list_cmp_total

-- names that mean the same tie, and no others
pub names_tie : (x y : List ℕ) → pointwise nat_eq x y ≡ eq_by_cmp name_cmp x y
names_tie = texts_ties

pub hashed_total : (factor : ℕ) → IsTotalOrder (hashed_cmp factor)
hashed_total factor = then_total (on_total (name_hash factor) nat_cmp_total) names_total

pub hashed_tie : (factor : ℕ) (x y : List ℕ) → pointwise nat_eq x y ≡ eq_by_cmp (hashed_cmp factor) x y
hashed_tie factor x y = go (pointwise nat_eq x y) refl
  where
    apart : (o p : Ordering) → is_eq p ≡ false → false ≡ is_eq (ordering_then o p)
    apart Less p e = refl
    apart Equal p e = sym e
    apart Greater p e = refl

    go : (t : Bool) → pointwise nat_eq x y ≡ t → t ≡ eq_by_cmp (hashed_cmp factor) x y
    go true e = let s : x ≡ y = (bytes_decides x y).0 e in sym (ap is_eq (ap (λ z. hashed_cmp factor z y) s ∙ tied_itself (hashed_total factor) y))
    go false e = apart (nat_cmp (name_hash factor x) (name_hash factor y)) (name_cmp x y) (sym (names_tie x y) ∙ e)

pub keys_equiv : IsEquivalence (on key_name (pointwise nat_eq))
keys_equiv = on_equiv key_name nat_list_eq_equiv

pub keys_total : IsTotalOrder (on key_name name_cmp)
keys_total = on_total key_name names_total

pub keys_tie : (x y : Keyed) → on key_name (pointwise nat_eq) x y ≡ eq_by_cmp (on key_name name_cmp) x y
keys_tie x y = names_tie x.name y.name

pub keys_po : IsPartialOrder (on key_name (pointwise nat_eq)) (λ x y. Some (on key_name name_cmp x y))
keys_po = po keys_total keys_tie
