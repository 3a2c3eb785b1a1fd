-- Members as words in the order of their hashes, and of their names where hashes meet.
use Rattle.json_text.proofs.Names.{◌≡◌, ℕ, ◌+◌, ◌*◌, ◌^◌, ◌<◌, false, Bool, ◌||◌, List, [], ◌∷◌, length, map, get_or, refl, sym, ap, ◌∙◌, list_any}
use Rattle.json_text.proofs.Names.{subst, arith, nat_eq, pointwise, All-from_recursion, recursion_from_All, All-permutation, All, AllByRecursion}
use Rattle.json_text.proofs.Names.{IsPermutation, IsSorted, nat_cmp, on, Members, IsObject, repeats, meanings, repeats_by, repeats_next_by}
use Rattle.std.proofs.lemmas.Nat.{mod-mul-add, div-mul-add}
use Rattle.std.proofs.lemmas.List.Sorted.{IsPermutation-map}
use Rattle.std.specs.Cmp.{IsTotalOrder, on_total}
use Rattle.std.specs.Cmp.Lexicographic.{nat_list_eq_equiv}
use Rattle.std.specs.Ordering.{is_lt, ordering_then, eq_by_cmp}
use Rattle.std.specs.declared.cmp.Ordering.{Ordering}
use Rattle.json_strings.specs.Keys.{Keyed, key_name, key_number, key_hash, name_cmp, hashed_cmp, name_hash}
use Rattle.json_strings.specs.KeyOrder.{hashed_total, hashed_tie}
use Rattle.name_order.specs.Ordered.{keyed, word_of, word_cmp, name_at, name_in, IsNamed, IsOrderOf}
use Rattle.name_order.specs.Orders.{high_half, low_half}
use Rattle.json_text.specs.declared.tape.Entry.{Entry}
use Rattle.json_text.proofs.Repeats.{strict, sorted_repeats}
use Rattle.name_order.proofs.KeysLeft.{IsGood, all_good, repeats_keyed}
use Rattle.name_order.proofs.Runs.{in_order}

pub low_is : (hash number : ℕ) → number < 4294967296 → low_half (hash * 4294967296 + number) ≡ number
unfolding low_half
low_is hash number h = mod-mul-add hash 4294967296 number h

pub high_is : (hash number : ℕ) → number < 4294967296 → high_half (hash * 4294967296 + number) ≡ hash
unfolding high_half
high_is hash number h = div-mul-add hash 4294967296 number h

abbrev same_key : Keyed → Keyed → Bool
same_key = on key_name (pointwise nat_eq)

module _ (factor : ℕ) (text : List ℕ) (tape : List Entry) (short : length tape < 2 ^ 31) where
  abbrev same_word : ℕ → ℕ → Bool
  same_word = on (name_in text tape) (pointwise nat_eq)

  abbrev by_name : ℕ → ℕ → Ordering
  by_name = on (name_in text tape) (hashed_cmp factor)

  good_word : (x : Keyed) → IsGood text tape x → IsNamed factor text tape (word_of factor x)
  good_word x g = grind (arith, low_is, high_is)

  good_words : (ks : List Keyed) → AllByRecursion (IsGood text tape) ks → AllByRecursion (IsNamed factor text tape) (map (word_of factor) ks)
  good_words [] h = tt
  good_words (x ∷ ks) h = (good_word x h.0, good_words ks h.1)

  number_is : (x : Keyed) → IsGood text tape x → low_half (word_of factor x) ≡ x.number
  number_is x g = low_is (key_hash factor x) x.number (let i = g.inside in omega arith)

  lows : (ks : List Keyed) → AllByRecursion (IsGood text tape) ks → map low_half (map (word_of factor) ks) ≡ map key_number ks
  lows [] h = refl
  lows (x ∷ ks) h = ap (λ k. k ∷ map low_half (map (word_of factor) ks)) (number_is x h.0) ∙ ap (λ l. x.number ∷ l) (lows ks h.1)

  name_is : (x : Keyed) → IsGood text tape x → name_in text tape (word_of factor x) ≡ x.name
  name_is x g = ap (name_at text tape) (number_is x g) ∙ g.named

  any_word : (x : Keyed) → IsGood text tape x → (ks : List Keyed) → AllByRecursion (IsGood text tape) ks
      → list_any (λ y. same_word y (word_of factor x)) (map (word_of factor) ks) ≡ list_any (λ y. same_key y x) ks
  any_word x g [] h = refl
  any_word x g (y ∷ ks) h =
      ap (λ n. pointwise nat_eq n (name_in text tape (word_of factor x)) || list_any (λ z. same_word z (word_of factor x)) (map (word_of factor) ks)) (name_is y h.0)
      ∙ ap (λ n. pointwise nat_eq y.name n || list_any (λ z. same_word z (word_of factor x)) (map (word_of factor) ks)) (name_is x g)
      ∙ ap (λ b. same_key y x || b) (any_word x g ks h.1)

  -- names come again in the words where they do among the members
  repeats_words : (ks : List Keyed) → AllByRecursion (IsGood text tape) ks → repeats_by same_word (map (word_of factor) ks) ≡ repeats_by same_key ks
  repeats_words [] h = refl
  repeats_words (x ∷ ks) h = ap (λ b. b || repeats_by same_word (map (word_of factor) ks)) (any_word x h.0 ks h.1) ∙ ap (λ b. list_any (λ y. same_key y x) ks || b) (repeats_words ks h.1)

  module _ (n : ℕ) (ys : List ℕ) (moved : (ms : Members) → IsObject text tape n ms → IsPermutation (map (word_of factor) (keyed ms (n + 1))) ys) where
    good_keys : (ms : Members) → IsObject text tape n ms → AllByRecursion (IsGood text tape) (keyed ms (n + 1))
    good_keys ms o = recursion_from_All (IsGood text tape) (keyed ms (n + 1)) (all_good text tape n ms o)

    pub good : (ms : Members) → IsObject text tape n ms → All (IsNamed factor text tape) ys
    good ms o = All-permutation (IsNamed factor text tape) (map (word_of factor) (keyed ms (n + 1))) ys (moved ms o) (All-from_recursion (IsNamed factor text tape) (map (word_of factor) (keyed ms (n + 1))) (good_words (keyed ms (n + 1)) (good_keys ms o)))

    module _ (sorted : IsSorted (word_cmp text tape) ys) (ms : Members) (o : IsObject text tape n ms) where
      ties : (x y : ℕ) → same_word x y ≡ eq_by_cmp by_name x y
      ties x y = hashed_tie factor (name_in text tape x) (name_in text tape y)

      symm : (x y : ℕ) → same_word x y ≡ same_word y x
      symm x y = nat_list_eq_equiv.symm (name_in text tape x) (name_in text tape y)

      total : IsTotalOrder by_name
      total = on_total (name_in text tape) (hashed_total factor)

      in_names : IsSorted by_name ys
      in_names k d z h =
          let a = good ms o (k + 1) d h in let b = good ms o k d (omega arith) in let names = name_cmp (name_in text tape (get_or ys (k + 1) d)) (name_in text tape (get_or ys k d)) in
          ap (λ x. is_lt (ordering_then (nat_cmp x (name_hash factor (name_in text tape (get_or ys k d)))) names)) (sym a.hashed)
          ∙ ap (λ x. is_lt (ordering_then (nat_cmp (high_half (get_or ys (k + 1) d)) x) names)) (sym b.hashed) ∙ sorted k d z h

      pub found : repeats_next_by same_word ys ≡ repeats (meanings ms)
      found = sorted_repeats same_word by_name ties symm total (map (word_of factor) (keyed ms (n + 1))) ys (moved ms o) in_names
          ∙ repeats_words (keyed ms (n + 1)) (good_keys ms o) ∙ repeats_keyed (pointwise nat_eq) ms (n + 1)

      pub ordered : repeats_next_by same_word ys ≡ false → IsOrderOf factor text tape n ys
      ordered none = record {
        named = record { each = good ms o; rising = in_order by_name ys 0 (strict same_word by_name ties symm total 0 ys in_names none) };
        all = λ ms' o'. subst (λ l. IsPermutation l (map low_half ys)) (lows (keyed ms' (n + 1)) (good_keys ms' o')) (IsPermutation-map low_half (map (word_of factor) (keyed ms' (n + 1))) ys (moved ms' o'));
      }
