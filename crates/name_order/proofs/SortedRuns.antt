-- Words in the order of their hashes, of which each run of one hash is sorted by names.
use Rattle.json_text.proofs.Names.{◌≡◌, ◌≢◌, ℕ, ◌+◌, ◌-◌, ◌*◌, ◌<◌, ◌≤◌, false, inl, inr, List, [], ◌∷◌, length, map, take, drop, get_or, refl, sym, ap, ◌∙◌, arith}
use Rattle.json_text.proofs.Names.{◌++◌, nat_eq, nat_lt, nat_tests, cases_lt, All, All-permutation, IsPermutation, IsSorted, nat_cmp, on, get_or_default}
use Rattle.json_text.proofs.Names.{get_or-take, get_or-drop, get_or-map, length-take-le, length-drop, length-map, AllByRecursion}
use Rattle.json_text.proofs.Names.{All-from_recursion, recursion_from_All, subst}
use Rattle.std.proofs.lemmas.List.{get_or_append_left, get_or-append_right}
use Rattle.std.proofs.lemmas.List.Sorted.{IsPermutation-refl, IsPermutation-trans, IsPermutation-map, IsPermutation-put_mid, length_permutation}
use Rattle.std.proofs.lemmas.Cmp.{tied_itself}
use Rattle.std.specs.Cmp.{nat_cmp_total}
use Rattle.std.specs.Ordering.{is_lt, ordering_then}
use Rattle.std.specs.declared.cmp.Ordering.{Ordering}
use borrow.Rule.Slice.PartMut.{mid_of, post_of, put_mid}
use Rattle.json_text.specs.declared.tape.Entry.{Entry}
use Rattle.json_strings.specs.Keys.{Keyed, key_name, name_cmp}
use Rattle.name_order.specs.Ordered.{name_in, key_in, word_cmp, word_with}
use Rattle.name_order.specs.Orders.{high_half, low_half}
use Rattle.name_order.proofs.SuspectsLeft.{later_is_more}

high_rises : (a b : ℕ) → a ≤ b → high_half a ≤ high_half b
unfolding high_half
high_rises a b h = omega arith

later_hash : (o : Ordering) (a b : ℕ) → a < b → is_lt (ordering_then (nat_cmp b a) o) ≡ false
later_hash o a b l = let t : nat_lt b a ≡ false = grind (arith, nat_tests) in let u : nat_eq b a ≡ false = grind (arith, nat_tests) in rw (t, u) refl

same_hash : (o : Ordering) (a b : ℕ) → a ≡ b → ordering_then (nat_cmp a b) o ≡ o
same_hash o a b e = ap (λ r. ordering_then r o) (ap (nat_cmp a) (sym e) ∙ tied_itself nat_cmp_total a)

whole : (w : ℕ) → high_half w * 4294967296 + low_half w ≡ w
unfolding high_half low_half
whole w = omega arith

no_key : Keyed
no_key = record { number = 0; name = [] }

-- what is of each of a part's places is of the part
pub part_all : (P : ℕ → Type 0) (words : List ℕ) (from to : ℕ) → to ≤ length words → ((k : ℕ) → from ≤ k → k < to → P (get_or words k 0)) → All P (mid_of from (to - from) words)
part_all P words from to h all i d l =
    let m = length-take-le (to - from) (drop from words) (let n = length-drop from words in omega arith) in
    subst P (sym (get_or_default (mid_of from (to - from) words) i d 0 l ∙ get_or-take (to - from) (drop from words) i 0 (omega arith) ∙ get_or-drop from words i 0)) (all (from + i) (omega arith) (omega arith))

-- the keys of words of one hash in order, and the words of these
module _ (text : List ℕ) (tape : List Entry) (hash : ℕ) (words : List ℕ) (ks : List Keyed) (alike : All (λ w. high_half w ≡ hash) words)
    (moved : IsPermutation (map (key_in text tape) words) ks) (sorted : IsSorted (on key_name name_cmp) ks) where
  each : AllByRecursion (λ w. high_half w ≡ hash) words
  each = recursion_from_All (λ w. high_half w ≡ hash) words alike

  again : (w : ℕ) → high_half w ≡ hash → word_with hash (key_in text tape w) ≡ w
  again w e = ap (λ h. h * 4294967296 + low_half w) (sym e) ∙ whole w

  all_again : (ws : List ℕ) → AllByRecursion (λ w. high_half w ≡ hash) ws → map (word_with hash) (map (key_in text tape) ws) ≡ ws
  all_again [] h = refl
  all_again (w ∷ ws) h = ap (λ x. x ∷ map (word_with hash) (map (key_in text tape) ws)) (again w h.0) ∙ ap (λ l. w ∷ l) (all_again ws h.1)

  names : (ws : List ℕ) → AllByRecursion (λ w. high_half w ≡ hash) ws → AllByRecursion (λ (x : Keyed). name_in text tape (word_with hash x) ≡ x.name) (map (key_in text tape) ws)
  names [] h = tt
  names (w ∷ ws) h = (ap (name_in text tape) (again w h.0), names ws h.1)

  name_at_place : (k d : ℕ) → k < length ks → name_in text tape (get_or (map (word_with hash) ks) k d) ≡ (get_or ks k no_key).name
  name_at_place k d l = ap (name_in text tape) (get_or-map (word_with hash) ks k no_key d l)
      ∙ All-permutation (λ (x : Keyed). name_in text tape (word_with hash x) ≡ x.name) (map (key_in text tape) words) ks moved
      (All-from_recursion (λ (x : Keyed). name_in text tape (word_with hash x) ≡ x.name) (map (key_in text tape) words) (names words each)) k no_key l

  pub run_many : length words ≡ length (map (word_with hash) ks)
  run_many = sym (length-map ks (word_with hash) ∙ length_permutation (map (key_in text tape) words) ks moved ∙ length-map words (key_in text tape))

  pub run_moved : IsPermutation words (map (word_with hash) ks)
  run_moved = subst (λ l. IsPermutation l (map (word_with hash) ks)) (all_again words each) (IsPermutation-map (word_with hash) (map (key_in text tape) words) ks moved)

  pub run_sorted : IsSorted (on (name_in text tape) name_cmp) (map (word_with hash) ks)
  run_sorted k d z l = let m = length-map ks (word_with hash) in
      ap (λ n. is_lt (name_cmp n (name_in text tape (get_or (map (word_with hash) ks) k d)))) (name_at_place (k + 1) d (omega arith))
      ∙ ap (λ n. is_lt (name_cmp (get_or ks (k + 1) no_key).name n)) (name_at_place k d (omega arith)) ∙ sorted k no_key z (omega arith)

module _ (text : List ℕ) (tape : List Entry) where
  -- of words in the order of their hashes the runs before a place are sorted
  pub record AreSorted (old words : List ℕ) (to : ℕ) : Type 0 where
    pub moved : IsPermutation old words
    pub alike : (k : ℕ) → high_half (get_or words k 0) ≡ high_half (get_or old k 0)
    pub risen : (k : ℕ) → k + 1 < to → is_lt (word_cmp text tape (get_or words (k + 1) 0) (get_or words k 0)) ≡ false
    pub ends : (k : ℕ) → k + 1 ≡ to → to < length old → high_half (get_or old k 0) < high_half (get_or old to 0)

  pub none_sorted : (words : List ℕ) → AreSorted words words 0
  none_sorted words = record { moved = IsPermutation-refl words; alike = λ k. refl; risen = λ k h. absurd (omega arith); ends = λ k e. absurd (omega arith) }

  pub all_sorted : (old words : List ℕ) (to : ℕ) → length words ≤ to → AreSorted old words to → IsSorted (word_cmp text tape) words
  all_sorted old words to h s k d z l =
      ap (λ x. is_lt (word_cmp text tape x (get_or words k d))) (get_or_default words (k + 1) d 0 l)
      ∙ ap (λ x. is_lt (word_cmp text tape (get_or words (k + 1) 0) x)) (get_or_default words k d 0 (omega arith)) ∙ s.risen k (omega arith)

  module _ (old words ys : List ℕ) (from to : ℕ) (s : AreSorted old words from) (sorted : IsSorted nat_cmp old) (some : from < to) (inside : to ≤ length words)
      (run : (k : ℕ) → from ≤ k → k < to → high_half (get_or words k 0) ≡ high_half (get_or words from 0)) (other : to < length words → high_half (get_or words to 0) ≢ high_half (get_or words from 0))
      (moved : IsPermutation (mid_of from (to - from) words) ys) (risen : IsSorted (on (name_in text tape) name_cmp) ys) where
    abbrev new : List ℕ
    new = put_mid from (to - from) words ys

    long : length words ≡ length old
    long = length_permutation old words s.moved

    front : length (take from words) ≡ from
    front = length-take-le from words (omega arith)

    middle : length (mid_of from (to - from) words) ≡ to - from
    middle = length-take-le (to - from) (drop from words) (let l = length-drop from words in omega arith)

    many : length ys ≡ to - from
    many = length_permutation (mid_of from (to - from) words) ys moved ∙ middle

    before : (k : ℕ) → k < from → get_or new k 0 ≡ get_or words k 0
    before k l = get_or_append_left (take from words) (ys ++ post_of from (to - from) words) 0 k (omega (arith, front)) ∙ get_or-take from words k 0 l

    here : (k : ℕ) → from ≤ k → k < to → get_or new k 0 ≡ get_or ys (k - from) 0
    here k l m = get_or-append_right (take from words) (ys ++ post_of from (to - from) words) from k 0 front l ∙ get_or_append_left ys (post_of from (to - from) words) 0 (k - from) (omega (arith, many))

    behind : (k : ℕ) → to ≤ k → get_or new k 0 ≡ get_or words k 0
    behind k l = get_or-append_right (take from words) (ys ++ post_of from (to - from) words) from k 0 front (omega arith)
        ∙ get_or-append_right ys (post_of from (to - from) words) (to - from) (k - from) 0 many (omega arith)
        ∙ get_or-drop (to - from) (drop from words) (k - from - (to - from)) 0 ∙ get_or-drop from words (to - from + (k - from - (to - from))) 0
        ∙ ap (λ j. get_or words j 0) (let e : from + (to - from + (k - from - (to - from))) ≡ k = omega arith in e)

    same_run : All (λ y. high_half y ≡ high_half (get_or words from 0)) ys
    same_run = All-permutation (λ y. high_half y ≡ high_half (get_or words from 0)) (mid_of from (to - from) words) ys moved (part_all (λ y. high_half y ≡ high_half (get_or words from 0)) words from to inside run)

    still : (k : ℕ) → high_half (get_or new k 0) ≡ high_half (get_or old k 0)
    still k = elim (cases_lt k from) [
      | inl l ↦ ap high_half (before k l) ∙ s.alike k
      | inr l ↦ elim (cases_lt k to) [
        | inl m ↦ ap high_half (here k l m) ∙ same_run (k - from) 0 (omega (arith, many)) ∙ sym (run k l m) ∙ s.alike k
        | inr m ↦ ap high_half (behind k m) ∙ s.alike k
      ]
    ]

    rises : (k : ℕ) → k + 1 < to → is_lt (word_cmp text tape (get_or new (k + 1) 0) (get_or new k 0)) ≡ false
    rises k l = elim (cases_lt (k + 1) from) [
      | inl m ↦ rw (before (k + 1) m, before k (omega arith)) (s.risen k m)
      | inr m ↦ elim (cases_lt k from) [
        | inl b ↦ (let e : k + 1 ≡ from = omega arith in let h = s.ends k e (omega (arith, long)) in let f = ap (λ j. high_half (get_or old j 0)) e in
            later_hash _ (high_half (get_or new k 0)) (high_half (get_or new (k + 1) 0)) (omega (arith, still k, still (k + 1))))
        | inr b ↦ (let e : k + 1 - from ≡ k - from + 1 = omega arith in let f = here (k + 1) (omega arith) l ∙ ap (λ j. get_or ys j 0) e in let g = here k b (omega arith) in
            ap is_lt (same_hash _ (high_half (get_or new (k + 1) 0)) (high_half (get_or new k 0)) (ap high_half f ∙ same_run (k - from + 1) 0 (omega (arith, many)) ∙ sym (same_run (k - from) 0 (omega (arith, many))) ∙ sym (ap high_half g)))
            ∙ ap (λ x. is_lt (name_cmp (name_in text tape x) (name_in text tape (get_or new k 0)))) f ∙ ap (λ x. is_lt (name_cmp (name_in text tape (get_or ys (k - from + 1) 0)) (name_in text tape x))) g
            ∙ risen (k - from) 0 (omega arith) (omega (arith, many)))
      ]
    ]

    next : (k : ℕ) → k + 1 ≡ to → to < length old → high_half (get_or old k 0) < high_half (get_or old to 0)
    next k e l = elim (cases_lt (high_half (get_or old k 0)) (high_half (get_or old to 0))) [
      | inl m ↦ m
      | inr m ↦ (let r = high_rises (get_or old k 0) (get_or old to 0) (later_is_more old sorted k to (omega arith) l) in let q : high_half (get_or old to 0) ≡ high_half (get_or old k 0) = omega arith in
          absurd (other (omega (arith, long)) (s.alike to ∙ q ∙ sym (s.alike k) ∙ run k (omega arith) (omega arith))))
    ]

    pub one_run : AreSorted old new to
    one_run = record { moved = IsPermutation-trans old words new s.moved (IsPermutation-put_mid from (to - from) words ys moved); alike = still; risen = rises; ends = next }
