-- The places of a slice, which follow one another in steps: from the next place that is wanted on.
use Rattle.std.proofs.Common.{◌≡◌, ◌≢◌, ℕ, zero, suc, pos, drop, length, ◌+◌, ◌-◌, ◌%◌, ◌<◌, ◌≤◌, ◌^◌, to_z, w64, true, false, List, [], ◌∷◌, inl, inr, refl, sym, ap, ◌∙◌, arith}
use Rattle.std.specs.Prelude.{nat_lt}
use Rattle.std.proofs.Math.Nat.{mod-eq_of_lt, add-mod_right, mod-le}
use Rattle.std.proofs.lemmas.Int.{to_z_pos}
use Rattle.std.proofs.lemmas.Bool.{cases_lt}
use Rattle.std.proofs.lemmas.Bool.Decides.{nat_tests}
use Rattle.json_tape.specs.Nodes.{Node}
use Rattle.path_grammar.specs.declared.ast.IntLit.TheVariants.{Within}
use Rattle.tape_values.specs.Selection.{nth, at_index, picked}
use Rattle.tape_values.specs.Places.{is_place}
use Rattle.node_lists.proofs.Adding.{add_more, has_none, append_nil}

-- after the first place, those from the second on are the same
same_after : (first end step i : ℕ) → first < i → is_place (first + step) end step i ≡ is_place first end step i
same_after first end step i h = elim (cases_lt i (first + step)) [
  | inl below ↦ let e : (i - first) % step ≡ i - first = mod-eq_of_lt (omega arith) in grind (arith, nat_tests)
  | inr above ↦
      let e : (i - (first + step)) % step ≡ (i - first) % step = (let d : i - first ≡ i - (first + step) + step = omega arith in rw d (sym (add-mod_right (i - (first + step)) step))) in
      grind (arith, nat_tests)
]

picked_after : (first end step i : ℕ) (ns : List Node) → first < i → picked (is_place (first + step) end step) i ns ≡ picked (is_place first end step) i ns
picked_after first end step i [] h = refl
picked_after first end step i (n ∷ ns) h = rw (same_after first end step i h, picked_after first end step (suc i) ns (omega arith)) refl

is_first : (first end step i : ℕ) → i ≡ first → first < end → is_place first end step i ≡ true
is_first first end step i e h = let z : (i - first) % step ≡ 0 = omega (arith, mod-le (i - first) step) in grind (arith, nat_tests)

pub picked_first : (first end step i : ℕ) (n : Node) (ns : List Node) → i ≡ first → first < end
    → picked (is_place first end step) i (n ∷ ns) ≡ n ∷ picked (is_place (first + step) end step) (i + 1) ns
picked_first first end step i n ns e h =
    let k : i + 1 ≡ suc i = omega arith in
    rw (is_first first end step i e h, k, picked_after first end step (suc i) ns (omega arith)) refl

pub picked_before : (first end step i : ℕ) (n : Node) (ns : List Node) → i ≤ first → i ≢ first → picked (is_place first end step) i (n ∷ ns) ≡ picked (is_place first end step) (i + 1) ns
picked_before first end step i n ns h d =
    let k : i + 1 ≡ suc i = omega arith in
    let no : is_place first end step i ≡ false = grind (arith, nat_tests) in
    rw (no, k) refl

pub picked_none : (first end step i : ℕ) (ns : List Node) → end ≤ first → picked (is_place first end step) i ns ≡ []
picked_none first end step i [] h = refl
picked_none first end step i (n ∷ ns) h =
    let no : is_place first end step i ≡ false = grind (arith, nat_tests) in
    rw (no, picked_none first end step (suc i) ns h) refl

-- what stands before the first place is not picked
picked_on : (first end step i j : ℕ) (ns : List Node) → i + j ≡ first → picked (is_place first end step) first (drop j ns) ≡ picked (is_place first end step) i ns
picked_on first end step i zero ns e = let h : i ≡ first = omega (arith, e) in rw h refl
picked_on first end step i (suc j) [] e = refl
picked_on first end step i (suc j) (n ∷ ns) e =
    let no : is_place first end step i ≡ false = grind (arith, nat_tests) in
    rw no (picked_on first end step (suc i) j ns (omega (arith, e)))

pub picked_from : (first end step : ℕ) (ns others : List Node) → others ≡ drop first ns → picked (is_place first end step) first others ≡ picked (is_place first end step) 0 ns
picked_from first end step ns others e = rw e (picked_on first end step 0 first ns (omega arith))

-- ---- From one place to the next

nth_none : (w : ℕ) (ns : List Node) → length ns ≤ w → nth w ns ≡ []
nth_none w [] h = refl
nth_none zero (n ∷ ns) h = absurd (omega (arith, h))
nth_none (suc w) (n ∷ ns) h = nth_none w ns (omega (arith, h))

pub at_place : (w : ℕ) (ns : List Node) → at_index (Within (pos w)) ns ≡ nth w ns
at_place w ns = elim (cases_lt w (length ns)) [
  | inl below ↦ let yes : nat_lt w (length ns) ≡ true = grind (arith, nat_tests) in rw yes refl
  | inr above ↦ let no : nat_lt w (length ns) ≡ false = grind (arith, nat_tests) in rw (no, nth_none w ns above) refl
]

drop_at : (w : ℕ) (n : Node) (ns : List Node) → n ∷ [] ≡ nth w ns → drop w ns ≡ n ∷ drop (suc w) ns
drop_at w n [] e = absurd cc
drop_at zero n (m ∷ ns) e = let h : n ≡ m = cc in rw h refl
drop_at (suc w) n (m ∷ ns) e = drop_at w n ns e

drop_past : (w : ℕ) (ns : List Node) → [] ≡ nth w ns → drop w ns ≡ []
drop_past zero [] e = refl
drop_past (suc w) [] e = refl
drop_past zero (m ∷ ns) e = absurd cc
drop_past (suc w) (m ∷ ns) e = drop_past w ns e

drop_both : (j k : ℕ) (ns : List Node) → drop j (drop k ns) ≡ drop (k + j) ns
drop_both j zero ns = let e : 0 + j ≡ j = omega arith in rw e refl
drop_both zero (suc k) [] = let e : suc k + 0 ≡ suc k = omega arith in rw e refl
drop_both (suc j) (suc k) [] = let e : suc k + suc j ≡ suc (k + suc j) = omega arith in rw e refl
drop_both j (suc k) (n ∷ ns) = let e : suc k + j ≡ suc (k + j) = omega arith in rw e (drop_both j k ns)

-- a place below 2^32 read as a signed number is the place
at_signed : (w : ℕ) (ns : List Node) → w < 2 ^ 32 → at_index (Within (to_z w64 w)) ns ≡ nth w ns
at_signed w ns h = ap (λ i. at_index (Within i) ns) (to_z_pos w64 w (omega (arith, h))) ∙ at_place w ns

pub picked_stride : (first end step : ℕ) (n : Node) (ns : List Node) → n ∷ [] ≡ at_index (Within (to_z w64 first)) ns → first < end → end ≤ 2 ^ 32 → 0 < step
    → picked (is_place first end step) first (drop first ns) ≡ n ∷ picked (is_place (first + step) end step) (first + step) (drop (first + step) ns)
picked_stride first end step n ns at below fits some =
    let others = drop (suc first) ns in
    let k : suc first + (step - 1) ≡ first + step = omega (arith, some) in
    let passed : drop (step - 1) others ≡ drop (first + step) ns = drop_both (step - 1) (suc first) ns ∙ ap (λ j. drop j ns) k in
    let same : picked (is_place (first + step) end step) (first + step) (drop (first + step) ns) ≡ picked (is_place (first + step) end step) (suc first) others
    = ap (λ ms. picked (is_place (first + step) end step) (first + step) ms) (sym passed) ∙ picked_on (first + step) end step (suc first) (step - 1) others k in
    let one : first + 1 ≡ suc first = omega arith in
    let front : picked (is_place first end step) first (n ∷ others) ≡ n ∷ picked (is_place (first + step) end step) (suc first) others = rw one at (picked_first first end step first n others refl below) in
    rw (drop_at first n ns (at ∙ at_signed first ns (omega (arith, below, fits)))) (front ∙ ap (λ ms. n ∷ ms) (sym same))

pub picked_past : (first end step : ℕ) (ns : List Node) → [] ≡ at_index (Within (to_z w64 first)) ns → first < end → end ≤ 2 ^ 32 → picked (is_place first end step) first (drop first ns) ≡ []
picked_past first end step ns at below fits = rw (drop_past first ns (at ∙ at_signed first ns (omega (arith, below, fits)))) refl

pub ruleset striding = (picked_stride, picked_past, picked_none, picked_from, add_more, has_none, append_nil)

pub ruleset beginning = (picked_from, picked_none)

pub ruleset picking = (picked_first, picked_before, picked_none, add_more, has_none, append_nil)
