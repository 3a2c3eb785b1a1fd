-- The places of a slice, which follow one another in steps.
use Rattle.std.proofs.Common.{◌≡◌, ℕ, suc, ◌+◌, ◌-◌, ◌*◌, ◌/◌, ◌%◌, ◌≤◌, Bool, ◌&&◌, List, [], ◌∷◌, inl, inr, refl, sym, ap, ◌∙◌, arith, nat_le, nat_lt, nat_eq, ℤ, pos, ◌+ℤ◌, ◌<ℤ◌, length, Option}
use Rattle.path_grammar.specs.declared.ast.IntLit.{IntLit}
use Rattle.std.specs.Prelude.{unsigned_abs}
use Rattle.std.proofs.lemmas.Int.{ints}
use Rattle.std.proofs.Math.Nat.{mod-le, mul-mod_right, add-mul-mod_self_left, div-add-mod}
use Rattle.std.proofs.lemmas.Bool.{cases_lt}
use Rattle.std.proofs.lemmas.Bool.Decides.{nat_tests}
use Rattle.json_tape.specs.Nodes.{Node}
use Rattle.tape_values.specs.Selection.{picked, lower, upper, is_selected, in_order, start_default, stop_default, bound_or, step_of, sliced}
use Rattle.tape_values.specs.Places.{is_place}

-- ---- Tests that are the same

pub picked_same : (p q : ℕ → Bool) (i : ℕ) (ns : List Node) → ((j : ℕ) → p j ≡ q j) → picked p i ns ≡ picked q i ns
picked_same p q i [] h = refl
picked_same p q i (n ∷ ns) h = rw (h i, picked_same p q (suc i) ns h) refl

-- ---- The places of a slice, counted from the last one

-- what lies before a multiple of the step is what is left of the whole
from_front : (before after step : ℕ) → after % step ≡ 0 → ((before + after) % step ≤ before) × ((before - (before + after) % step) % step ≡ 0)
from_front before after step h =
    let e : (before + after) % step ≡ before % step = (let d : before + after ≡ before + step * (after / step) = omega (arith, div-add-mod after step) in ap (λ x. x % step) d ∙ add-mul-mod_self_left before step (after / step)) in
    let m : before - before % step ≡ step * (before / step) = omega (arith, div-add-mod before step) in
    rw e (mod-le before step, ap (λ x. x % step) m ∙ mul-mod_right step (before / step))

from_back : (before after step : ℕ) → (before + after) % step ≤ before → (before - (before + after) % step) % step ≡ 0 → after % step ≡ 0
from_back before after step h e =
    let whole = div-add-mod (before + after) step in
    let part = div-add-mod (before - (before + after) % step) step in
    let d : after + step * ((before - (before + after) % step) / step) ≡ step * ((before + after) / step) = omega (arith, whole, part) in
    sym (add-mul-mod_self_left after step ((before - (before + after) % step) / step)) ∙ ap (λ x. x % step) d ∙ mul-mod_right step ((before + after) / step)

turned_places : (least end step i : ℕ)
    → is_place (least + (end - (least + 1)) % step) end step i ≡ (nat_le least i && nat_lt i end && nat_eq ((end - (i + 1)) % step) 0)
turned_places least end step i = elim (cases_lt i least) [
  | inl below ↦ grind (arith, nat_tests)
  | inr above ↦ elim (cases_lt i end) [
    | inr behind ↦ grind (arith, nat_tests)
    | inl within ↦
        let whole : i - least + (end - (i + 1)) ≡ end - (least + 1) = omega arith in
        let rest : i - least - (end - (least + 1)) % step ≡ i - (least + (end - (least + 1)) % step) = omega arith in
        let front = rw (whole, rest) at (from_front (i - least) (end - (i + 1)) step) in
        let back = rw (whole, rest) at (from_back (i - least) (end - (i + 1)) step) in
        grind (arith, nat_tests)
  ]
]

from_upper : (lower upper step : ℤ) (least end distance i : ℕ) → step <ℤ pos 0 → distance ≡ unsigned_abs step → pos least ≡ lower +ℤ pos 1 → pos end ≡ upper +ℤ pos 1
    → is_selected lower upper step i ≡ (nat_le least i && nat_lt i end && nat_eq ((end - (i + 1)) % distance) 0)
from_upper lower upper step least end distance i s d l u = grind (arith, ints, nat_tests)

pub turned : (lower upper step : ℤ) (least end distance i : ℕ) → step <ℤ pos 0 → distance ≡ unsigned_abs step → pos least ≡ lower +ℤ pos 1 → pos end ≡ upper +ℤ pos 1
    → is_place (least + (end - (least + 1)) % distance) end distance i ≡ is_selected lower upper step i
turned lower upper step least end distance i s d l u = turned_places least end distance i ∙ sym (from_upper lower upper step least end distance i s d l u)

-- ---- The whole of a slice

-- the numbers that a slice's parts stand for, among so many elements
pub record Parts (start stop step : Option IntLit) (len : ℕ) (from to by : ℤ) : Type 0 where
  pub step_is : by ≡ step_of step
  pub start_is : from ≡ bound_or (start_default by len) start
  pub stop_is : to ≡ bound_or (stop_default by len) stop

pub sliced_is : (start stop step : Option IntLit) (len : ℕ) (from to by : ℤ) (ns : List Node) (p : ℕ → Bool) → Parts start stop step len from to by → len ≡ length ns
    → ((i : ℕ) → p i ≡ is_selected (lower from to by len) (upper from to by len) by i) → in_order by (picked p 0 ns) ≡ sliced start stop step ns
unfolding sliced
sliced_is start stop step len from to by ns p parts n h =
    rw (picked_same p (is_selected (lower from to by len) (upper from to by len) by) 0 ns h, parts.start_is, parts.stop_is, parts.step_is, n) refl
