-- The places of a slice, taken one after the other from either end.
use Rattle.std.proofs.Common.{◌≡◌, ℕ, zero, suc, ◌+◌, ◌-◌, ◌*◌, ◌/◌, ◌%◌, ◌<◌, ◌≤◌, ◌^◌, to_z, w64, pos, Bool, true, false, List, [], ◌∷◌, ◌++◌, reverse, inl, inr, refl, sym, ap, ◌∙◌, arith, ℤ, ◌<ℤ◌, if◌then◌else◌}
use Rattle.std.proofs.Math.Nat.{mod-eq_of_lt, mul-mod_right, add-mul-mod_self_left, add-mod_right, div-add-mod}
use Rattle.std.proofs.Common.{mod-lt}
use Rattle.std.proofs.lemmas.List.{reverse-append}
use Rattle.std.proofs.lemmas.Int.{to_z_pos, ints}
use Rattle.std.proofs.lemmas.Bool.{cases_lt}
use Rattle.std.proofs.lemmas.Bool.Decides.{nat_tests}
use Rattle.json_tape.specs.Nodes.{Node}
use Rattle.path_grammar.specs.declared.ast.IntLit.TheVariants.{Within}
use Rattle.tape_values.specs.Selection.{nth, at_index, picked, in_order}
use Rattle.tape_values.specs.Places.{is_place}
use Rattle.node_lists.specs.Laws.{StepsOn}
use Rattle.query_machine.specs.Cursors.{place_of, rest_of, strided, turned, IsAligned, IsStride}
use Rattle.query_machine.specs.declared.cursor.Stride.{Stride}

-- ---- From the first place on

before_first : (first end step i : ℕ) → i < first → is_place first end step i ≡ false
before_first first end step i h = grind (arith, nat_tests)

behind_last : (first end step i : ℕ) → end ≤ i → is_place first end step i ≡ false
behind_last first end step i h = grind (arith, nat_tests)

none_behind : (first end step i : ℕ) (ns : List Node) → end ≤ i → picked (is_place first end step) i ns ≡ []
none_behind first end step i [] h = refl
none_behind first end step i (n ∷ ns) h = rw (behind_last first end step i h, none_behind first end step (suc i) ns (omega (arith, h))) refl

-- the element at the first place, and those at the places behind it
up_from : (law : StepsOn) (k first end step i : ℕ) (ns : List Node) → i + k ≡ first → first < end → 0 < step → nth k ns ++ picked (is_place (first + step) end step) i ns ≡ picked (is_place first end step) i ns
up_from law k first end step i [] e below some = refl
up_from law zero first end step i (n ∷ ns) e below some =
    let at : i ≡ first = omega (arith, e) in
    let one : i + 1 ≡ suc i = omega arith in
    let front = rw one at (law.first first end step i n ns at below) in
    rw (before_first (first + step) end step i (omega (arith, at, some))) (sym front)
up_from law (suc k) first end step i (n ∷ ns) e below some =
    rw (before_first (first + step) end step i (omega (arith, e)), before_first first end step i (omega (arith, e))) (up_from law k first end step (suc i) ns (omega (arith, e)) below some)

-- ---- From the last place back

-- between the last place but one and the last there is none
not_between : (first end step i : ℕ) → 0 < step → first < end → (end - 1 - first) % step ≡ 0 → i < end - 1 → end - step ≤ i → is_place first end step i ≡ false
not_between first end step i some below aligned h k = elim (cases_lt i first) [
  | inl before ↦ before_first first end step i before
  | inr from ↦ elim (cases_lt 0 ((i - first) % step)) [
    | inl left ↦ grind (arith, nat_tests)
    | inr none ↦
        let q = div-add-mod (i - first) step in
        let d : end - 1 - first ≡ end - 1 - i + step * ((i - first) / step) = omega (arith, q, none, h, from) in
        let m : (end - 1 - first) % step ≡ (end - 1 - i) % step = ap (λ x. x % step) d ∙ add-mul-mod_self_left (end - 1 - i) step ((i - first) / step) in
        let r : (end - 1 - i) % step ≡ end - 1 - i = mod-eq_of_lt (omega (arith, h, k)) in
        absurd (omega (arith, m, r, aligned, h))
  ]
]

same_before : (first end step i : ℕ) → 0 < step → first < end → (end - 1 - first) % step ≡ 0 → i < end - 1 → is_place first (end - step) step i ≡ is_place first end step i
same_before first end step i some below aligned h = elim (cases_lt i (end - step)) [
  | inl within ↦ grind (arith, nat_tests)
  | inr above ↦ behind_last first (end - step) step i above ∙ sym (not_between first end step i some below aligned h above)
]

picked_by : (p : ℕ → Bool) (b : Bool) (i : ℕ) (n : Node) (ns xs : List Node) → p i ≡ b → picked p (suc i) ns ≡ xs → picked p i (n ∷ ns) ≡ (if b then n ∷ xs else xs)
picked_by p b i n ns xs e f = rw (e, f) refl

moved : (b : Bool) (n : Node) (xs ys : List Node) → (if b then n ∷ xs else xs) ++ ys ≡ (if b then n ∷ (xs ++ ys) else xs ++ ys)
moved true n xs ys = refl
moved false n xs ys = refl

-- the elements at the places before the last one, and that at it
back_from : (k first end step i : ℕ) (ns : List Node) → i + k ≡ end - 1 → first < end → 0 < step → (end - 1 - first) % step ≡ 0
    → picked (is_place first (end - step) step) i ns ++ nth k ns ≡ picked (is_place first end step) i ns
back_from k first end step i [] e below some aligned = refl
back_from zero first end step i (n ∷ ns) e below some aligned =
    let at : i ≡ end - 1 = omega (arith, e) in
    let yes : is_place first end step i ≡ true = grind (arith, nat_tests) in
    rw (none_behind first (end - step) step i (n ∷ ns) (omega (arith, at, some, below)), yes, none_behind first end step (suc i) ns (omega (arith, at, below))) refl
back_from (suc k) first end step i (n ∷ ns) e below some aligned =
    let same = same_before first end step i some below aligned (omega (arith, e)) in
    let rest = back_from k first end step (suc i) ns (omega (arith, e)) below some aligned in
    let b = is_place first end step i in
    let xs = picked (is_place first (end - step) step) (suc i) ns in
    ap (λ ms. ms ++ nth k ns) (picked_by (is_place first (end - step) step) b i n ns xs same refl) ∙ moved b n xs (nth k ns)
    ∙ ap (λ ms. if b then n ∷ ms else ms) rest ∙ sym (picked_by (is_place first end step) b i n ns (picked (is_place first end step) (suc i) ns) refl refl)

-- ---- The last place

-- the end that is right behind the last place
aligned_end : (first end step : ℕ) → ℕ
aligned_end first end step = end - (end - 1 - first) % step

last_left : (first end step : ℕ) → first < end → (end - (end - 1 - first) % step - 1 - first) % step ≡ 0
last_left first end step h =
    let q = div-add-mod (end - 1 - first) step in
    let e : end - (end - 1 - first) % step - 1 - first ≡ step * ((end - 1 - first) / step) = omega (arith, q, h) in
    ap (λ x. x % step) e ∙ mul-mod_right step ((end - 1 - first) / step)

same_aligned : (first end step i : ℕ) → 0 < step → first < end → is_place first (end - (end - 1 - first) % step) step i ≡ is_place first end step i
same_aligned first end step i some h =
    let q = div-add-mod (end - 1 - first) step in
    let less : (end - 1 - first) % step < step = mod-lt (end - 1 - first) some in
    elim (cases_lt i (end - (end - 1 - first) % step)) [
      | inl within ↦ grind (arith, nat_tests)
      | inr above ↦ elim (cases_lt i end) [
        | inr behind ↦ behind_last first (end - (end - 1 - first) % step) step i above ∙ sym (behind_last first end step i behind)
        | inl below ↦
            let k : i - first ≡ i - first - step * ((end - 1 - first) / step) + step * ((end - 1 - first) / step) = omega (arith, q, above, below, h) in
            let m : (i - first) % step ≡ (i - first - step * ((end - 1 - first) / step)) % step = ap (λ x. x % step) k ∙ add-mul-mod_self_left (i - first - step * ((end - 1 - first) / step)) step ((end - 1 - first) / step) in
            let r : (i - first - step * ((end - 1 - first) / step)) % step ≡ i - first - step * ((end - 1 - first) / step) = mod-eq_of_lt (omega (arith, q, above, below, h, less)) in
            let some_left : 0 < i - first - step * ((end - 1 - first) / step) = omega (arith, q, above, below, h) in
            let no : is_place first end step i ≡ false = grind (arith, nat_tests) in
            behind_last first (end - (end - 1 - first) % step) step i above ∙ sym no
      ]
    ]

-- ---- By the kind of the step

-- a place below 2^32 read as a signed number is the place
at_signed : (law : StepsOn) (w : ℕ) (ns : List Node) → w < 2 ^ 32 → at_index (Within (to_z w64 w)) ns ≡ nth w ns
at_signed law w ns h = ap (λ i. at_index (Within i) ns) (to_z_pos w64 w (omega (arith, h))) ∙ law.at w ns

nth_reversed : (w : ℕ) (ns : List Node) → reverse (nth w ns) ≡ nth w ns
nth_reversed w [] = refl
nth_reversed zero (n ∷ ns) = refl
nth_reversed (suc w) (n ∷ ns) = nth_reversed w ns

more_by : (law : StepsOn) (b : Bool) (first end step : ℕ) (xs ns : List Node) → end ≤ 2 ^ 32 → 0 < step → first < end → IsAligned b first end step → xs ≡ at_index (Within (to_z w64 (if b then end - 1 else first))) ns
    → xs ++ turned b (picked (is_place (if b then first else first + step) (if b then end - step else end) step) 0 ns) ≡ turned b (picked (is_place first end step) 0 ns)
more_by law false first end step xs ns fits some below a e = rw (e, at_signed law first ns (omega (arith, fits, below))) (up_from law first first end step 0 ns (omega arith) below some)
more_by law true first end step xs ns fits some below a e =
    let all = back_from (end - 1) first end step 0 ns (omega arith) below some (a below) in
    let parts = reverse-append (picked (is_place first (end - step) step) 0 ns) (nth (end - 1) ns) in
    rw (e, at_signed law (end - 1) ns (omega (arith, fits, below)))
    (ap (λ ms. ms ++ reverse (picked (is_place first (end - step) step) 0 ns)) (sym (nth_reversed (end - 1) ns)) ∙ sym parts ∙ ap (λ ms. reverse ms) all)

-- the element at the next place, and those behind it
pub strided_more : (law : StepsOn) (w : Stride) (xs ns : List Node) → IsStride w → w.first < w.end → xs ≡ at_index (Within (to_z w64 (place_of w))) ns → xs ++ strided (rest_of w) ns ≡ strided w ns
strided_more law w xs ns fits below e = more_by law w.is_back w.first w.end w.step xs ns fits.end fits.some below fits.aligned e

rest_aligned : (b : Bool) (first end step : ℕ) → first < end → IsAligned b first end step → IsAligned b (if b then first else first + step) (if b then end - step else end) step
rest_aligned false first end step below a = tt
rest_aligned true first end step below a = λ left. (let e : end - 1 - first ≡ end - step - 1 - first + step = omega (arith, left) in sym (add-mod_right (end - step - 1 - first) step) ∙ ap (λ x. x % step) (sym e) ∙ a below)

rest_end : (b : Bool) (end step : ℕ) → end ≤ 2 ^ 32 → (if b then end - step else end) ≤ 2 ^ 32
rest_end false end step h = h
rest_end true end step h = omega (arith, h)

pub rest_fits : (w : Stride) → IsStride w → w.first < w.end → IsStride (rest_of w)
rest_fits w fits below = record { end = rest_end w.is_back w.end w.step fits.end; some = fits.some; step = fits.step; aligned = rest_aligned w.is_back w.first w.end w.step below fits.aligned }

none_picked : (first end step i : ℕ) (ns : List Node) → end ≤ first → picked (is_place first end step) i ns ≡ []
none_picked first end step i [] h = refl
none_picked first end step i (n ∷ ns) h =
    let no : is_place first end step i ≡ false = grind (arith, nat_tests) in
    rw (no, none_picked first end step (suc i) ns h) refl

pub passed_stride : (w : Stride) (ns : List Node) → w.end ≤ w.first → strided w ns ≡ []
passed_stride w ns h = rw (none_picked w.first w.end w.step 0 ns h) (none_turned w.is_back)
  where
    none_turned : (b : Bool) → turned b [] ≡ []
    none_turned false = refl
    none_turned true = refl

-- ---- A slice's places

no_order : (step : ℤ) → in_order step [] ≡ []
no_order step = grind (arith, ints)

pub none_strided : (w : Stride) (first end by : ℕ) (step : ℤ) (ns : List Node) → w.end ≤ w.first → end ≤ first → strided w ns ≡ in_order step (picked (is_place first end by) 0 ns)
none_strided w first end by step ns h k = rw (passed_stride w ns h, none_picked first end by 0 ns k) (sym (no_order step))

pub still_strided : (w : Stride) (first end by : ℕ) (step : ℤ) (ns : List Node) → w.end ≤ w.first → step ≡ pos 0 → strided w ns ≡ in_order step (picked (is_place first end by) 0 ns)
still_strided w first end by step ns h e = rw (e, passed_stride w ns h) refl

pub up_strided : (first end by : ℕ) (step : ℤ) (ns : List Node) → pos 0 <ℤ step → strided (record { first = first; end = end; step = by; is_back = false }) ns ≡ in_order step (picked (is_place first end by) 0 ns)
up_strided first end by step ns h = grind (arith, ints)

pub back_strided : (first end by : ℕ) (step : ℤ) (ns : List Node) → step <ℤ pos 0 → 0 < by → first < end
    → strided (record { first = first; end = end - (end - 1 - first) % by; step = by; is_back = true }) ns ≡ in_order step (picked (is_place first end by) 0 ns)
back_strided first end by step ns h some below =
    let same : picked (is_place first (end - (end - 1 - first) % by) by) 0 ns ≡ picked (is_place first end by) 0 ns = λ k. picked (λ i. same_aligned first end by i some below k) 0 ns in
    let turns : in_order step (picked (is_place first end by) 0 ns) ≡ reverse (picked (is_place first end by) 0 ns) = grind (arith, ints) in
    rw (same, turns) refl

pub back_fits : (first end by : ℕ) → end ≤ 2 ^ 32 → 0 < by → by ≤ 2 ^ 63 → first < end → IsStride (record { first = first; end = end - (end - 1 - first) % by; step = by; is_back = true })
back_fits first end by fits some small below = record { end = omega (arith, fits); some = some; step = small; aligned = λ h. last_left first end by below }

pub ruleset strides = (none_strided, still_strided, up_strided, back_strided, back_fits)
