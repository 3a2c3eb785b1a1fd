-- A query of names and indexes is charged no more than the number of its segments.
use Rattle.std.proofs.Common.{◌≡◌, ℕ, zero, suc, ◌≤◌, Bool, true, false, if◌then◌else◌, List, [], ◌∷◌, length, Option, Some, None, refl, arith, length-append}
use Rattle.json_tape.specs.Nodes.{Node, Step, key, place, children, elements, is_named, first_where}
use Rattle.tape_values.specs.Selection.{nth, nth_if}
use Rattle.tape_select.specs.Evaluation.{from_starts, selected, selected_by}
use Rattle.tape_select.specs.Charge.{charge_from, charge_by}
use Rattle.path_law.proofs.Ways.{selector_of, selectors_to, query_of}

one_nth : (i : ℕ) (ns : List Node) → length (nth i ns) ≤ 1
one_nth zero [] = omega arith
one_nth (suc i) [] = omega arith
one_nth zero (n ∷ ns) = omega arith
one_nth (suc i) (n ∷ ns) = one_nth i ns

one_nth_if : (i : Option ℕ) (ns : List Node) → length (nth_if i ns) ≤ 1
one_nth_if None ns = omega arith
one_nth_if (Some i) ns = one_nth i ns

one_first : (p : Node → Bool) (ns : List Node) → length (first_where p ns) ≤ 1
one_first p [] = omega arith
one_first p (n ∷ ns) = by_test (p n) (one_first p ns)
  where
    by_test : (b : Bool) → length (first_where p ns) ≤ 1 → length (if b then n ∷ [] else first_where p ns) ≤ 1
    by_test true h = omega arith
    by_test false h = h

one_selected : (root : Node) (s : Step) (n : Node) → length (selected_by root (selector_of s) n) ≤ 1
one_selected root (key cs) n = one_first (is_named cs) (children n)
one_selected root (place i) n = one_nth_if _ (elements n)

step_charge : (root : Node) (s : Step) (n : Node) → charge_by root (selector_of s) n ≡ 1
step_charge root (key cs) n = refl
step_charge root (place i) n = refl

pub charge_of_steps : (root : Node) (ss : List Step) (ns : List Node) → length ns ≤ 1 → charge_from root (query_of ss) ns ≤ length ss
charge_of_steps root [] ns h = omega arith
charge_of_steps root (s ∷ ss) [] h = let i = charge_of_steps root ss [] (omega arith) in omega arith
charge_of_steps root (s ∷ ss) (n ∷ []) h =
    let given = from_starts false (λ m. selected root (selectors_to s) m) (n ∷ []) in
    let one : length given ≤ 1 = (let o = one_selected root s n in simp length-append (omega arith)) in
    let i = charge_of_steps root ss given one in
    let c = step_charge root s n in
    omega arith
charge_of_steps root (s ∷ ss) (n ∷ m ∷ ns) h = absurd (omega arith)
