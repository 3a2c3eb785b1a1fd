-- The query of a list of steps: a segment of one name or one index for each.
use Rattle.std.proofs.Common.{◌≡◌, ℕ, ◌≤◌, true, false, List, [], ◌∷◌, ◌++◌, nat_le, pos, refl, ap, arith}
use Rattle.std.proofs.lemmas.Bool.Decides.{nat_tests}
use Rattle.std.specs.List.{AllByRecursion}
use Rattle.std.specs.Char.{IsScalar}
use Rattle.json_tape.specs.Nodes.{Node, Step, key, place}
use Rattle.path_grammar.specs.declared.ast.IntLit.TheVariants.{Within}
use Rattle.path_grammar.specs.Tree.{Segments, no_segments, segment, Selectors, no_selectors, selector, Selector, name, index}
use Rattle.path_types.specs.Validity.{is_valid}
use Rattle.tape_select.specs.Evaluation.{from_starts, evaluated, selected, selected_by}

abbrev pub selector_of : Step → Selector
selector_of (key cs) = name cs
selector_of (place i) = index (Within (pos i))

abbrev pub selectors_to : Step → Selectors
selectors_to s = selector (selector_of s) no_selectors

abbrev pub query_of : List Step → Segments
query_of [] = no_segments
query_of (s ∷ ss) = segment false (selectors_to s) (query_of ss)

-- a name of scalar values, or an index in the range of exact doubles
abbrev pub IsPlain : Step → Type 0
IsPlain (key cs) = AllByRecursion IsScalar cs
IsPlain (place i) = i ≤ 9007199254740991

small_index : (i : ℕ) → i ≤ 9007199254740991 → nat_le i 9007199254740991 ≡ true
small_index i h = grind (arith, nat_tests)

pub valid : (ss : List Step) → AllByRecursion IsPlain ss → is_valid (query_of ss) ≡ true
valid [] h = refl
valid (key cs ∷ ss) h = valid ss h.1
valid (place i ∷ ss) h = let e = valid ss h.1 in let f = small_index i h.0 in rw (f, e) refl

module _ (root : Node) where
  -- one segment after others
  pub evaluated_append : (xs ys : List Step) (ns : List Node) → evaluated root (query_of (xs ++ ys)) ns ≡ evaluated root (query_of ys) (evaluated root (query_of xs) ns)
  evaluated_append [] ys ns = refl
  evaluated_append (s ∷ xs) ys ns = evaluated_append xs ys (from_starts false (λ m. selected root (selectors_to s) m) ns)

  -- one more step
  pub one_step : (s : Step) (m n : Node) → selected_by root (selector_of s) m ≡ n ∷ [] → evaluated root (query_of (s ∷ [])) (m ∷ []) ≡ n ∷ []
  one_step s m n e = ap (λ (ns : List Node). ((ns ++ []) ++ []) ++ []) e
