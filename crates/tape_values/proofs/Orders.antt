-- How strings of a document compare, by what their bytes mean.
use Rattle.std.proofs.Common.{◌≡◌, ℕ, List, [], ◌∷◌, ◌++◌, Some, refl, sym, ◌∙◌, arith}
use Rattle.std.specs.Prelude.{bytes_eq}
use Rattle.std.specs.Cmp.Lexicographic.{slice_cmp}
use Rattle.std.specs.Ordering.{nat_cmp, is_eq, is_lt, is_gt}
use Rattle.path_grammar.specs.declared.ast.Op.{Op}
use Rattle.tape_values.specs.Comparison.{less_scalars, compared, told, told_of, TellsComparisons, a_text}
use Rattle.tape_values.specs.Fronts.{meant_by}

-- a common beginning tells nothing
pub front_ties : (front xs ys : List ℕ) → slice_cmp nat_cmp (front ++ xs) (front ++ ys) ≡ slice_cmp nat_cmp xs ys
front_ties [] xs ys = refl
front_ties (c ∷ front) xs ys = grind (arith, front_ties front xs ys)

pub equal_by : (xs ys : List ℕ) → bytes_eq xs ys ≡ is_eq (slice_cmp nat_cmp xs ys)
equal_by [] [] = refl
equal_by [] (y ∷ ys) = refl
equal_by (x ∷ xs) [] = refl
equal_by (x ∷ xs) (y ∷ ys) = grind (arith, equal_by xs ys)

pub less_by : (xs ys : List ℕ) → less_scalars xs ys ≡ is_lt (slice_cmp nat_cmp xs ys)
less_by [] [] = refl
less_by [] (y ∷ ys) = refl
less_by (x ∷ xs) [] = refl
less_by (x ∷ xs) (y ∷ ys) = grind (arith, less_by xs ys)

pub greater_by : (xs ys : List ℕ) → less_scalars ys xs ≡ is_gt (slice_cmp nat_cmp xs ys)
greater_by [] [] = refl
greater_by [] (y ∷ ys) = refl
greater_by (x ∷ xs) [] = refl
greater_by (x ∷ xs) (y ∷ ys) = grind (arith, greater_by xs ys)

turned_by : (xs ys : List ℕ) → bytes_eq ys xs ≡ is_eq (slice_cmp nat_cmp xs ys)
turned_by [] [] = refl
turned_by [] (y ∷ ys) = refl
turned_by (x ∷ xs) [] = refl
turned_by (x ∷ xs) (y ∷ ys) = grind (arith, turned_by xs ys)

-- a comparison of two strings
pub texts_told : TellsComparisons → (op : Op) (xs ys : List ℕ) → compared op (Some (a_text xs)) (Some (a_text ys)) ≡ told op (slice_cmp nat_cmp xs ys)
texts_told law op xs ys =
    let same : told_of (bytes_eq xs ys) (bytes_eq ys xs) (less_scalars xs ys) (less_scalars ys xs) op ≡ told op (slice_cmp nat_cmp xs ys) = λ i. told_of (equal_by xs ys i) (turned_by xs ys i) (less_by xs ys i) (greater_by xs ys i) op in
    law op (Some (a_text xs)) (Some (a_text ys)) ∙ same

pub ruleset orders = (equal_by, less_by, texts_told)

pub rests_tie : (a b xs ys ls rs : List ℕ) → xs ≡ meant_by a → ys ≡ meant_by b → (front : List ℕ) → meant_by a ≡ front ++ ls → meant_by b ≡ front ++ rs
    → slice_cmp nat_cmp ls rs ≡ slice_cmp nat_cmp xs ys
rests_tie a b xs ys ls rs e f front g h = sym (front_ties front ls rs) ∙ rw (← g, ← h, ← e, ← f) refl
