-- Lists that are made part by part: what is made and what is left are what there was.
use Rattle.std.proofs.Common.{◌≡◌, ℕ, ◌+◌, ◌<◌, Bool, true, false, ◌&&◌, List, [], ◌∷◌, ◌++◌, map, length, drop, get_or, refl, sym, ap, ◌∙◌}
use Rattle.std.specs.Prelude.{IsTrue}
use Rattle.std.proofs.lemmas.List.{drop_more}
use Rattle.query_plan.specs.Planned.{With, trees}

pub push_tree : {A B : Type 0} (f : A → With B) (xs : List A) (one : A) (ys : List B) → trees (map f (xs ++ one ∷ [])) ++ ys ≡ trees (map f xs) ++ (f one).tree ∷ ys
push_tree f [] one ys = refl
push_tree f (x ∷ xs) one ys = ap (λ zs. (f x).tree ∷ zs) (push_tree f xs one ys)

-- the part at the index is made
pub made_more : {A B C : Type 0} (f : A → With B) (g : C → B) (made : List A) (one : A) (ss : List C) (i : ℕ) (item : C) → i < length ss → item ≡ get_or ss i item → (f one).tree ≡ g item
    → trees (map f (made ++ one ∷ [])) ++ map g (drop (i + 1) ss) ≡ trees (map f made) ++ map g (drop i ss)
made_more f g made one ss i item lt e h =
    push_tree f made one (map g (drop (i + 1) ss))
    ∙ ap (λ t. trees (map f made) ++ t ∷ map g (drop (i + 1) ss)) (h ∙ ap (λ x. g x) e)
    ∙ ap (λ xs. trees (map f made) ++ map g xs) (sym (drop_more ss i item lt))

pub both_true : (a b : Bool) → IsTrue (a && b) → IsTrue a × IsTrue b
both_true true true h = (refl, refl)
both_true true false h = absurd cc
both_true false b h = absurd cc

-- the test of all parts, of the part at the index and of the rest
pub valid_more : {C : Type 0} (p : List C → Bool) (q : C → Bool) (ss : List C) (i : ℕ) (item : C) → ((x : C) (xs : List C) → p (x ∷ xs) ≡ (q x && p xs)) → i < length ss → item ≡ get_or ss i item → IsTrue (p (drop i ss))
    → IsTrue (q item) × IsTrue (p (drop (i + 1) ss))
valid_more p q ss i item f lt e h =
    both_true (q item) (p (drop (i + 1) ss)) (rw (← e) at (rw (f (get_or ss i item) (drop (i + 1) ss)) at (rw (drop_more ss i item lt) at h)))
