-- Two ways of comparing that agree on each literal of a condition tell it alike.
use Rattle.std.proofs.Common.{◌≡◌, [], ◌&&◌, ◌||◌, Option, refl, ap}
use Rattle.std.specs.Prelude.{not as opposite}
use Rattle.std.specs.List.{Contains}
use Rattle.std.specs.declared.cmp.Ordering.{Ordering}
use Rattle.std.proofs.lemmas.List.Elements.{Contains-append_left, Contains-append_right, Contains-push}
use Rattle.path_grammar.specs.Tree.{Literal}
use Rattle.decisions.specs.Tree.{Tested, Tests, any, each, negated, value, against, two, present, itself, rooted, no_tests, tested}
use Rattle.decisions.specs.declared.relation.Relation.{Relation}
use Rattle.decisions.specs.Truth.{told_by, turned, truth_by, some_true, all_true, literals, all_literals}

module _ (f g : Literal → Option Ordering) (r : Relation) where
  mutual
    pub alike : (t : Tested) → ((l : Literal) → Contains (literals t) l → f l ≡ g l) → truth_by f r t ≡ truth_by g r t
    alike (any ts) h = some_alike ts h
    alike (each ts) h = all_alike ts h
    alike (negated t) h = ap opposite (alike t h)
    alike (value op l) h = ap (told_by op) (h l (Contains-push [] l))
    alike (against l op) h = ap (λ o. told_by op (turned o)) (h l (Contains-push [] l))
    alike (two l op m) h = refl
    alike (present from_root) h = refl
    alike (itself from_root op) h = refl
    alike (rooted turned op) h = refl

    some_alike : (ts : Tests) → ((l : Literal) → Contains (all_literals ts) l → f l ≡ g l) → some_true f r ts ≡ some_true g r ts
    some_alike no_tests h = refl
    some_alike (tested t others) h =
        let a = alike t (λ l m. h l (Contains-append_left (literals t) (all_literals others) l m)) in
        let b = some_alike others (λ l m. h l (Contains-append_right (literals t) (all_literals others) l m)) in
        λ i. a i || b i

    all_alike : (ts : Tests) → ((l : Literal) → Contains (all_literals ts) l → f l ≡ g l) → all_true f r ts ≡ all_true g r ts
    all_alike no_tests h = refl
    all_alike (tested t others) h =
        let a = alike t (λ l m. h l (Contains-append_left (literals t) (all_literals others) l m)) in
        let b = all_alike others (λ l m. h l (Contains-append_right (literals t) (all_literals others) l m)) in
        λ i. a i && b i
