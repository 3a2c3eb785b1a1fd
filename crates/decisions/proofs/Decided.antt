-- The cell of a value's kind and place is the truth of the condition.
use Rattle.std.proofs.Common.{◌≡◌, ℕ, ◌+◌, ◌*◌, ◌<◌, ◌≤◌, List, [], ◌∷◌, length, get_or, map, Bool, true, false, Option, Some, None, sym, ap, subst, ◌∙◌, arith}
use Rattle.std.specs.Prelude.{nat_eq, if◌then◌else◌}
use Rattle.std.specs.List.{All, Contains}
use Rattle.std.specs.declared.alloc.Global.{Global}
use Rattle.std.specs.declared.vec.Vec.{Vec}
use Rattle.std.proofs.lemmas.Cmp.{tied_itself}
use Rattle.std.proofs.lemmas.List.{get_or-map, get_or_default, length-map}
use Rattle.std.proofs.lemmas.List.Elements.{All-contains}
use Rattle.path_grammar.specs.Tree.{Literal}
use Rattle.decisions.specs.Tree.{Tested}
use Rattle.path_meaning.specs.Comparison.{Value, a_null, a_boolean, a_number, a_text, a_container, literal_value}
use Rattle.decisions.specs.Laws.{TellsByPlaces}
use Rattle.decisions.specs.Order.{kind, value_cmp}
use Rattle.decisions.specs.Places.{place, HasTie, from_place, AreCells, Decides}
use Rattle.decisions.specs.Truth.{truth, truth_by, versus, literals}
use Rattle.decisions.specs.Views.{constant_value}
use Rattle.decisions.specs.declared.relation.Relation.{Relation}
use Rattle.decisions.specs.declared.test.Constant.{Constant}
use Rattle.decisions.proofs.Alike.{alike}

pub kinds_below : (v : Option Value) → kind v < 7
kinds_below None = omega arith
kinds_below (Some a_null) = omega arith
kinds_below (Some (a_boolean true)) = omega arith
kinds_below (Some (a_boolean false)) = omega arith
kinds_below (Some (a_number t)) = omega arith
kinds_below (Some (a_text s)) = omega arith
kinds_below (Some (a_container t)) = omega arith

module _ (law : TellsByPlaces) where
  tie : (vs : List (Option Value)) (v : Option Value) → Contains vs v → HasTie value_cmp vs v
  tie vs v c = (c.0, c.1, ap (λ w. value_cmp w v) c.2 ∙ tied_itself law.order v)

  stands : (vs : List (Option Value)) (v : Option Value) (l : Literal) → Contains vs (Some (literal_value l)) → from_place vs (kind v) (place value_cmp vs v) l ≡ versus v l
  stands vs v l c = ap (λ o. if nat_eq (kind v) (kind (Some (literal_value l))) then Some o else None) (law.values vs v (Some (literal_value l)) (tie vs (Some (literal_value l)) c))

  pub looked_up : (xs : List Constant) (ts : List (Vec Bool Global)) (m : Relation) (e : Tested) (v : Option Value) (cells : Vec Bool Global) (k p : ℕ) (r : Bool)
      → Decides (map constant_value xs) (map (λ (t : Vec Bool Global). t.items) ts) m e → k ≡ kind v → p ≡ place value_cmp (map constant_value xs) v → p ≤ 2 * length xs
      → cells ≡ get_or ts k cells → r ≡ get_or cells.items p r → r ≡ truth v m e
  looked_up xs ts m e v cells k p r d same at within is found =
      let vs = map constant_value xs in
      let many = length-map ts (λ (t : Vec Bool Global). t.items) in
      let few = kinds_below v in
      let all = d.kinds in
      let inside : k < length ts = omega arith in
      let there : k < length (map (λ (t : Vec Bool Global). t.items) ts) = omega arith in
      let row : cells.items ≡ get_or (map (λ (t : Vec Bool Global). t.items) ts) k [] = ap (λ (t : Vec Bool Global). t.items) is ∙ sym (get_or-map (λ (t : Vec Bool Global). t.items) ts k cells [] inside) in
      let long = length-map xs constant_value in
      let sized : length cells.items ≡ 2 * length vs + 1 = ap length row ∙ (d.right k there).sized in
      let below : p < length cells.items = omega arith in
      let right = (d.right k there).right p (subst (λ ys. p < length ys) row below) in
      found ∙ get_or_default cells.items p r false below ∙ ap (λ ys. get_or ys p false) row ∙ right
      ∙ alike (from_place vs k p) (versus v) m e (λ l c. ap (λ j. from_place vs j p l) same ∙ ap (λ q. from_place vs (kind v) q l) at ∙ stands vs v l (All-contains (λ y. Contains vs (Some (literal_value y))) (literals e) l d.known c))

-- from vectors to lists
module _ (P : ℕ → List Bool → Type 0) where
  lists_right : (ts : List (Vec Bool Global)) → ((k : ℕ) (d : Vec Bool Global) → k < length ts → P k (get_or ts k d).items) → (k : ℕ) → k < length (map (λ (t : Vec Bool Global). t.items) ts) → P k (get_or (map (λ (t : Vec Bool Global). t.items) ts) k [])
  lists_right [] h k l = absurd (omega arith)
  lists_right (t ∷ ts) h k l =
      let long = length-map (t ∷ ts) (λ (u : Vec Bool Global). u.items) in
      let inside : k < length (t ∷ ts) = omega arith in
      subst (P k) (sym (get_or-map (λ (u : Vec Bool Global). u.items) (t ∷ ts) k t [] inside)) (h k t inside)

pub decides : (xs ys : List Constant) (ts : List (Vec Bool Global)) (m : Relation) (e : Tested) → ys ≡ xs → All (λ l. Contains (map constant_value xs) (Some (literal_value l))) (literals e) → length ts ≡ 7
    → ((k : ℕ) (d : Vec Bool Global) → k < length ts → AreCells (length ys) (get_or ts k d).items (λ p. truth_by (from_place (map constant_value ys) k p) m e))
    → Decides (map constant_value xs) (map (λ (t : Vec Bool Global). t.items) ts) m e
decides xs ys ts m e same known kinds right = record {
  known = known;
  kinds = length-map ts (λ (t : Vec Bool Global). t.items) ∙ kinds;
  right = lists_right (λ k cells. AreCells (length (map constant_value xs)) cells (λ p. truth_by (from_place (map constant_value xs) k p) m e)) ts
      (λ k d l. subst (λ zs. AreCells (length (map constant_value xs)) (get_or ts k d).items (λ p. truth_by (from_place (map constant_value zs) k p) m e)) same
      (subst (λ n. AreCells n (get_or ts k d).items (λ p. truth_by (from_place (map constant_value ys) k p) m e)) (ap length same ∙ sym (length-map xs constant_value)) (right k d l)));
}
