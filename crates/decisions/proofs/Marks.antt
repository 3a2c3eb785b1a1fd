-- Values of one mark compare alike, and a cell has two marks.
use Rattle.std.proofs.Common.{◌≡◌, ℕ, ◌+◌, ◌*◌, ◌<◌, List, [], ◌∷◌, length, get_or, zero, suc, Bool, true, false, ◌&&◌, ◌||◌, Option, Some, None, refl, sym, ap, ◌∙◌, arith}
use Rattle.std.specs.Prelude.{IsTrue, IfSome, nat_eq, if◌then◌else◌}
use Rattle.std.specs.Cmp.{IsTotalOrder}
use Rattle.std.specs.List.{All, Contains}
use Rattle.std.specs.Ordering.{nat_cmp, is_eq, is_lt, is_le}
use Rattle.std.specs.declared.cmp.Ordering.{Ordering}
use Rattle.std.specs.declared.cmp.Ordering.TheVariants.{Less}
use Rattle.std.proofs.lemmas.Grind.{common_steps}
use Rattle.std.proofs.lemmas.Cmp.{tied_itself}
use Rattle.std.proofs.lemmas.List.Elements.{All-head, All-rest}
use Rattle.std.proofs.lemmas.List.Sums.{count_by-le-length}
use Rattle.std.proofs.lemmas.Nat.{same_from_place}
use Rattle.decimal_order.specs.Order.{number_cmp}
use Rattle.path_grammar.specs.Tree.{Literal}
use Rattle.path_grammar.specs.declared.ast.Op.{Op}
use Rattle.path_meaning.specs.Comparison.{Value, literal_value, compared, TellsComparisons}
use Rattle.decisions.specs.Marks.{mark, cell, is_among, are_among}
use Rattle.decisions.specs.Order.{kind, value_cmp}
use Rattle.decisions.specs.Places.{place, HasTie}
use Rattle.decisions.specs.Truth.{told_by, turned, versus}
use Rattle.decisions.proofs.Counts.{place_tells, place_more, place_with}
use Rattle.decisions.proofs.Decided.{kinds_below}
use Rattle.decisions.proofs.Orders.{value_total, less_kind, compared_left, compared_right}

or_first : (a b : Bool) → IsTrue a → IsTrue (a || b)
or_first true b h = refl
or_first false b h = absurd cc

or_second : (a b : Bool) → IsTrue b → IsTrue (a || b)
or_second true b h = refl
or_second false b h = h

both_true : (a b : Bool) → IsTrue a → IsTrue b → IsTrue (a && b)
both_true true b h k = k
both_true false b h k = absurd cc

mark_below : (vs : List (Option Value)) (v : Option Value) → mark vs v < 2 * length vs + 7
mark_below vs v =
    let k = kinds_below v in
    let a = count_by-le-length (λ x. is_lt (value_cmp x v)) vs in
    let b = count_by-le-length (λ x. is_le (value_cmp x v)) vs in
    omega (arith, k, a, b)

pub marked_cells : (vs : List (Option Value)) (a b c d : Option Value) → cell vs a b ≡ cell vs c d → (mark vs a ≡ mark vs c) × (mark vs b ≡ mark vs d)
marked_cells vs a b c d e = same_from_place (mark vs a) (mark vs b) (mark vs c) (mark vs d) (2 * length vs + 7) (mark_below vs b) (mark_below vs d) e

-- a mark and a cell among one more
pub mark_with : (x : Option Value) (vs : List (Option Value)) (v : Option Value) → mark (x ∷ vs) v ≡ mark vs v + place value_cmp (x ∷ []) v
mark_with x vs v = let e = place_with value_cmp x vs v in omega (arith, e)

pub cell_with : (x : Option Value) (vs : List (Option Value)) (v w : Option Value) (row column count : ℕ) (r : Option ℕ) → row ≡ mark (x ∷ vs) v → column ≡ mark (x ∷ vs) w → count ≡ length vs + 1
    → IfSome r (λ i. i ≡ row * (2 * count + 7) + column) → IfSome r (λ i. i ≡ cell (x ∷ vs) v w)
cell_with x vs v w row column count None e f g h = tt
cell_with x vs v w row column count (Some i) e f g h =
    let long : 2 * count + 7 ≡ 2 * length (x ∷ vs) + 7 = omega (arith, g) in
    let same : row * (2 * count + 7) + column ≡ cell (x ∷ vs) v w = λ j. e j * long j + f j in
    h ∙ same

record Parts (vs : List (Option Value)) (v w : Option Value) : Type 0 where
  kinds : kind v ≡ kind w
  places : place value_cmp vs v ≡ place value_cmp vs w

module _ (n : IsTotalOrder number_cmp) where
  -- the kind and the place of a mark
  parts : (vs : List (Option Value)) (v w : Option Value) → mark vs v ≡ mark vs w → Parts vs v w
  parts vs v w e = go (nat_cmp (kind v) (kind w)) (nat_cmp (kind w) (kind v)) refl refl
    where
      go : (o p : Ordering) → nat_cmp (kind v) (kind w) ≡ o → nat_cmp (kind w) (kind v) ≡ p → Parts vs v w
      go Less p f g =
          let more = place_more value_cmp (value_total n) vs v w (less_kind v w f) in
          let lt : kind v < kind w = grind (arith, common_steps, f) in
          absurd (omega arith)
      go o Less f g =
          let more = place_more value_cmp (value_total n) vs w v (less_kind w v g) in
          let lt : kind w < kind v = grind (arith, common_steps, g) in
          absurd (omega arith)
      go o p f g =
          let same : kind v ≡ kind w = grind (arith, common_steps, f, g) in
          record { kinds = same; places = omega arith }

  pub marked_kinds : (vs : List (Option Value)) (v w : Option Value) → mark vs v ≡ mark vs w → kind v ≡ kind w
  marked_kinds vs v w e = (parts vs v w e).kinds

  alike : (vs : List (Option Value)) (v w : Option Value) (l : Literal) → HasTie value_cmp vs (Some (literal_value l)) → mark vs v ≡ mark vs w → versus v l ≡ versus w l
  alike vs v w l tie e =
      let p = parts vs v w e in
      let m : Option Value = Some (literal_value l) in
      let same : value_cmp v m ≡ value_cmp w m = sym (place_tells value_cmp (value_total n) vs v m tie) ∙ ap (λ k. nat_cmp k (place value_cmp vs m)) p.places ∙ place_tells value_cmp (value_total n) vs w m tie in
      λ i. if nat_eq (p.kinds i) (kind m) then Some (same i) else None

  pub marked_left : TellsComparisons → (vs : List (Option Value)) (v w : Option Value) (op : Op) (l : Literal) → HasTie value_cmp vs (Some (literal_value l)) → mark vs v ≡ mark vs w → compared op v (Some (literal_value l)) ≡ compared op w (Some (literal_value l))
  marked_left law vs v w op l tie e = compared_left n law op v l ∙ ap (told_by op) (alike vs v w l tie e) ∙ sym (compared_left n law op w l)

  pub marked_right : TellsComparisons → (vs : List (Option Value)) (v w : Option Value) (op : Op) (l : Literal) → HasTie value_cmp vs (Some (literal_value l)) → mark vs v ≡ mark vs w → compared op (Some (literal_value l)) v ≡ compared op (Some (literal_value l)) w
  marked_right law vs v w op l tie e = compared_right n law op v l ∙ ap (λ o. told_by op (turned o)) (alike vs v w l tie e) ∙ sym (compared_right n law op w l)

  -- ---- Literals among values

  is_among_at : (vs : List (Option Value)) (l : Literal) (k : ℕ) → k < length vs → get_or vs k (Some (literal_value l)) ≡ Some (literal_value l) → IsTrue (is_among vs l)
  is_among_at [] l k lt e = absurd (omega arith)
  is_among_at (v ∷ vs) l zero lt e = or_first (is_eq (value_cmp v (Some (literal_value l)))) (is_among vs l) (ap (λ w. is_eq (value_cmp w (Some (literal_value l)))) e ∙ ap is_eq (tied_itself (value_total n) (Some (literal_value l))))
  is_among_at (v ∷ vs) l (suc k) lt e = or_second (is_eq (value_cmp v (Some (literal_value l)))) (is_among vs l) (is_among_at vs l k (omega arith) e)

  pub are_among_known : (vs : List (Option Value)) (ls : List Literal) → All (λ l. Contains vs (Some (literal_value l))) ls → IsTrue (are_among vs ls)
  are_among_known vs [] h = refl
  are_among_known vs (l ∷ ls) h =
      let c = All-head (λ m. Contains vs (Some (literal_value m))) l ls h in
      both_true (is_among vs l) (are_among vs ls) (is_among_at vs l c.0 c.1 c.2) (are_among_known vs ls (All-rest (λ m. Contains vs (Some (literal_value m))) l ls (l ∷ ls) refl h))
