-- The cell of a node on a scale.
use Rattle.std.proofs.Common.{◌≡◌, ℕ, false, ◌∷◌, Option, Some, None, sym, ◌∙◌}
use Rattle.std.specs.Prelude.{IsTrue, IfSome}
use Rattle.json_tape.specs.Nodes.{Node}
use Rattle.json_tape.specs.Document.{Doc, node_at}
use Rattle.tape_values.specs.Comparison.{Value, value_of}
use Rattle.tape_values.specs.Functions.{length_value, whole_number}
use Rattle.decisions.specs.Marks.{cell}
use Rattle.decisions.specs.Decided.{values_on, beside, values_in, AreApart, IsCell}
use Rattle.decisions.specs.declared.scale.Scale.{Scale}

pub is_cell : (d : Doc) (s : Scale) (n : Node) (l : Option Value) (r : Option ℕ) → s.is_rooted ≡ false → IfSome r (λ i. i ≡ cell (values_on s) (Some (value_of n.tree)) l) → l ≡ length_value (Some (value_of n.tree))
    → IfSome r (λ i. IsCell (node_at d 0) n s i)
is_cell d s n l None unrooted h e = tt
is_cell d s n l (Some i) unrooted h e =
    let same : cell (values_on s) (Some (value_of n.tree)) l ≡ cell (values_in (node_at d 0) s) (Some (value_of n.tree)) (length_value (Some (value_of n.tree))) =
    λ j. cell (beside (sym unrooted j) (length_value (Some (value_of (node_at d 0).tree))) (values_on s)) (Some (value_of n.tree)) (e j)
    in record {
      marks = h ∙ same;
      apart = λ told. absurd (let k = sym unrooted ∙ told in cc);
      long = λ told. absurd (let k = sym unrooted ∙ told in cc);
    }

-- beside the length of the root, which is this
pub is_cell_beside : (d : Doc) (s : Scale) (n : Node) (l : Option Value) (k : ℕ) (r : Option ℕ) → IsTrue s.is_rooted → IfSome r (λ i. i ≡ cell (Some (whole_number k) ∷ values_on s) (Some (value_of n.tree)) l) → l ≡ length_value (Some (value_of n.tree))
    → length_value (Some (value_of (node_at d 0).tree)) ≡ Some (whole_number k) → AreApart (Some (value_of n.tree)) (Some (value_of (node_at d 0).tree)) → IfSome r (λ i. IsCell (node_at d 0) n s i)
is_cell_beside d s n l k None rooted h e long apart = tt
is_cell_beside d s n l k (Some i) rooted h e long apart =
    let same : cell (Some (whole_number k) ∷ values_on s) (Some (value_of n.tree)) l ≡ cell (values_in (node_at d 0) s) (Some (value_of n.tree)) (length_value (Some (value_of n.tree))) =
    λ j. cell (beside (sym rooted j) (sym long j) (values_on s)) (Some (value_of n.tree)) (e j)
    in record { marks = h ∙ same; apart = λ told. apart; long = λ told. (k, long) }
