-- Laws that the definitions have to meet.
use Rattle.std.specs.Prelude.{◌≡◌, true, false, List, Option, Some}
use Rattle.std.specs.Cmp.{IsTotalOrder}
use Rattle.std.specs.Ordering.{nat_cmp}
use Rattle.std.specs.declared.cmp.Ordering.TheVariants.{Equal}
use Rattle.path_grammar.specs.Tree.{Literal}
use Rattle.path_grammar.specs.declared.ast.Op.{Op}
use Rattle.path_meaning.specs.Comparison.{Value, literal_value, compared, told}
use Rattle.decisions.specs.Order.{kind, value_cmp}
use Rattle.decisions.specs.Truth.{told_by, turned, versus, related, IsRelated}
use Rattle.decisions.specs.declared.relation.Relation.{Relation}
use Rattle.decisions.specs.Places.{place, HasTie}
use Rattle.decisions.specs.Marks.{mark, cell}

-- comparisons with literals, of a value with itself, and of two values whose relation is known, are told as RFC 9535, section 2.3.5.2.2 has them
pub record TellsAsCompared : Type 0 where
  pub left : (op : Op) (v : Option Value) (l : Literal) → compared op v (Some (literal_value l)) ≡ told_by op (versus v l)
  pub right : (op : Op) (v : Option Value) (l : Literal) → compared op (Some (literal_value l)) v ≡ told_by op (turned (versus v l))
  pub itself : (op : Op) (v : Option Value) → compared op v v ≡ told op Equal
  pub forth : (op : Op) (r : Relation) (v w : Option Value) → IsRelated r v w → compared op v w ≡ related r false op
  pub back : (op : Op) (r : Relation) (v w : Option Value) → IsRelated r v w → compared op w v ≡ related r true op

-- In a total order, in which values that tie may differ, the place of a value compares with that of a literal as the value does with
-- the literal.
pub record TellsByPlaces : Type 0 where
  pub order : IsTotalOrder value_cmp
  pub values : (vs : List (Option Value)) (v l : Option Value) → HasTie value_cmp vs l → nat_cmp (place value_cmp vs v) (place value_cmp vs l) ≡ value_cmp v l

-- Values of one mark are of one kind, and compare alike with what ties with one of those among which they have it; and a cell is that of two marks.
pub record TellsByMarks : Type 0 where
  pub itself : (v : Option Value) → value_cmp v v ≡ Equal
  pub kinds : (vs : List (Option Value)) (v w : Option Value) → mark vs v ≡ mark vs w → kind v ≡ kind w
  pub left : (vs : List (Option Value)) (v w : Option Value) (op : Op) (l : Literal) → HasTie value_cmp vs (Some (literal_value l)) → mark vs v ≡ mark vs w → compared op v (Some (literal_value l)) ≡ compared op w (Some (literal_value l))
  pub right : (vs : List (Option Value)) (v w : Option Value) (op : Op) (l : Literal) → HasTie value_cmp vs (Some (literal_value l)) → mark vs v ≡ mark vs w → compared op (Some (literal_value l)) v ≡ compared op (Some (literal_value l)) w
  pub cells : (vs : List (Option Value)) (a b c d : Option Value) → cell vs a b ≡ cell vs c d → (mark vs a ≡ mark vs c) × (mark vs b ≡ mark vs d)
