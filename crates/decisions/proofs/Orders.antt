-- The order of literals and values, and comparisons that are told by it.
use Rattle.std.proofs.Common.{◌≡◌, ℕ, List, [], ◌∷◌, Bool, true, false, not, Option, Some, None, refl, sym, ap, subst, ◌∙◌, arith}
use Rattle.std.specs.Prelude.{bytes_eq, nat_eq}
use Rattle.std.specs.Cmp.{IsTotalOrder, on_total, then_total}
use Rattle.std.specs.Cmp.Lexicographic.{slice_cmp, lists_ties}
use Rattle.std.specs.Ordering.{nat_cmp, ordering_then, ordering_reverse, is_eq, is_lt, is_le, is_gt, is_some_and}
use Rattle.std.specs.declared.cmp.Ordering.{Ordering}
use Rattle.std.specs.declared.cmp.Ordering.TheVariants.{Less, Equal, Greater}
use Rattle.std.proofs.lemmas.Cmp.{nat_cmp_total, nat_list_cmp_total, tied_itself}
use Rattle.std.proofs.lemmas.Grind.{common_steps}
use Rattle.decimal_order.specs.Order.{number_cmp}
use Rattle.path_grammar.specs.Tree.{Literal, number, text, boolean, null}
use Rattle.path_grammar.specs.declared.ast.Op.{Op}
use Rattle.path_meaning.specs.Comparison.{Value, a_null, a_boolean, a_number, a_text, literal_value, compared, equal_results, less_results, less_scalars, told_of, TellsComparisons}
use Rattle.decisions.specs.Order.{kind, digits_of, scalars_of, value_cmp}
use Rattle.decisions.specs.Truth.{told_by, turned, versus, related, IsRelated}
use Rattle.decisions.specs.declared.relation.Relation.{Relation}

pub value_total : IsTotalOrder number_cmp → IsTotalOrder value_cmp
unfolding value_cmp
value_total n = then_total (on_total kind nat_cmp_total) (then_total (on_total digits_of n) (on_total scalars_of nat_list_cmp_total))

-- ---- What decides

then_equal : (o : Ordering) → ordering_then o Equal ≡ o
then_equal Less = refl
then_equal Equal = refl
then_equal Greater = refl

pub numbers_order : (x y : List ℕ) → value_cmp (Some (a_number x)) (Some (a_number y)) ≡ number_cmp x y
unfolding value_cmp
numbers_order x y = then_equal (number_cmp x y)

module _ (n : IsTotalOrder number_cmp) where
  pub texts_order : (x y : List ℕ) → value_cmp (Some (a_text x)) (Some (a_text y)) ≡ slice_cmp nat_cmp x y
  unfolding value_cmp
  texts_order x y = ap (λ o. ordering_then o (slice_cmp nat_cmp x y)) (tied_itself n [])

  empty_order : ordering_then (number_cmp [] []) Equal ≡ Equal
  empty_order = then_equal (number_cmp [] []) ∙ tied_itself n []

  pub null_order : (l : Literal) → value_cmp (Some a_null) (Some (literal_value l)) ≡ nat_cmp (kind (Some a_null)) (kind (Some (literal_value l)))
  unfolding value_cmp
  null_order (number d) = refl
  null_order (text s) = refl
  null_order (boolean true) = refl
  null_order (boolean false) = refl
  null_order null = empty_order

  pub boolean_order : (b : Bool) (l : Literal) → value_cmp (Some (a_boolean b)) (Some (literal_value l)) ≡ nat_cmp (kind (Some (a_boolean b))) (kind (Some (literal_value l)))
  unfolding value_cmp
  boolean_order true (number d) = refl
  boolean_order false (number d) = refl
  boolean_order true (text s) = refl
  boolean_order false (text s) = refl
  boolean_order true (boolean true) = empty_order
  boolean_order true (boolean false) = refl
  boolean_order false (boolean true) = refl
  boolean_order false (boolean false) = empty_order
  boolean_order true null = refl
  boolean_order false null = refl

pub less_kind : (a b : Option Value) → nat_cmp (kind a) (kind b) ≡ Less → value_cmp a b ≡ Less
unfolding value_cmp
less_kind a b e = rw e refl

pub greater_kind : (a b : Option Value) → nat_cmp (kind a) (kind b) ≡ Greater → value_cmp a b ≡ Greater
unfolding value_cmp
greater_kind a b e = rw e refl

pub ruleset comparing = (numbers_order, texts_order, null_order, boolean_order)

-- ---- Strings

pub same_letters : (x y : List ℕ) → bytes_eq x y ≡ is_eq (slice_cmp nat_cmp x y)
same_letters x y = lists_ties nat_cmp (λ a b. both a b) x y
  where
    both : (a b : ℕ) → nat_eq a b ≡ is_eq (nat_cmp a b)
    both a b = grind (arith, common_steps)

pub less_letters : (x y : List ℕ) → less_scalars x y ≡ is_lt (slice_cmp nat_cmp x y)
less_letters [] [] = refl
less_letters (x ∷ xs) [] = refl
less_letters [] (y ∷ ys) = refl
less_letters (x ∷ xs) (y ∷ ys) =
    let h = less_letters xs ys in
    grind (arith, common_steps, h)

-- ---- Comparisons

-- how two values compare, None where they are of two kinds
pub record Answers (a b : Option Value) (r : Option Ordering) : Type 0 where
  pub equal : equal_results a b ≡ is_some_and is_eq r
  pub less : less_results a b ≡ is_some_and is_lt r
  pub more : less_results b a ≡ is_some_and is_gt r
  pub back : equal_results b a ≡ is_some_and is_eq r

turn : (a b : Option Value) (r : Option Ordering) → Answers a b r → Answers b a (turned r)
turn a b None h = record { equal = h.back; less = h.more; more = h.less; back = h.equal }
turn a b (Some Less) h = record { equal = h.back; less = h.more; more = h.less; back = h.equal }
turn a b (Some Equal) h = record { equal = h.back; less = h.more; more = h.less; back = h.equal }
turn a b (Some Greater) h = record { equal = h.back; less = h.more; more = h.less; back = h.equal }

told_as : (op : Op) (a b : Option Value) (r : Option Ordering) → Answers a b r
    → told_of (equal_results a b) (equal_results b a) (less_results a b) (less_results b a) op ≡ told_of (is_some_and is_eq r) (is_some_and is_eq r) (is_some_and is_lt r) (is_some_and is_gt r) op
told_as op a b r h = λ i. told_of (h.equal i) (h.back i) (h.less i) (h.more i) op

tells : TellsComparisons → (op : Op) (a b : Option Value) (r : Option Ordering) → Answers a b r → compared op a b ≡ told_by op r
tells law op a b None h = law op a b ∙ told_as op a b None h
tells law op a b (Some o) h = law op a b ∙ told_as op a b (Some o) h

pub forth : TellsComparisons → (op : Op) (r : Relation) (v w : Option Value) → IsRelated r v w → compared op v w ≡ related r false op
forth law op r v w h =
    let same : related r false op ≡ told_of (equal_results v w) (equal_results w v) (less_results v w) (less_results w v) op = λ i. told_of (h.equal i) (h.back i) (h.less i) (h.greater i) op in
    law op v w ∙ sym same

pub back : TellsComparisons → (op : Op) (r : Relation) (v w : Option Value) → IsRelated r v w → compared op w v ≡ related r true op
back law op r v w h =
    let same : related r true op ≡ told_of (equal_results w v) (equal_results v w) (less_results w v) (less_results v w) op = λ i. told_of (h.back i) (h.equal i) (h.greater i) (h.less i) op in
    law op w v ∙ sym same

gt_reversed : (o : Ordering) → is_lt (ordering_reverse o) ≡ is_gt o
gt_reversed Less = refl
gt_reversed Equal = refl
gt_reversed Greater = refl

eq_reversed : (o : Ordering) → is_eq (ordering_reverse o) ≡ is_eq o
eq_reversed Less = refl
eq_reversed Equal = refl
eq_reversed Greater = refl

module _ (n : IsTotalOrder number_cmp) where
  pub answers : (v : Option Value) (l : Literal) → Answers v (Some (literal_value l)) (versus v l)
  answers (Some (a_number x)) (number y) = rw (numbers_order x y) (record {
    equal = refl;
    less = refl;
    more = ap is_lt (n.antisymm y x) ∙ gt_reversed (number_cmp x y);
    back = ap is_eq (n.antisymm y x) ∙ eq_reversed (number_cmp x y);
  })
  answers (Some (a_text x)) (text y) = rw (texts_order n x y) (record {
    equal = same_letters x y;
    less = less_letters x y;
    more = less_letters y x ∙ ap is_lt (nat_list_cmp_total.antisymm y x) ∙ gt_reversed (slice_cmp nat_cmp x y);
    back = same_letters y x ∙ ap is_eq (nat_list_cmp_total.antisymm y x) ∙ eq_reversed (slice_cmp nat_cmp x y);
  })
  answers (Some a_null) null = rw (null_order n null) (record { equal = refl; less = refl; more = refl; back = refl })
  answers (Some (a_boolean true)) (boolean true) = rw (boolean_order n true (boolean true)) (record { equal = refl; less = refl; more = refl; back = refl })
  answers (Some (a_boolean false)) (boolean false) = rw (boolean_order n false (boolean false)) (record { equal = refl; less = refl; more = refl; back = refl })
  answers (Some (a_boolean true)) (boolean false) = record { equal = refl; less = refl; more = refl; back = refl }
  answers (Some (a_boolean false)) (boolean true) = record { equal = refl; less = refl; more = refl; back = refl }
  answers (Some (a_boolean true)) l = record { equal = refl; less = refl; more = refl; back = refl }
  answers (Some (a_boolean false)) l = record { equal = refl; less = refl; more = refl; back = refl }
  answers v (boolean true) = record { equal = refl; less = refl; more = refl; back = refl }
  answers v (boolean false) = record { equal = refl; less = refl; more = refl; back = refl }
  answers v l = record { equal = refl; less = refl; more = refl; back = refl }

  pub compared_left : TellsComparisons → (op : Op) (v : Option Value) (l : Literal) → compared op v (Some (literal_value l)) ≡ told_by op (versus v l)
  compared_left law op v l = tells law op v (Some (literal_value l)) (versus v l) (answers v l)

  pub compared_right : TellsComparisons → (op : Op) (v : Option Value) (l : Literal) → compared op (Some (literal_value l)) v ≡ told_by op (turned (versus v l))
  compared_right law op v l = tells law op (Some (literal_value l)) v (turned (versus v l)) (turn v (Some (literal_value l)) (versus v l) (answers v l))

  -- of one kind, with the literal on the left
  pub answers_alike : (v : Option Value) (l : Literal) → nat_cmp (kind (Some (literal_value l))) (kind v) ≡ Equal → Answers (Some (literal_value l)) v (Some (value_cmp (Some (literal_value l)) v))
  answers_alike v l e =
      let same : nat_eq (kind v) (kind (Some (literal_value l))) ≡ true = grind (arith, common_steps, e) in
      let this : versus v l ≡ Some (value_cmp v (Some (literal_value l))) = rw same refl in
      subst (Answers (Some (literal_value l)) v) (ap turned this ∙ ap Some (sym ((value_total n).antisymm (Some (literal_value l)) v))) (turn v (Some (literal_value l)) (versus v l) (answers v l))

pub not_greater : (o : Ordering) → not (is_gt o) ≡ is_le o
not_greater Less = refl
not_greater Equal = refl
not_greater Greater = refl

pub ruleset telling = (less_kind, greater_kind)
