-- Conditions that the marks of `@` and its length tell.
use Rattle.std.proofs.Common.{◌≡◌, ℕ, zero, suc, ◌+◌, ◌<◌, Bool, true, false, ◌&&◌, ◌||◌, List, [], ◌∷◌, ◌++◌, length, get_or, Option, Some, None, refl, sym, ap, subst, ◌∙◌, arith}
use Rattle.std.specs.Prelude.{IsTrue, bytes_eq, codes, if◌then◌else◌}
use Rattle.std.specs.Prelude.{not as opposite}
use Rattle.std.specs.List.{Contains}
use Rattle.std.specs.Ordering.{is_eq}
use Rattle.std.specs.declared.cmp.Ordering.{Ordering}
use Rattle.std.specs.declared.cmp.Ordering.TheVariants.{Less, Equal, Greater}
use Rattle.std.proofs.lemmas.List.Elements.{Contains-append_left, Contains-append_right, Contains-push}
use Rattle.path_grammar.specs.Tree as tree
use Rattle.path_grammar.specs.Tree.{Literal, Comparable, Call, Arguments, Argument, Expr, Exprs}
use Rattle.path_grammar.specs.declared.ast.Op.{Op}
use Rattle.json_tape.specs.Nodes.{Node}
use Rattle.json_tape.specs.Document.{Doc, node_at, length_of}
use Rattle.tape_values.specs.Comparison.{Value, a_null, a_boolean, a_number, a_text, a_container, value_of, literal_value, compared}
use Rattle.tape_values.specs.Functions.{only_value, value_argued, nodes_argued, whole_number, whole_number_of, length_value, applied}
use Rattle.decisions.specs.Laws.{TellsAsCompared, TellsByMarks}
use Rattle.decisions.specs.Marks.{mark, cell, is_among, are_among}
use Rattle.decisions.specs.Order.{kind, value_cmp}
use Rattle.decisions.specs.Places.{HasTie}
use Rattle.decisions.specs.declared.scale.Scale.{Scale}
use Rattle.decisions.specs.Truth.{no_relation}
use Rattle.node_lists.specs.Charge.{charge_expr, charge_exprs, charge_side, charge_call, charge_arguments, charge_argument}
use Rattle.node_lists.specs.Evaluation.{holds, some_hold, all_hold, result, called, argued}
use Rattle.tape_select.specs.Memo.{IsTruth}
use Rattle.query_plan.specs.Planned.{Claimed, a_condition}
use Rattle.decisions.specs.Decided.{is_alone, is_free_call, are_free, is_free_argument, is_free, is_written, is_told_pair, is_told, are_told, whole, totals, argument_lengths, call_lengths, side_literals, literals, all_literals, values_on, beside, values_in, is_told_on, HasLength, AreApart, IsCell}

and_first : (a b : Bool) → IsTrue (a && b) → IsTrue a
and_first true b h = refl
and_first false b h = absurd cc

and_second : (a b : Bool) → IsTrue (a && b) → IsTrue b
and_second true b h = h
and_second false b h = absurd cc

-- ---- Literals on a scale

tied : (vs : List (Option Value)) (l : Literal) → IsTrue (is_among vs l) → HasTie value_cmp vs (Some (literal_value l))
tied [] l h = absurd cc
tied (v ∷ vs) l h = go (λ k. tied vs l k) (value_cmp v (Some (literal_value l))) refl h
  where
    one_more : HasTie value_cmp vs (Some (literal_value l)) → HasTie value_cmp (v ∷ vs) (Some (literal_value l))
    one_more t = let inside = t.1 in (suc t.0, omega arith, t.2)

    go : (IsTrue (is_among vs l) → HasTie value_cmp vs (Some (literal_value l))) → (o : Ordering) → value_cmp v (Some (literal_value l)) ≡ o → IsTrue (is_eq o || is_among vs l) → HasTie value_cmp (v ∷ vs) (Some (literal_value l))
    go more Less e k = one_more (more k)
    go more Equal e k = (zero, omega arith, e)
    go more Greater e k = one_more (more k)

tied_at : (vs : List (Option Value)) (ls : List Literal) → IsTrue (are_among vs ls) → (l : Literal) (k : ℕ) → k < length ls → get_or ls k l ≡ l → HasTie value_cmp vs (Some (literal_value l))
tied_at vs [] h l k lt e = absurd (omega arith)
tied_at vs (m ∷ ls) h l zero lt e = tied vs l (subst (λ x. IsTrue (is_among vs x)) e (and_first (is_among vs m) (are_among vs ls) h))
tied_at vs (m ∷ ls) h l (suc k) lt e = tied_at vs ls (and_second (is_among vs m) (are_among vs ls) h) l k (omega arith) e

abbrev Ties : List (Option Value) → List Literal → Type 0
Ties vs ls = (l : Literal) → Contains ls l → HasTie value_cmp vs (Some (literal_value l))

-- ---- Where a side has its value from

-- the child, its length, or a value that is the same for all children
data Source : Type 0 where
  the_child : Source
  its_length : Source
  fixed : Option Value → Source

abbrev own : Node → Option Value
own n = Some (value_of n.tree)

abbrev value_from : Source → Node → Option Value
value_from the_child n = own n
value_from its_length n = length_value (own n)
value_from (fixed v) n = v

abbrev length_from : Source → Source
length_from the_child = its_length
length_from its_length = fixed None
length_from (fixed v) = fixed (length_value v)

no_length : (x : Option Value) → length_value (length_value x) ≡ None
no_length None = refl
no_length (Some a_null) = refl
no_length (Some (a_boolean b)) = refl
no_length (Some (a_number t)) = refl
no_length (Some (a_text s)) = refl
no_length (Some (a_container t)) = go (length_of t)
  where
    go : (o : Option ℕ) → length_value (whole_number_of o) ≡ None
    go None = refl
    go (Some k) = refl

length_is : (s : Source) (n : Node) → length_value (value_from s n) ≡ value_from (length_from s) n
length_is the_child n = refl
length_is its_length n = no_length (own n)
length_is (fixed v) n = refl

-- how many nodes an argument has
abbrev nodes_in : Argument → ℕ
nodes_in (tree.lit_argument l) = 0
nodes_in (tree.nodes_argument q) = 1
nodes_in (tree.func_argument c) = 0
nodes_in (tree.logical_argument e) = 0

module _ (root : Node) where
  abbrev query_from : tree.Nested → Source
  query_from (tree.nested true ss) = fixed (own root)
  query_from (tree.nested false ss) = the_child

  abbrev node_from : Argument → Source
  node_from (tree.lit_argument l) = fixed None
  node_from (tree.nodes_argument q) = query_from q
  node_from (tree.func_argument c) = fixed None
  node_from (tree.logical_argument e) = fixed None

  abbrev mutual
    call_from : Call → Source
    call_from (tree.call f tree.no_arguments) = fixed None
    call_from (tree.call f (tree.argument a tree.no_arguments)) =
        if bytes_eq f (codes "length") then length_from (argument_from a)
        else if bytes_eq f (codes "count") then fixed (Some (whole_number (nodes_in a)))
        else if bytes_eq f (codes "value") then node_from a
        else fixed None
    call_from (tree.call f (tree.argument a (tree.argument b others))) = fixed None

    argument_from : Argument → Source
    argument_from (tree.lit_argument l) = fixed (Some (literal_value l))
    argument_from (tree.nodes_argument q) = query_from q
    argument_from (tree.func_argument c) = call_from c
    argument_from (tree.logical_argument e) = fixed None

  abbrev side_from : Comparable → Source
  side_from (tree.lit l) = fixed (Some (literal_value l))
  side_from (tree.single q) = query_from q
  side_from (tree.func c) = call_from c

  module _ (n : Node) where
    total_is : (a : Argument) → IsTrue (is_free_argument a) → length (nodes_argued (argued root a n)) ≡ nodes_in a
    total_is (tree.lit_argument l) h = refl
    total_is (tree.nodes_argument (tree.nested true tree.no_segments)) h = refl
    total_is (tree.nodes_argument (tree.nested false tree.no_segments)) h = refl
    total_is (tree.nodes_argument (tree.nested from_root (tree.segment descend ss others))) h = absurd cc
    total_is (tree.func_argument c) h = refl
    total_is (tree.logical_argument e) h = absurd cc

    node_is : (a : Argument) → IsTrue (is_free_argument a) → only_value (nodes_argued (argued root a n)) ≡ value_from (node_from a) n
    node_is (tree.lit_argument l) h = refl
    node_is (tree.nodes_argument (tree.nested true tree.no_segments)) h = refl
    node_is (tree.nodes_argument (tree.nested false tree.no_segments)) h = refl
    node_is (tree.nodes_argument (tree.nested from_root (tree.segment descend ss others))) h = absurd cc
    node_is (tree.func_argument c) h = refl
    node_is (tree.logical_argument e) h = absurd cc

    applied_is : (f : List ℕ) (a : Argument) → IsTrue (is_free_argument a) → value_argued (argued root a n) ≡ value_from (argument_from a) n
        → applied f (argued root a n) ≡ value_from (call_from (tree.call f (tree.argument a tree.no_arguments))) n
    applied_is f a h e = go (bytes_eq f (codes "length")) (bytes_eq f (codes "count")) (bytes_eq f (codes "value"))
      where
        go : (p q r : Bool) → (if p then length_value (value_argued (argued root a n)) else if q then Some (whole_number (length (nodes_argued (argued root a n)))) else if r then only_value (nodes_argued (argued root a n)) else None)
            ≡ value_from (if p then length_from (argument_from a) else if q then fixed (Some (whole_number (nodes_in a))) else if r then node_from a else fixed None) n
        go true q r = ap length_value e ∙ length_is (argument_from a) n
        go false true r = ap (λ k. Some (whole_number k)) (total_is a h)
        go false false true = node_is a h
        go false false false = refl

    mutual
      call_is : (c : Call) → IsTrue (is_free_call c) → called root c n ≡ value_from (call_from c) n
      call_is (tree.call f tree.no_arguments) h = refl
      call_is (tree.call f (tree.argument a tree.no_arguments)) h =
          let free = and_first (is_free_argument a) true h in
          applied_is f a free (argument_is a free)
      call_is (tree.call f (tree.argument a (tree.argument b others))) h = refl

      argument_is : (a : Argument) → IsTrue (is_free_argument a) → value_argued (argued root a n) ≡ value_from (argument_from a) n
      argument_is (tree.lit_argument l) h = refl
      argument_is (tree.nodes_argument (tree.nested true tree.no_segments)) h = refl
      argument_is (tree.nodes_argument (tree.nested false tree.no_segments)) h = refl
      argument_is (tree.nodes_argument (tree.nested from_root (tree.segment descend ss others))) h = absurd cc
      argument_is (tree.func_argument c) h = call_is c h
      argument_is (tree.logical_argument e) h = absurd cc

    side_is : (c : Comparable) → IsTrue (is_free c) → result root c n ≡ value_from (side_from c) n
    side_is (tree.lit l) h = refl
    side_is (tree.single (tree.nested true tree.no_segments)) h = refl
    side_is (tree.single (tree.nested false tree.no_segments)) h = refl
    side_is (tree.single (tree.nested from_root (tree.segment descend ss others))) h = absurd cc
    side_is (tree.func c) h = call_is c h

-- ---- Values of two kinds

none_apart : (v : Value) → AreApart (Some v) None
none_apart v = record { equal = refl; back = refl; less = refl; greater = refl }

length_apart : (v : Value) → AreApart (Some v) (length_value (Some v))
length_apart a_null = none_apart a_null
length_apart (a_boolean b) = none_apart (a_boolean b)
length_apart (a_number t) = none_apart (a_number t)
length_apart (a_text s) = record { equal = refl; back = refl; less = refl; greater = refl }
length_apart (a_container t) = go (length_of t)
  where
    go : (o : Option ℕ) → AreApart (Some (a_container t)) (whole_number_of o)
    go None = none_apart (a_container t)
    go (Some k) = record { equal = refl; back = refl; less = refl; greater = refl }

-- what has a length is no number
number_apart : (v : Value) (o : Option ℕ) → HasLength (Some v) → AreApart (Some v) (whole_number_of o)
number_apart v None h = none_apart v
number_apart a_null (Some k) h = absurd (let e = h.1 in cc)
number_apart (a_boolean b) (Some k) h = absurd (let e = h.1 in cc)
number_apart (a_number t) (Some k) h = absurd (let e = h.1 in cc)
number_apart (a_text s) (Some k) h = record { equal = refl; back = refl; less = refl; greater = refl }
number_apart (a_container t) (Some k) h = record { equal = refl; back = refl; less = refl; greater = refl }

root_apart : (v w : Value) → HasLength (Some v) → AreApart (Some v) (length_value (Some w))
root_apart v a_null h = none_apart v
root_apart v (a_boolean b) h = none_apart v
root_apart v (a_number t) h = none_apart v
root_apart v (a_text s) h = number_apart v (Some (length s)) h
root_apart v (a_container t) h = number_apart v (length_of t) h

some_kind : (v : Value) → 0 < kind (Some v)
some_kind a_null = omega arith
some_kind (a_boolean true) = omega arith
some_kind (a_boolean false) = omega arith
some_kind (a_number t) = omega arith
some_kind (a_text s) = omega arith
some_kind (a_container t) = omega arith

module _ (ordered : TellsAsCompared) where
  alike_left : (x y u v : Option Value) (op : Op) → AreApart x u → AreApart y v → compared op x u ≡ compared op y v
  alike_left x y u v op a b = ordered.forth op no_relation x u a ∙ sym (ordered.forth op no_relation y v b)

  alike_right : (x y u v : Option Value) (op : Op) → AreApart x u → AreApart y v → compared op u x ≡ compared op v y
  alike_right x y u v op a b = ordered.back op no_relation x u a ∙ sym (ordered.back op no_relation y v b)

  none_left : (x y : Option Value) (op : Op) → kind x ≡ kind y → compared op x None ≡ compared op y None
  none_left None None op e = refl
  none_left None (Some w) op e = let k = some_kind w in absurd (omega (arith, e, k))
  none_left (Some v) None op e = let k = some_kind v in absurd (omega (arith, e, k))
  none_left (Some v) (Some w) op e = alike_left (Some v) (Some w) None None op (none_apart v) (none_apart w)

  none_right : (x y : Option Value) (op : Op) → kind x ≡ kind y → compared op None x ≡ compared op None y
  none_right None None op e = refl
  none_right None (Some w) op e = let k = some_kind w in absurd (omega (arith, e, k))
  none_right (Some v) None op e = let k = some_kind v in absurd (omega (arith, e, k))
  none_right (Some v) (Some w) op e = alike_right (Some v) (Some w) None None op (none_apart v) (none_apart w)

-- ---- What is told at two nodes of one cell

record Alike (vs : List (Option Value)) (n m : Node) : Type 0 where
  marks : mark vs (own n) ≡ mark vs (own m)
  lengths : mark vs (length_value (own n)) ≡ mark vs (length_value (own m))

-- what is known where sides are compared of which none is a literal
record Rooted (vs : List (Option Value)) (root n m : Node) : Type 0 where
  here : AreApart (own n) (own root)
  there : AreApart (own m) (own root)
  long : HasLength (own root)
  tie : HasTie value_cmp vs (length_value (own root))

-- the nodes and their lengths compare alike with the value
record Compares (n m : Node) (v : Option Value) : Type 0 where
  left : (op : Op) → compared op (own n) v ≡ compared op (own m) v
  right : (op : Op) → compared op v (own n) ≡ compared op v (own m)
  length_left : (op : Op) → compared op (length_value (own n)) v ≡ compared op (length_value (own m)) v
  length_right : (op : Op) → compared op v (length_value (own n)) ≡ compared op v (length_value (own m))

abbrev Fits : (n m : Node) → Source → Type 0
Fits n m the_child = Unit {0}
Fits n m its_length = Unit {0}
Fits n m (fixed v) = Compares n m v

module _ (ordered : TellsAsCompared) (law : TellsByMarks) (vs : List (Option Value)) (root n m : Node) (same : Alike vs n m) where
  marked : (s : Source) → mark vs (value_from s n) ≡ mark vs (value_from s m)
  marked the_child = same.marks
  marked its_length = same.lengths
  marked (fixed v) = refl

  side_alike : (c : Comparable) → IsTrue (is_free c) → mark vs (result root c n) ≡ mark vs (result root c m)
  side_alike c h = ap (mark vs) (side_is root n c h) ∙ marked (side_from root c) ∙ sym (ap (mark vs) (side_is root m c h))

  literal_fits : (l : Literal) → HasTie value_cmp vs (Some (literal_value l)) → Compares n m (Some (literal_value l))
  literal_fits l tie = record {
    left = λ op. law.left vs (own n) (own m) op l tie same.marks;
    right = λ op. law.right vs (own n) (own m) op l tie same.marks;
    length_left = λ op. law.left vs (length_value (own n)) (length_value (own m)) op l tie same.lengths;
    length_right = λ op. law.right vs (length_value (own n)) (length_value (own m)) op l tie same.lengths;
  }

  none_fits : Compares n m None
  none_fits =
      let kinds = law.kinds vs (length_value (own n)) (length_value (own m)) same.lengths in
      record {
        left = λ op. alike_left ordered (own n) (own m) None None op (none_apart (value_of n.tree)) (none_apart (value_of m.tree));
        right = λ op. alike_right ordered (own n) (own m) None None op (none_apart (value_of n.tree)) (none_apart (value_of m.tree));
        length_left = λ op. none_left ordered (length_value (own n)) (length_value (own m)) op kinds;
        length_right = λ op. none_right ordered (length_value (own n)) (length_value (own m)) op kinds;
      }

  crossed : (s t : Source) (op : Op) → Fits n m s → Fits n m t → compared op (value_from s n) (value_from t n) ≡ compared op (value_from s m) (value_from t m)
  crossed the_child the_child op h k = ordered.itself op (own n) ∙ sym (ordered.itself op (own m))
  crossed the_child its_length op h k = alike_left ordered (own n) (own m) (length_value (own n)) (length_value (own m)) op (length_apart (value_of n.tree)) (length_apart (value_of m.tree))
  crossed the_child (fixed v) op h k = k.left op
  crossed its_length the_child op h k = alike_right ordered (own n) (own m) (length_value (own n)) (length_value (own m)) op (length_apart (value_of n.tree)) (length_apart (value_of m.tree))
  crossed its_length its_length op h k = ordered.itself op (length_value (own n)) ∙ sym (ordered.itself op (length_value (own m)))
  crossed its_length (fixed v) op h k = k.length_left op
  crossed (fixed v) the_child op h k = h.right op
  crossed (fixed v) its_length op h k = h.length_right op
  crossed (fixed v) (fixed w) op h k = refl

  module _ (counts : Ties vs totals) (rooted : Rooted vs root n m) where
    root_fits : Compares n m (own root)
    root_fits =
        let here = root_apart (value_of root.tree) (value_of n.tree) rooted.long in
        let there = root_apart (value_of root.tree) (value_of m.tree) rooted.long in
        record {
          left = λ op. alike_left ordered (own n) (own m) (own root) (own root) op rooted.here rooted.there;
          right = λ op. alike_right ordered (own n) (own m) (own root) (own root) op rooted.here rooted.there;
          length_left = λ op. alike_right ordered (own root) (own root) (length_value (own n)) (length_value (own m)) op here there;
          length_right = λ op. alike_left ordered (own root) (own root) (length_value (own n)) (length_value (own m)) op here there;
        }

    root_length_fits : Compares n m (length_value (own root))
    root_length_fits = subst (Compares n m) (sym rooted.long.1) (literal_fits (whole rooted.long.0) (subst (HasTie value_cmp vs) rooted.long.1 rooted.tie))

    query_fits : (q : tree.Nested) → Fits n m (query_from root q)
    query_fits (tree.nested true ss) = root_fits
    query_fits (tree.nested false ss) = tt

    node_fits : (a : Argument) → Fits n m (node_from root a)
    node_fits (tree.lit_argument l) = none_fits
    node_fits (tree.nodes_argument q) = query_fits q
    node_fits (tree.func_argument c) = none_fits
    node_fits (tree.logical_argument e) = none_fits

    total_fits : (a : Argument) → Compares n m (Some (whole_number (nodes_in a)))
    total_fits (tree.lit_argument l) = literal_fits (whole 0) (counts (whole 0) (zero, omega arith, refl))
    total_fits (tree.nodes_argument q) = literal_fits (whole 1) (counts (whole 1) (suc zero, omega arith, refl))
    total_fits (tree.func_argument c) = literal_fits (whole 0) (counts (whole 0) (zero, omega arith, refl))
    total_fits (tree.logical_argument e) = literal_fits (whole 0) (counts (whole 0) (zero, omega arith, refl))

    -- a length has none
    second_length_fits : (s : Source) → Fits n m (length_from (length_from s))
    second_length_fits the_child = none_fits
    second_length_fits its_length = none_fits
    second_length_fits (fixed v) = subst (Compares n m) (sym (no_length v)) none_fits

    query_length_fits : (q : tree.Nested) → Fits n m (length_from (query_from root q))
    query_length_fits (tree.nested true ss) = root_length_fits
    query_length_fits (tree.nested false ss) = tt

    node_length_fits : (a : Argument) → Fits n m (length_from (node_from root a))
    node_length_fits (tree.lit_argument l) = none_fits
    node_length_fits (tree.nodes_argument q) = query_length_fits q
    node_length_fits (tree.func_argument c) = none_fits
    node_length_fits (tree.logical_argument e) = none_fits

    call_length_fits : (c : Call) → Fits n m (length_from (call_from root c))
    call_length_fits (tree.call f tree.no_arguments) = none_fits
    call_length_fits (tree.call f (tree.argument a tree.no_arguments)) = go (bytes_eq f (codes "length")) (bytes_eq f (codes "count")) (bytes_eq f (codes "value"))
      where
        go : (p q r : Bool) → Fits n m (length_from (if p then length_from (argument_from root a) else if q then fixed (Some (whole_number (nodes_in a))) else if r then node_from root a else fixed None))
        go true q r = second_length_fits (argument_from root a)
        go false true r = none_fits
        go false false true = node_length_fits a
        go false false false = none_fits
    call_length_fits (tree.call f (tree.argument a (tree.argument b others))) = none_fits

    argument_length_fits : (a : Argument) → Ties vs (argument_lengths a) → Fits n m (length_from (argument_from root a))
    argument_length_fits (tree.lit_argument (tree.number d)) t = none_fits
    argument_length_fits (tree.lit_argument (tree.text s)) t = literal_fits (whole (length s)) (t (whole (length s)) (zero, omega arith, refl))
    argument_length_fits (tree.lit_argument (tree.boolean b)) t = none_fits
    argument_length_fits (tree.lit_argument tree.null) t = none_fits
    argument_length_fits (tree.nodes_argument q) t = query_length_fits q
    argument_length_fits (tree.func_argument c) t = call_length_fits c
    argument_length_fits (tree.logical_argument e) t = none_fits

    call_fits : (c : Call) → Ties vs (call_lengths c) → Fits n m (call_from root c)
    call_fits (tree.call f tree.no_arguments) t = none_fits
    call_fits (tree.call f (tree.argument a tree.no_arguments)) t = go (bytes_eq f (codes "length")) (bytes_eq f (codes "count")) (bytes_eq f (codes "value"))
      where
        go : (p q r : Bool) → Fits n m (if p then length_from (argument_from root a) else if q then fixed (Some (whole_number (nodes_in a))) else if r then node_from root a else fixed None)
        go true q r = argument_length_fits a (λ l k. t l (Contains-append_left (argument_lengths a) [] l k))
        go false true r = total_fits a
        go false false true = node_fits a
        go false false false = none_fits
    call_fits (tree.call f (tree.argument a (tree.argument b others))) t = none_fits

    side_fits : (c : Comparable) → Ties vs (side_literals c) → Fits n m (side_from root c)
    side_fits (tree.lit l) t = literal_fits l (t l (Contains-push [] l))
    side_fits (tree.single q) t = query_fits q
    side_fits (tree.func c) t = call_fits c t

  module _ (counts : Ties vs totals) (is_rooted : Bool) (rooted : IsTrue is_rooted → Rooted vs root n m) where
    crossed_sides : (a b : Comparable) (op : Op) → IsTrue (is_rooted && (is_free a && is_free b)) → Ties vs (side_literals a ++ side_literals b) → compared op (result root a n) (result root b n) ≡ compared op (result root a m) (result root b m)
    crossed_sides a b op h t =
        let r = rooted (and_first is_rooted (is_free a && is_free b) h) in
        let free = and_second is_rooted (is_free a && is_free b) h in
        let x = and_first (is_free a) (is_free b) free in
        let y = and_second (is_free a) (is_free b) free in
        let here : compared op (result root a n) (result root b n) ≡ compared op (value_from (side_from root a) n) (value_from (side_from root b) n) = λ i. compared op (side_is root n a x i) (side_is root n b y i) in
        let there : compared op (result root a m) (result root b m) ≡ compared op (value_from (side_from root a) m) (value_from (side_from root b) m) = λ i. compared op (side_is root m a x i) (side_is root m b y i) in
        let left = side_fits counts r a (λ l k. t l (Contains-append_left (side_literals a) (side_literals b) l k)) in
        let right = side_fits counts r b (λ l k. t l (Contains-append_right (side_literals a) (side_literals b) l k)) in
        here ∙ crossed (side_from root a) (side_from root b) op left right ∙ sym there

    pair_alike : (a b : Comparable) (op : Op) → IsTrue (is_told_pair is_rooted a b) → Ties vs (side_literals a ++ side_literals b) → compared op (result root a n) (result root b n) ≡ compared op (result root a m) (result root b m)
    pair_alike (tree.lit l) b op h t = law.right vs (result root b n) (result root b m) op l (t l (Contains-append_left (l ∷ []) (side_literals b) l (Contains-push [] l))) (side_alike b h)
    pair_alike (tree.single p) (tree.lit l) op h t = law.left vs (result root (tree.single p) n) (result root (tree.single p) m) op l (t l (Contains-push [] l)) (side_alike (tree.single p) (and_first (is_alone p) true h))
    pair_alike (tree.single p) (tree.single q) op h t = crossed_sides (tree.single p) (tree.single q) op h t
    pair_alike (tree.single p) (tree.func c) op h t = crossed_sides (tree.single p) (tree.func c) op h t
    pair_alike (tree.func c) (tree.lit l) op h t =
        law.left vs (result root (tree.func c) n) (result root (tree.func c) m) op l (t l (Contains-append_right (call_lengths c) (l ∷ []) l (Contains-push [] l))) (side_alike (tree.func c) (and_first (is_free_call c) true h))
    pair_alike (tree.func c) (tree.single q) op h t = crossed_sides (tree.func c) (tree.single q) op h t
    pair_alike (tree.func c) (tree.func d) op h t = crossed_sides (tree.func c) (tree.func d) op h t

    mutual
      told_alike : (e : Expr) → IsTrue (is_told is_rooted e) → Ties vs (literals e) → holds root e n ≡ holds root e m
      told_alike (tree.any es) h t = some_alike es h t
      told_alike (tree.each es) h t = all_alike es h t
      told_alike (tree.not e) h t = ap opposite (told_alike e h t)
      told_alike (tree.compare a op b) h t = pair_alike a b op h t
      told_alike (tree.test (tree.nested from_root tree.no_segments)) h t = refl
      told_alike (tree.test (tree.nested from_root (tree.segment descend ss others))) h t = absurd cc
      told_alike (tree.test_call c) h t = absurd cc

      some_alike : (es : Exprs) → IsTrue (are_told is_rooted es) → Ties vs (all_literals es) → some_hold root es n ≡ some_hold root es m
      some_alike tree.no_exprs h t = refl
      some_alike (tree.expr e es) h t =
          let a = told_alike e (and_first (is_told is_rooted e) (are_told is_rooted es) h) (λ l c. t l (Contains-append_left (literals e) (all_literals es) l c)) in
          let b = some_alike es (and_second (is_told is_rooted e) (are_told is_rooted es) h) (λ l c. t l (Contains-append_right (literals e) (all_literals es) l c)) in
          λ i. a i || b i

      all_alike : (es : Exprs) → IsTrue (are_told is_rooted es) → Ties vs (all_literals es) → all_hold root es n ≡ all_hold root es m
      all_alike tree.no_exprs h t = refl
      all_alike (tree.expr e es) h t =
          let a = told_alike e (and_first (is_told is_rooted e) (are_told is_rooted es) h) (λ l c. t l (Contains-append_left (literals e) (all_literals es) l c)) in
          let b = all_alike es (and_second (is_told is_rooted e) (are_told is_rooted es) h) (λ l c. t l (Contains-append_right (literals e) (all_literals es) l c)) in
          λ i. a i && b i

-- ---- The charge

module _ (root n : Node) (is_rooted : Bool) where
  mutual
    free_call : (c : Call) → IsTrue (is_free_call c) → charge_call root c n ≡ 0
    free_call (tree.call f arguments) h = free_arguments arguments h

    free_arguments : (arguments : Arguments) → IsTrue (are_free arguments) → charge_arguments root arguments n ≡ 0
    free_arguments tree.no_arguments h = refl
    free_arguments (tree.argument a others) h =
        let x = free_argument a (and_first (is_free_argument a) (are_free others) h) in
        let y = free_arguments others (and_second (is_free_argument a) (are_free others) h) in
        omega (arith, x, y)

    free_argument : (a : Argument) → IsTrue (is_free_argument a) → charge_argument root a n ≡ 0
    free_argument (tree.lit_argument l) h = refl
    free_argument (tree.nodes_argument (tree.nested from_root tree.no_segments)) h = refl
    free_argument (tree.nodes_argument (tree.nested from_root (tree.segment descend ss others))) h = absurd cc
    free_argument (tree.func_argument c) h = free_call c h
    free_argument (tree.logical_argument e) h = absurd cc

  free_side : (c : Comparable) → IsTrue (is_free c) → charge_side root c n ≡ 0
  free_side (tree.lit l) h = refl
  free_side (tree.single (tree.nested from_root tree.no_segments)) h = refl
  free_side (tree.single (tree.nested from_root (tree.segment descend ss others))) h = absurd cc
  free_side (tree.func c) h = free_call c h

  free_pair : (a b : Comparable) → IsTrue (is_told_pair is_rooted a b) → charge_side root a n + charge_side root b n ≡ 0
  free_pair a b h =
      let both = and_second (is_written a || (is_written b || is_rooted)) (is_free a && is_free b) h in
      let x = free_side a (and_first (is_free a) (is_free b) both) in
      let y = free_side b (and_second (is_free a) (is_free b) both) in
      omega (arith, x, y)

  mutual
    free_expr : (e : Expr) → IsTrue (is_told is_rooted e) → charge_expr root e n ≡ 0
    free_expr (tree.any es) h = free_exprs es h
    free_expr (tree.each es) h = free_exprs es h
    free_expr (tree.not e) h = free_expr e h
    free_expr (tree.compare a op b) h = free_pair a b h
    free_expr (tree.test (tree.nested from_root tree.no_segments)) h = refl
    free_expr (tree.test (tree.nested from_root (tree.segment descend ss others))) h = absurd cc
    free_expr (tree.test_call c) h = absurd cc

    free_exprs : (es : Exprs) → IsTrue (are_told is_rooted es) → charge_exprs root es n ≡ 0
    free_exprs tree.no_exprs h = refl
    free_exprs (tree.expr e es) h =
        let x = free_expr e (and_first (is_told is_rooted e) (are_told is_rooted es) h) in
        let y = free_exprs es (and_second (is_told is_rooted e) (are_told is_rooted es) h) in
        omega (arith, x, y)

-- ---- Kept

tied_beside : (b : Bool) (v : Option Value) (vs : List (Option Value)) (l : Option Value) → HasTie value_cmp vs l → HasTie value_cmp (beside b v vs) l
tied_beside false v vs l t = t
tied_beside true v vs l t = let inside = t.1 in (suc t.0, omega arith, t.2)

first_beside : (b : Bool) (v : Option Value) (vs : List (Option Value)) → IsTrue b → value_cmp v v ≡ Equal → HasTie value_cmp (beside b v vs) v
first_beside true v vs h e = (zero, omega arith, e)
first_beside false v vs h e = absurd cc

-- the truth at one node of a cell is that at each
pub kept : TellsAsCompared → TellsByMarks → (d : Doc) (c : Option Claimed) (s : Scale) (e : Expr) (n : Node) (i : ℕ) (held : Bool) → c ≡ Some (a_condition s e) → IsTrue (is_told_on s e)
    → IsCell (node_at d 0) n s i → held ≡ holds (node_at d 0) e n → IsTruth d c i held
kept ordered law d c s e n i held owner told cell is = rw owner (λ m there.
    let root = node_at d 0 in
    let vs = values_in root s in
    let long = length_value (Some (value_of root.tree)) in
    let all = and_second (is_told s.is_rooted e) (are_among (values_on s) (totals ++ literals e)) told in
    let ties : Ties vs (totals ++ literals e) = λ l k. tied_beside s.is_rooted long (values_on s) (Some (literal_value l)) (tied_at (values_on s) (totals ++ literals e) all l k.0 k.1 k.2) in
    let two = law.cells vs (Some (value_of m.tree)) (length_value (Some (value_of m.tree))) (Some (value_of n.tree)) (length_value (Some (value_of n.tree))) (sym there.marks ∙ cell.marks) in
    told_alike ordered law vs root m n (record { marks = two.0; lengths = two.1 }) (λ l k. ties l (Contains-append_left totals (literals e) l k)) s.is_rooted
    (λ r. record { here = there.apart r; there = cell.apart r; long = cell.long r; tie = first_beside s.is_rooted long (values_on s) r (law.itself long) })
    e (and_first (is_told s.is_rooted e) (are_among (values_on s) (totals ++ literals e)) told) (λ l k. ties l (Contains-append_right totals (literals e) l k))
    ∙ sym is)

pub recalled : (d : Doc) (c : Option Claimed) (s : Scale) (e : Expr) (n : Node) (i : ℕ) (held : Bool) → c ≡ Some (a_condition s e) → IsCell (node_at d 0) n s i → IsTruth d c i held → holds (node_at d 0) e n ≡ held
recalled d c s e n i held owner cell k = (rw owner at k) n cell

pub charged_nothing : (root n : Node) (s : Scale) (e : Expr) → IsTrue (is_told_on s e) → charge_expr root e n ≡ 0
charged_nothing root n s e told = free_expr root n s.is_rooted e (and_first (is_told s.is_rooted e) (are_among (values_on s) (totals ++ literals e)) told)
