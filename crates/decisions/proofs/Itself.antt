-- A value compared with itself.
use Rattle.std.proofs.Common.{◌≡◌, ℕ, List, Bool, true, false, ◌||◌, ◌&&◌, Option, Some, None, refl, ap, ◌∙◌, arith}
use Rattle.std.specs.Prelude.{nat_eq, bytes_eq}
use Rattle.std.specs.Cmp.{IsTotalOrder}
use Rattle.std.specs.Ordering.{is_eq, is_lt}
use Rattle.std.specs.declared.cmp.Ordering.TheVariants.{Equal}
use Rattle.std.proofs.lemmas.Bool.Decides.{nat_tests}
use Rattle.std.proofs.lemmas.Cmp.{nat_list_cmp_total, tied_itself}
use Rattle.decimal_order.specs.Order.{number_cmp}
use Rattle.json_text.specs.Meaning.{meaning}
use Rattle.json_text.specs.Tape.{member_count}
use Rattle.json_text.specs.Tree.{Null, True, False, Num, Str, Tree, Leaf, Arr, Obj, Elements, NoElement, Element, Members, NoMember, Member}
use Rattle.path_grammar.specs.declared.ast.Op.{Op}
use Rattle.path_meaning.specs.Comparison.{Value, a_null, a_boolean, a_number, a_text, a_container, has_member, equal_trees, equal_elements, each_in, equal_results, less_results, compared, told, told_of, TellsComparisons}
use Rattle.decisions.proofs.Orders.{same_letters, less_letters}

same_text : (s : List ℕ) → bytes_eq s s ≡ true
same_text s = same_letters s s ∙ ap is_eq (tied_itself nat_list_cmp_total s)

or_true : (a : Bool) → (a || true) ≡ true
or_true true = refl
or_true false = refl

both : (a b : Bool) → a ≡ true → b ≡ true → (a && b) ≡ true
both a b e f = rw (e, f) refl

first : (a b : Bool) → (a && b) ≡ true → a ≡ true
first true b e = refl
first false b e = absurd cc

second : (a b : Bool) → (a && b) ≡ true → b ≡ true
second true b e = e
second false b e = absurd cc

-- members that have theirs in some have them in these with one more
wider : (m : _) (u : Tree) (ms os : Members) → each_in ms os ≡ true → each_in ms (Member m u os) ≡ true
wider m u NoMember os h = refl
wider m u (Member n t ms) os h =
    let here = first (has_member (meaning n.characters) (λ w. equal_trees t w) os) (each_in ms os) h in
    let rest = wider m u ms os (second (has_member (meaning n.characters) (λ w. equal_trees t w) os) (each_in ms os) h) in
    both (has_member (meaning n.characters) (λ w. equal_trees t w) (Member m u os)) (each_in ms (Member m u os)) (rw here (or_true (bytes_eq (meaning n.characters) (meaning m.characters) && equal_trees t u))) rest

module _ (order : IsTotalOrder number_cmp) where
  mutual
    tree_itself : (t : Tree) → equal_trees t t ≡ true
    tree_itself (Leaf s Null) = refl
    tree_itself (Leaf s True) = refl
    tree_itself (Leaf s False) = refl
    tree_itself (Leaf s Num) = ap is_eq (tied_itself order s.bytes)
    tree_itself (Leaf s (Str cs)) = same_text (meaning cs)
    tree_itself (Arr s es) = elements_themselves es
    tree_itself (Obj s ms) =
        let same : nat_eq (member_count ms) (member_count ms) ≡ true = grind (arith, nat_tests) in
        both (nat_eq (member_count ms) (member_count ms)) (each_in ms ms) same (members_themselves ms)

    elements_themselves : (es : Elements) → equal_elements es es ≡ true
    elements_themselves NoElement = refl
    elements_themselves (Element a es) = both (equal_trees a a) (equal_elements es es) (tree_itself a) (elements_themselves es)

    members_themselves : (ms : Members) → each_in ms ms ≡ true
    members_themselves NoMember = refl
    members_themselves (Member n t ms) =
        let named = both (bytes_eq (meaning n.characters) (meaning n.characters)) (equal_trees t t) (same_text (meaning n.characters)) (tree_itself t) in
        both (has_member (meaning n.characters) (λ w. equal_trees t w) (Member n t ms)) (each_in ms (Member n t ms)) (rw named refl) (wider n t ms ms (members_themselves ms))

  equal_itself : (v : Option Value) → equal_results v v ≡ true
  equal_itself None = refl
  equal_itself (Some a_null) = refl
  equal_itself (Some (a_boolean true)) = refl
  equal_itself (Some (a_boolean false)) = refl
  equal_itself (Some (a_number s)) = ap is_eq (tied_itself order s)
  equal_itself (Some (a_text s)) = same_text s
  equal_itself (Some (a_container t)) = tree_itself t

  less_itself : (v : Option Value) → less_results v v ≡ false
  less_itself None = refl
  less_itself (Some a_null) = refl
  less_itself (Some (a_boolean b)) = refl
  less_itself (Some (a_number s)) = ap is_lt (tied_itself order s)
  less_itself (Some (a_text s)) = less_letters s s ∙ ap is_lt (tied_itself nat_list_cmp_total s)
  less_itself (Some (a_container t)) = refl

  pub compared_itself : TellsComparisons → (op : Op) (v : Option Value) → compared op v v ≡ told op Equal
  compared_itself law op v =
      let same : told_of (equal_results v v) (equal_results v v) (less_results v v) (less_results v v) op ≡ told op Equal = λ i. told_of (equal_itself v i) (equal_itself v i) (less_itself v i) (less_itself v i) op in
      law op v v ∙ same
