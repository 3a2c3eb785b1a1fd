use Rattle.std.proofs.Common.{◌≡◌, ◌+◌, ◌-◌, ◌*◌, ◌≤◌, ◌++◌, length, take}
use Rattle.json_tape.specs.Nodes.{size}
use Rattle.json_tape.specs.Document.{node_at, following, IsIn}
use Rattle.tape_values.specs.Pairs.{equal_each, has_twin, each_has_twin, IsEnd, total_size}
use Rattle.tape_values.specs.Contents.{content_value}
use Rattle.tape_values.proofs.Sizes.{weight}
use Rattle.tape_values.proofs.values.+equal.Given as goal

abbrev pub decreases-equal_contents : goal.decreases-equal_contents
decreases-equal_contents l = weight (content_value l.doc.now l.a)

abbrev pub decreases-equal_objects : goal.decreases-equal_objects
decreases-equal_objects l = 8 * size (node_at l.doc.now l.a.0).tree + 1

abbrev pub decreases-equal_siblings : goal.decreases-equal_siblings
decreases-equal_siblings l = 8 * total_size (following l.doc.now l.a) + 4

abbrev pub decreases-equal_values : goal.decreases-equal_values
decreases-equal_values l = 8 * size (node_at l.doc.now l.a.0).tree + 3

abbrev pub decreases-have_twins : goal.decreases-have_twins
decreases-have_twins l = 8 * total_size (following l.doc.now l.a) + 7

abbrev pub decreases-twin : goal.decreases-twin
decreases-twin l = 8 * size (node_at l.doc.now l.m.0).tree + 5

abbrev pub decreases-has_twin : goal.decreases-has_twin
decreases-has_twin l = 8 * size (node_at l.doc.now l.m.0).tree + 6

abbrev pub decreases-is_twin : goal.decreases-is_twin
decreases-is_twin l = 8 * size (node_at l.doc.now l.m.0).tree + 5

abbrev pub decreases-are_twins : goal.decreases-are_twins
decreases-are_twins l = 8 * size (node_at l.doc.now l.m.0).tree + 4

abbrev pub invariant-equal_siblings-loop-left : goal.invariant-equal_siblings-loop-left
invariant-equal_siblings-loop-left l = record {
  same : equal_each (following l.doc l.left) (following l.doc l.right) ≡ equal_each (following l.doc l.initial.left) (following l.doc l.initial.right);
  left_inside : IsIn l.doc l.left;
  right_inside : IsIn l.doc l.right;
  small : total_size (following l.doc l.left) ≤ total_size (following l.doc l.initial.left);
}

abbrev pub decreases-equal_siblings-loop-left : goal.decreases-equal_siblings-loop-left
decreases-equal_siblings-loop-left l = length (following l.doc l.left)

abbrev pub invariant-have_twins-loop-member : goal.invariant-have_twins-loop-member
invariant-have_twins-loop-member l = record {
  same : each_has_twin (following l.doc l.member) (following l.doc l.b) ≡ each_has_twin (following l.doc l.initial.member) (following l.doc l.b);
  member_inside : IsIn l.doc l.member;
  next_inside : IsIn l.doc l.next;
  end : IsEnd (following l.doc l.b) (following l.doc l.next);
  small : total_size (following l.doc l.member) ≤ total_size (following l.doc l.initial.member);
}

abbrev pub decreases-have_twins-loop-member : goal.decreases-have_twins-loop-member
decreases-have_twins-loop-member l = length (following l.doc l.member)

abbrev pub invariant-twin-loop-i : goal.invariant-twin-loop-i
invariant-twin-loop-i l = record {
  same : has_twin (node_at l.doc l.m.0) (take (l.total - l.i) (following l.doc l.next ++ following l.doc l.first))
      ≡ has_twin (node_at l.doc l.m.0) (take l.total (following l.doc l.initial.next ++ following l.doc l.first));
  next_inside : IsIn l.doc l.next;
  end : IsEnd (following l.doc l.first) (following l.doc l.next);
}
