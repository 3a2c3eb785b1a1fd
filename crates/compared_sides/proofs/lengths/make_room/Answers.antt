use Rattle.std.proofs.Common.{◌≡◌, length, arith}
use Rattle.std.proofs.lemmas.Bool.Decides.{nat_tests}
use Rattle.compared_sides.proofs.Counted.{roomy}
use Rattle.compared_sides.proofs.lengths.make_room.Goals as goal

pub returns-then-is_empty : goal.returns-then-is_empty
returns-then-is_empty c =
    let empty : length c.args.kept.now.items ≡ 0 = grind (arith, nat_tests, c.if-is_empty.ensures) in
    roomy c.args.doc.now c.args.kept.now.items c.resize.new.self.items _ _ _ c.requires empty c.resize.ensures.items
