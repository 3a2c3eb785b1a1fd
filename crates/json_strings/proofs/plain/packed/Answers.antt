use Rattle.std.proofs.Common.{[], ◌∷◌, map, refl, arith}
use Rattle.json_strings.proofs.PlainLanes.{four_letters}
use Rattle.json_strings.proofs.PackedWords.{lane, packed_at, plain_lanes}
use Rattle.json_strings.proofs.plain.packed.Goals as goal

pub returns-then-stops-eq0 : goal.returns-then-stops-eq0
returns-then-stops-eq0 c =
    let ls = c.from.result ∷ c.from-2.result ∷ c.from-3.result ∷ c.from-4.result ∷ c.from-5.result ∷ c.from-6.result ∷ c.from-7.result ∷ c.from-8.result ∷ [] in
    let plain = plain_lanes (map lane ls) 8 refl (omega arith) c.if-stops-eq0.true in
    let first = packed_at c.args.name.now c.args.first c.from_le_bytes.result c.from.result c.from-2.result c.from-3.result c.from-4.result
    (four_letters c.args.name.now c.args.first c.index-name-first.result c.index-name-first-2.result c.index-name-first-3.result c.index-name-first-4.result c.from.result c.from-2.result c.from-3.result c.from-4.result
    c.requires.first c.index-name-first.is c.index-name-first-2.is c.index-name-first-3.is c.index-name-first-4.is c.from.ensures c.from-2.ensures c.from-3.ensures c.from-4.ensures)
    (plain 0 (omega arith)) (plain 1 (omega arith)) (plain 2 (omega arith)) (plain 3 (omega arith)) c.from_le_bytes.ensures in
    let last = packed_at c.args.name.now c.args.last c.from_le_bytes-then-stops-eq0.result c.from-5.result c.from-6.result c.from-7.result c.from-8.result
    (four_letters c.args.name.now c.args.last c.index-name-last.result c.index-name-last-2.result c.index-name-last-3.result c.index-name-last-4.result c.from-5.result c.from-6.result c.from-7.result c.from-8.result
    c.requires.last c.index-name-last.is c.index-name-last-2.is c.index-name-last-3.is c.index-name-last-4.is c.from-5.ensures c.from-6.ensures c.from-7.ensures c.from-8.ensures)
    (plain 4 (omega arith)) (plain 5 (omega arith)) (plain 6 (omega arith)) (plain 7 (omega arith)) c.from_le_bytes-then-stops-eq0.ensures in
    (first.0, first.1, last.0, last.1)
