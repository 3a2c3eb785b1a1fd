use Rattle.std.proofs.Common.{arith}
use Rattle.json_walk.proofs.Words.{spells_four, spells_five}
use Rattle.json_walk.proofs.lexing.word_of.Goals as goal

pub returns-then-letters-eq-NULL : goal.returns-then-letters-eq-NULL
returns-then-letters-eq-NULL c =
    spells_four c.args.bytes.now 110 117 108 108 c.four_letters-letters.result (λ k. (c.type_inv.bytes k).fits) c.if-bytes-eq4.true c.four_letters-letters.ensures (omega arith) (omega arith) (omega arith) (omega arith) c.if-letters-eq-NULL.true

pub returns-then-letters-eq-TRUE : goal.returns-then-letters-eq-TRUE
returns-then-letters-eq-TRUE c =
    spells_four c.args.bytes.now 116 114 117 101 c.four_letters-letters.result (λ k. (c.type_inv.bytes k).fits) c.if-bytes-eq4.true c.four_letters-letters.ensures (omega arith) (omega arith) (omega arith) (omega arith) c.if-letters-eq-TRUE.true

pub returns-then-bytes-eq101 : goal.returns-then-bytes-eq101
returns-then-bytes-eq101 c =
    spells_five c.args.bytes.now 102 97 108 115 101 c.four_letters.result (λ k. (c.type_inv.bytes k).fits) c.if-bytes-eq5.true c.four_letters.ensures (omega arith) (omega arith) (omega arith) (omega arith) c.if-four_letters-eq-FALS.true c.if-bytes-eq101.true
