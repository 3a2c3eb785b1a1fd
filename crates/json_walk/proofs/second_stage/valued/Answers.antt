use Rattle.std.proofs.Common.{◌+◌, ℕ, List, get_or, ap, refl, arith}
use Rattle.json_walk.specs.declared.lexing.Lexed.TheVariants as lexed
use Rattle.json_walk.proofs.Listed.{in_text, closes_before, next_is, no_blank, near, small_enough}
use Rattle.json_walk.proofs.WalkSteps.{lexed_walks, opened_walks}
use Rattle.json_text.specs.declared.tape.Kind.TheVariants as kinds
use Rattle.json_walk.proofs.CheckSteps.{leaf_signed, open_checked, by_none}
use Rattle.json_walk.proofs.second_stage.valued.Goals as goal

pub value-requires-clause-in_text : goal.value-requires-clause-in_text
value-requires-clause-in_text g c = in_text c.args.looks.now.0 c.args.places.now c.requires.listed c.args.k (omega (arith, c.requires.inside))

pub value-requires-clause-near : goal.value-requires-clause-near
value-requires-clause-near g c = let l = in_text c.args.looks.now.0 c.args.places.now c.requires.listed (c.args.k + 1) c.requires.inside in omega (arith, l)

pub value-requires-clause-closes : goal.value-requires-clause-closes
value-requires-clause-closes g c =
    closes_before c.args.looks.now.0 c.args.places.now c.requires.listed c.args.k _ (omega (arith, c.requires.inside)) (next_is c.args.looks.now.0 c.args.places.now c.requires.listed (c.args.k + 1) 0 c.requires.inside)

pub value-requires-clause-no_blank : goal.value-requires-clause-no_blank
value-requires-clause-no_blank g c = no_blank c.args.looks.now.0 c.args.places.now c.requires.listed c.args.k (omega (arith, c.requires.inside))

pub open-requires-clause-small : goal.open-requires-clause-small
open-requires-clause-small g c = small_enough c.args.looks.now.0 c.args.places.now c.requires.listed c.args.k _ (omega (arith, c.requires.inside)) c.requires.small

pub open-requires-clause-near : goal.open-requires-clause-near
open-requires-clause-near g c = near c.args.looks.now.0 c.args.places.now c.requires.listed c.args.k (omega (arith, c.requires.inside))

pub returns-in-Some-Opens-clause-walks : goal.returns-in-Some-Opens-clause-walks
returns-in-Some-Opens-clause-walks g c = λ w asks.
    let bytes = c.args.looks.now.0 in let items = c.args.places.now in let value = c.in-Some-Opens.ensures in
    opened_walks bytes items c.requires.listed c.args.k c.args.looks.now.1 c.value.new.looks.1 c.args.may_exceed.now c.value.new.may_exceed _ c.in-Some-Opens.shape c.args.builder.now c.open.new.self w c.args.name c.in-Some-Opens.field-0 c.open.result c.nothing_more.result
    (omega (arith, c.requires.inside)) asks c.in-Some-Opens.field-0-is value.value value.marked value.looked c.open.ensures c.nothing_more.ensures

pub leaf-requires-clause-small : goal.leaf-requires-clause-small
leaf-requires-clause-small g c = small_enough c.args.looks.now.0 c.args.places.now c.requires.listed c.args.k _ (omega (arith, c.requires.inside)) c.requires.small

pub returns-in-Some-Text-clause-walks : goal.returns-in-Some-Text-clause-walks
returns-in-Some-Text-clause-walks g c = λ w asks.
    let bytes = c.args.looks.now.0 in let items = c.args.places.now in let k = c.args.k in let value = c.in-Some-Text.ensures in
    let counted = ap (λ (p : List ℕ × ℕ). p.1) c.at-sign.ensures.counted in
    let same = ap (λ (b : List ℕ). get_or b (get_or items (k + 1) 0) 0) c.value.ensures.same in let byte = c.at-sign.ensures.value in
    lexed_walks bytes items c.requires.listed k c.args.looks.now.1 c.value.new.looks.1 c.at-sign.new.self.1 c.at-sign.result c.args.may_exceed.now c.value.new.may_exceed _ c.args.builder.now c.leaf.new.self w c.args.name c.in-Some-Text.field-0 (lexed.Text c.in-Some-Text.source) c.leaf.result c.signed.result
    c.requires.inside c.requires.level asks c.in-Some-Text.field-0-is value.value value.marked value.looked refl (omega arith) c.leaf.ensures (omega (arith, counted)) (omega (arith, same, byte)) c.signed.ensures

pub leaf-requires-in-Some-Number-clause-small : goal.leaf-requires-in-Some-Number-clause-small
leaf-requires-in-Some-Number-clause-small g c = small_enough c.args.looks.now.0 c.args.places.now c.requires.listed c.args.k _ (omega (arith, c.requires.inside)) c.requires.small

pub returns-in-Some-Number-clause-walks : goal.returns-in-Some-Number-clause-walks
returns-in-Some-Number-clause-walks g c = λ w asks.
    let bytes = c.args.looks.now.0 in let items = c.args.places.now in let k = c.args.k in let value = c.in-Some-Number.ensures in
    let counted = ap (λ (p : List ℕ × ℕ). p.1) c.at-sign-in-Some-Number.ensures.counted in
    let same = ap (λ (b : List ℕ). get_or b (get_or items (k + 1) 0) 0) c.value.ensures.same in let byte = c.at-sign-in-Some-Number.ensures.value in
    lexed_walks bytes items c.requires.listed k c.args.looks.now.1 c.value.new.looks.1 c.at-sign-in-Some-Number.new.self.1 c.at-sign-in-Some-Number.result c.args.may_exceed.now c.value.new.may_exceed _ c.args.builder.now c.leaf-in-Some-Number.new.self w c.args.name c.in-Some-Number.field-0 (lexed.Number c.in-Some-Number.source) c.leaf-in-Some-Number.result c.signed-in-Some-Number.result
    c.requires.inside c.requires.level asks c.in-Some-Number.field-0-is value.value value.marked value.looked refl (omega arith) c.leaf-in-Some-Number.ensures (omega (arith, counted)) (omega (arith, same, byte)) c.signed-in-Some-Number.ensures

pub leaf-requires-in-Some-Word-clause-small : goal.leaf-requires-in-Some-Word-clause-small
leaf-requires-in-Some-Word-clause-small g c = small_enough c.args.looks.now.0 c.args.places.now c.requires.listed c.args.k _ (omega (arith, c.requires.inside)) c.requires.small

pub returns-in-Some-Word-clause-walks : goal.returns-in-Some-Word-clause-walks
returns-in-Some-Word-clause-walks g c = λ w asks.
    let bytes = c.args.looks.now.0 in let items = c.args.places.now in let k = c.args.k in let value = c.in-Some-Word.ensures in
    let counted = ap (λ (p : List ℕ × ℕ). p.1) c.at-sign-in-Some-Word.ensures.counted in
    let same = ap (λ (b : List ℕ). get_or b (get_or items (k + 1) 0) 0) c.value.ensures.same in let byte = c.at-sign-in-Some-Word.ensures.value in
    lexed_walks bytes items c.requires.listed k c.args.looks.now.1 c.value.new.looks.1 c.at-sign-in-Some-Word.new.self.1 c.at-sign-in-Some-Word.result c.args.may_exceed.now c.value.new.may_exceed _ c.args.builder.now c.leaf-in-Some-Word.new.self w c.args.name c.in-Some-Word.field-0 (lexed.Word c.in-Some-Word.kind c.in-Some-Word.source) c.leaf-in-Some-Word.result c.signed-in-Some-Word.result
    c.requires.inside c.requires.level asks c.in-Some-Word.field-0-is value.value value.marked value.looked refl (omega arith) c.leaf-in-Some-Word.ensures (omega (arith, counted)) (omega (arith, same, byte)) c.signed-in-Some-Word.ensures

pub returns-in-Some-Opens-clause-checked : goal.returns-in-Some-Opens-clause-checked
returns-in-Some-Opens-clause-checked g c = by_none _ c.open.result c.nothing_more.result c.nothing_more.ensures
    (open_checked c.args.looks.now.0 c.args.builder.now c.open.new.self c.args.name c.in-Some-Opens.shape _ _ c.open.result c.open.ensures)

pub returns-in-Some-Text-clause-checked : goal.returns-in-Some-Text-clause-checked
returns-in-Some-Text-clause-checked g c =
    (leaf_signed c.args.looks.now.0 c.args.builder.now c.leaf.new.self c.args.name c.in-Some-Text.source kinds.Text
    c.at-sign.result c.leaf.result c.signed.result c.signed.ensures c.leaf.ensures).0

pub returns-in-Some-Text-clause-top : goal.returns-in-Some-Text-clause-top
returns-in-Some-Text-clause-top g c = (leaf_signed c.args.looks.now.0 c.args.builder.now c.leaf.new.self c.args.name c.in-Some-Text.source kinds.Text
    c.at-sign.result c.leaf.result c.signed.result c.signed.ensures c.leaf.ensures).1

pub returns-in-Some-Number-clause-checked : goal.returns-in-Some-Number-clause-checked
returns-in-Some-Number-clause-checked g c =
    (leaf_signed c.args.looks.now.0 c.args.builder.now c.leaf-in-Some-Number.new.self c.args.name c.in-Some-Number.source kinds.Number
    c.at-sign-in-Some-Number.result c.leaf-in-Some-Number.result c.signed-in-Some-Number.result c.signed-in-Some-Number.ensures c.leaf-in-Some-Number.ensures).0

pub returns-in-Some-Number-clause-top : goal.returns-in-Some-Number-clause-top
returns-in-Some-Number-clause-top g c =
    (leaf_signed c.args.looks.now.0 c.args.builder.now c.leaf-in-Some-Number.new.self c.args.name c.in-Some-Number.source kinds.Number
    c.at-sign-in-Some-Number.result c.leaf-in-Some-Number.result c.signed-in-Some-Number.result c.signed-in-Some-Number.ensures c.leaf-in-Some-Number.ensures).1

pub returns-in-Some-Word-clause-checked : goal.returns-in-Some-Word-clause-checked
returns-in-Some-Word-clause-checked g c =
    (leaf_signed c.args.looks.now.0 c.args.builder.now c.leaf-in-Some-Word.new.self c.args.name c.in-Some-Word.source c.in-Some-Word.kind
    c.at-sign-in-Some-Word.result c.leaf-in-Some-Word.result c.signed-in-Some-Word.result c.signed-in-Some-Word.ensures c.leaf-in-Some-Word.ensures).0

pub returns-in-Some-Word-clause-top : goal.returns-in-Some-Word-clause-top
returns-in-Some-Word-clause-top g c =
    (leaf_signed c.args.looks.now.0 c.args.builder.now c.leaf-in-Some-Word.new.self c.args.name c.in-Some-Word.source c.in-Some-Word.kind
    c.at-sign-in-Some-Word.result c.leaf-in-Some-Word.result c.signed-in-Some-Word.result c.signed-in-Some-Word.ensures c.leaf-in-Some-Word.ensures).1
