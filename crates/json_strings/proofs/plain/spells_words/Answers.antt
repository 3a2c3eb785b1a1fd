use Rattle.std.proofs.Common.{ℕ, List, length, ◌-◌, Some, ap, sym, ◌∙◌, subst, arith}
use Rattle.json_strings.specs.Spelling.{IsWord, ArePlainAt}
use Rattle.json_strings.proofs.PackedWords.{same_word, other_word, both_words, none_before, first_spelt}
use Rattle.json_strings.proofs.plain.spells_words.Goals as goal

pub returns-in-Some-false : goal.returns-in-Some-false
returns-in-Some-false c = search (arith, other_word, none_before)

pub ends_plainly-requires-clause-begins : goal.ends_plainly-requires-clause-begins
ends_plainly-requires-clause-begins c = grind (arith, both_words)

pub returns-in-Some-false-is_word : goal.returns-in-Some-false-is_word
returns-in-Some-false-is_word c = let e = c.as_bytes-bytes.ensures.value in let t = c.if-inside-name.false in let r = c.requires in let some = r.0 in
    let few = r.1 in let v = c.is_word.ensures.same (c.in-Some-true.is ∙ ap Some c.in-Some-true.field-0-test) in
    let o = c.is_word-2.ensures.other (c.in-Some-false-is_word.is ∙ ap Some c.in-Some-false-is_word.field-0-test) in
    sym (other_word c.args.name.now c.args.inside.now (length c.args.name.now - 4) c.args.words.last (omega arith) (omega arith)
    (first_spelt c.args.inside.now c.args.name.now (length c.args.name.now - 4) (omega arith)
    (same_word c.args.inside.now c.args.name.now 0 c.args.words.first c.type_inv.inside r.2.0 r.2.1 (subst (λ (l : List ℕ). IsWord c.args.words.first l 0) e v))) r.2.2
    (subst (λ (l : List ℕ). (IsWord c.args.words.last l (length c.args.name.now - 4) → ⊥) × ArePlainAt l (length c.args.name.now - 4)) e o))
