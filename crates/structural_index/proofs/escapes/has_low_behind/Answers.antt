use Rattle.std.proofs.Common.{◌≡◌, ◌+◌, ◌&&◌, eqb, sym, ap, ◌∙◌, arith}
use Rattle.std.proofs.lemmas.List.{get_or_default}
use Rattle.structural_index.specs.Places.{byte, spells_low}
use Rattle.structural_index.specs.Blocks.{is_lower}
use Rattle.structural_index.proofs.JudgedEscapes.{low_is}
use Rattle.structural_index.proofs.escapes.has_low_behind.Goals as goal

pub returns-then-text-at-eq92 : goal.returns-then-text-at-eq92
returns-then-text-at-eq92 c = let text = c.args.text.now in let at = c.args.at in let inside = c.if-text-at-le5.false in
    let here : byte text (at + 5) ≡ 92 = sym (get_or_default text (at + 5) 0 32 (omega (arith, inside))) ∙ c.if-text-at-eq92.true in
    c.is_low.ensures ∙ ap is_lower c.letter_at.ensures ∙ low_is text (at + 6) ∙ sym (ap (λ x. eqb x 92 && spells_low text (at + 6)) here)

pub returns-else-text-at-eq92 : goal.returns-else-text-at-eq92
returns-else-text-at-eq92 c = let text = c.args.text.now in let at = c.args.at in let inside = c.if-text-at-le5.false in
    let here = get_or_default text (at + 5) 0 32 (omega (arith, inside)) in grind (arith, here, c.if-text-at-eq92.false)
