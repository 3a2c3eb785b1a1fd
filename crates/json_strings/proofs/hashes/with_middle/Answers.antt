use Rattle.json_text.proofs.Names.{◌≡◌, ◌∙◌, suc, ◌+◌, ◌-◌, ◌*◌, ◌/◌, length, sym, ap, arith}
use Rattle.json_strings.specs.Hashes.{joined, fours_at, words_from}
use Rattle.json_strings.proofs.hashes.with_middle.Goals as goal

pub loop-i-preserved : goal.loop-i-preserved
loop-i-preserved c = let bytes = c.args.bytes.now in let i = c.loop-i.i in let all = (length bytes - 9) / 8 in let l = c.loop-i-test.true in
    let left : all - i ≡ suc (all - (i + 1)) = omega (arith, l) in let at : 8 * (i + 1) + 8 ≡ 8 * i + 8 + 8 = omega arith in
    ap (words_from (all - (i + 1)) bytes (8 * (i + 1) + 8)) (c.joined-hash.ensures ∙ ap (joined c.loop-i.hash) c.fours_at.ensures)
    ∙ ap (λ k. words_from (all - (i + 1)) bytes k (joined c.loop-i.hash (fours_at bytes (8 * i + 8) (8 * i + 8 + 4)))) at
    ∙ sym (ap (λ n. words_from n bytes (8 * i + 8) c.loop-i.hash) left) ∙ c.loop-i.invariant
