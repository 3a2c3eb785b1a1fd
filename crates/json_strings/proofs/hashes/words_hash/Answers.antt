use Rattle.json_text.proofs.Names.{◌≡◌, ◌+◌, ◌-◌, take, drop, arith, chars}
use Rattle.json_strings.proofs.ShortHashes.{word_passed, word_ends}
use Rattle.json_strings.proofs.hashes.words_hash.Goals as goal

pub loop-k-preserved : goal.loop-k-preserved
loop-k-preserved c = let text = c.args.text.now in let k = c.loop-k.k in let end = c.args.at + c.args.len in let i = c.loop-k.invariant in
    let test = c.loop-k-test.true in let inside = c.requires.inside in let size : end - k - 8 ≡ end - (k + 8) = omega arith in
    grind (
      arith,
      chars (take (end - (k + 8)) (drop (k + 8) text)),
      word_passed c.args.factor text k (end - k) c.loop-k.hash c.in-Some.word (omega arith) (omega arith) c.in-Some.ensures,
    )

pub returns-in-Some-plain_word : goal.returns-in-Some-plain_word
returns-in-Some-plain_word c = grind (arith, word_ends)
