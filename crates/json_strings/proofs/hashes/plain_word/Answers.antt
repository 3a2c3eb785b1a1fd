use Rattle.json_text.proofs.Names.{◌≡◌, ◌≢◌, ℕ, ◌+◌, ◌-◌, ◌<◌, ◌≤◌, get_or, subst, arith, chunk}
use Rattle.structural_index.proofs.Lanes.{loaded}
use Rattle.json_strings.proofs.StopBits.{stands_alone}
use Rattle.json_strings.proofs.ShortHashes.{word_is}
use Rattle.json_strings.proofs.hashes.plain_word.Goals as goal

pub returns : goal.returns
returns c = let text = c.args.text.now in let at = c.args.at in let room = c.if-text-at-lt-EIGHT.false in let r = c.requires in
    let m = c.if-lanes_before-len.false in let plain = λ (k : ℕ) (from : at ≤ k) (to : k < at + c.args.len).
    (let i = k - at in let few = c.requires.few in let inside : i < 8 = omega arith in let back : at + i ≡ k = omega arith in
    subst (λ j. (get_or text j 0 < 128) × (get_or text j 0 ≢ 92)) back
    (stands_alone 8 i (chunk at 8 text) (get_or text (at + i) 0) (omega arith) inside (loaded text at 8 i (omega arith) inside) (c.lanes_before.ensures.clear i (omega arith)))) in
    word_is text at c.args.len c.from_be_bytes.result (omega arith) c.requires.some c.requires.few c.type_inv.text c.from_be_bytes.ensures plain
