use Rattle.std.proofs.Common.{◌≡◌, ◌+◌, ◌-◌, ℕ, List, ◌++◌, length, take, drop, ap, ◌∙◌, arith, length-drop}
use Rattle.std.proofs.lemmas.List.{take_at}
use Rattle.wire_frames.specs.Replies.{head, reply}
use Rattle.request_replies.proofs.writing.finish.Goals as goal

finished : (all seen written h tail : List ℕ) (s n len p : ℕ) → seen ≡ all → length all ≡ len → length written ≡ length seen → written ≡ take s seen ++ (h ++ drop (s + 9) seen) → h ≡ head 0 n p → len ≡ (s + 9) + p
    → take len (written ++ tail) ≡ take s all ++ reply 0 n (drop (s + 9) all)
unfolding reply
finished all seen written h tail s n len p e l w i g q =
    let m : p ≡ length (drop (s + 9) all) = omega (arith, length-drop (s + 9) all) in
    take_at written tail len (w ∙ ap length e ∙ l) ∙ i ∙ ap (λ (x : List ℕ). take s x ++ (h ++ drop (s + 9) x)) e
    ∙ ap (λ (x : List ℕ). take s all ++ (x ++ drop (s + 9) all)) (g ∙ ap (head 0 n) m)

pub returns : goal.returns
returns c = finished c.args.out.now.items c.as_mut_slice.result.now c.write_head.new.out c.reply_head-head.result _ c.args.start c.args.number c.args.out.now.len (c.len.result - c.args.start - 9)
    c.as_mut_slice.ensures.value (omega (arith, c.args.out.now.ok.0)) (omega arith) c.write_head.ensures c.reply_head-head.ensures (omega (arith, c.len.ensures, c.requires.started))
