use Rattle.json_text.proofs.Names.{◌≡◌, ◌∙◌, ◌+◌, ◌++◌, ◌∷◌, ◌<◌, [], sym, ap, map, length, drop, drop_more, append_assoc, get_or, arith, chars, bytes_at}
use Rattle.json_strings.specs.Spelling.{scalars_in, unquoted}
use Rattle.name_order.specs.Ordered.{key_in, name_at, name_in}
use Rattle.name_order.specs.Orders.{low_half}
use Rattle.name_order.proofs.Names.{no_entry, same_entry}
use Rattle.name_order.proofs.KeysLeft.{key_is}
use Rattle.name_order.proofs.order.sorted_keys.Goals as goal

pub loop-member-preserved : goal.loop-member-preserved
loop-member-preserved c = let text = c.args.text.now in let tape = c.args.tape.now in let words = c.args.words.now in let i = c.loop-member.member-index in let keys = c.loop-member.keys.items in
    let t = c.loop-member-test.true in let more : i < length words = omega arith in let n = c.number_in-k.ensures in
    let inside : c.number_in-k.result < length tape = (let h = (c.requires.1 i 0 more).inside in omega arith) in
    let name = c.in_ok-new.ensures.name ∙ ap (λ x. scalars_in (chars (unquoted (bytes_at text x)))) (c.label.ensures (get_or tape c.number_in-k.result no_entry) (same_entry tape c.number_in-k.result inside)) ∙ ap (name_at text tape) n in
    let here : c.in_ok-new.field-0 ≡ key_in text tape (get_or words i 0) = key_is c.in_ok-new.field-0 (low_half (get_or words i 0)) (name_in text tape (get_or words i 0)) (c.in_ok-new.ensures.number ∙ n) name in
    ap (λ l. l ++ map (key_in text tape) (drop (i + 1) words)) c.in_ok-push.ensures.items
    ∙ append_assoc keys (c.in_ok-new.field-0 ∷ []) (map (key_in text tape) (drop (i + 1) words)) ∙ ap (λ k. keys ++ (k ∷ map (key_in text tape) (drop (i + 1) words))) here
    ∙ ap (λ l. keys ++ map (key_in text tape) l) (sym (drop_more words i 0 more)) ∙ c.loop-member.invariant
