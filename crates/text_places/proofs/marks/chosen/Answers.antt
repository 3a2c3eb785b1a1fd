use Rattle.json_text.proofs.Names.{◌+◌, length, sym, ap, ◌∙◌, subst, rules}
use Rattle.std.proofs.lemmas.List.{length_push}
use Rattle.text_places.specs.Marks.{AreChosen}
use Rattle.text_places.proofs.Repeated.{chosen_more}
use Rattle.text_places.proofs.marks.chosen.Goals as goal

pub loop-n-preserved : goal.loop-n-preserved
loop-n-preserved c = let i = c.loop-n.invariant in (
  ap length c.in_ok-push.ensures.items ∙ length_push c.loop-n.marks.items c.choice.result ∙ ap (λ n. n + 1) i.0,
  subst (λ xs. AreChosen c.args.tape.now c.args.flags.now xs (c.loop-n.n + 1)) (sym c.in_ok-push.ensures.items)
      (chosen_more c.args.tape.now c.args.flags.now c.loop-n.marks.items c.choice.result c.loop-n.n c.entry.result (search rules) c.entry.ensures i.0 c.choice.ensures i.1),
)
