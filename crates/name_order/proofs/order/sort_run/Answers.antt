use Rattle.json_text.proofs.Names.{◌∙◌, ◌++◌, sym, ap, map, length, subst, IsPermutation, IsSorted, on}
use Rattle.json_strings.specs.Keys.{name_cmp}
use Rattle.name_order.specs.Ordered.{name_in, word_with}
use Rattle.name_order.proofs.SortedRuns.{run_many, run_moved, run_sorted}
use Rattle.name_order.proofs.order.sort_run.Goals as goal

pub copy_from_slice-requires : goal.copy_from_slice-requires
copy_from_slice-requires c = run_many c.args.text.now c.args.tape.now c.args.hash c.args.words.now _ c.requires.alike c.in_ok-keys.ensures.all c.in_ok-keys.ensures.sorted
    ∙ ap length (sym (c.as_slice-2.ensures.value ∙ c.in_ok-add_words.ensures ∙ ap (λ l. l ++ map (word_with c.args.hash) c.as_slice.result.now) c.new-sorted.ensures.items ∙ ap (map (word_with c.args.hash)) c.as_slice.ensures.value))

pub returns-clause-all : goal.returns-clause-all
returns-clause-all c = subst (IsPermutation c.args.words.now)
    (sym (c.copy_from_slice.ensures.after ∙ c.as_slice-2.ensures.value ∙ c.in_ok-add_words.ensures ∙ ap (λ l. l ++ map (word_with c.args.hash) c.as_slice.result.now) c.new-sorted.ensures.items ∙ ap (map (word_with c.args.hash)) c.as_slice.ensures.value))
    (run_moved c.args.text.now c.args.tape.now c.args.hash c.args.words.now _ c.requires.alike c.in_ok-keys.ensures.all c.in_ok-keys.ensures.sorted)

pub returns-clause-sorted : goal.returns-clause-sorted
returns-clause-sorted c = subst (IsSorted (on (name_in c.args.text.now c.args.tape.now) name_cmp))
    (sym (c.copy_from_slice.ensures.after ∙ c.as_slice-2.ensures.value ∙ c.in_ok-add_words.ensures ∙ ap (λ l. l ++ map (word_with c.args.hash) c.as_slice.result.now) c.new-sorted.ensures.items ∙ ap (map (word_with c.args.hash)) c.as_slice.ensures.value))
    (run_sorted c.args.text.now c.args.tape.now c.args.hash c.args.words.now _ c.requires.alike c.in_ok-keys.ensures.all c.in_ok-keys.ensures.sorted)
