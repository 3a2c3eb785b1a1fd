use Rattle.json_text.proofs.Names.{◌∙◌, sym, ap, subst, All, All-permutation, nat_eq, on, pointwise, repeats_next_by}
use Rattle.std.proofs.lemmas.List.Sorted.{IsPermutation-trans}
use Rattle.name_order.specs.Ordered.{name_in, IsNamed}
use Rattle.name_order.proofs.HashedWords.{good, found, ordered}
use Rattle.name_order.proofs.order.order_words.Goals as goal

pub sort_runs-requires-clause-named : goal.sort_runs-requires-clause-named
sort_runs-requires-clause-named c = let (ms, o) = c.requires.object in
    (c.args.factor, good c.args.factor c.args.text.now c.args.tape.now c.requires.short c.args.n _ c.in_ok-sort_words.ensures.all ms o)

pub names_meet-requires : goal.names_meet-requires
names_meet-requires c = let (ms, o) = c.requires.object in let named = IsNamed c.args.factor c.args.text.now c.args.tape.now in
    (c.args.factor, subst (All named) (sym c.as_slice.ensures.value) (All-permutation named _ _ c.in_ok-sort_runs.ensures.all (good c.args.factor c.args.text.now c.args.tape.now c.requires.short c.args.n _ c.in_ok-sort_words.ensures.all ms o)))

pub returns-clause-found : goal.returns-clause-found
returns-clause-found c = λ ms o.
    c.names_meet.ensures ∙ ap (repeats_next_by (on (name_in c.args.text.now c.args.tape.now) (pointwise nat_eq))) c.as_slice.ensures.value
    ∙ found c.args.factor c.args.text.now c.args.tape.now c.requires.short c.args.n _ (λ ms' o'. IsPermutation-trans _ _ _ (c.in_ok-sort_words.ensures.all ms' o') c.in_ok-sort_runs.ensures.all) c.in_ok-sort_runs.ensures.sorted ms o

pub returns-clause-ordered : goal.returns-clause-ordered
returns-clause-ordered c = λ none. let (ms, o) = c.requires.object in
    ordered c.args.factor c.args.text.now c.args.tape.now c.requires.short c.args.n _ (λ ms' o'. IsPermutation-trans _ _ _ (c.in_ok-sort_words.ensures.all ms' o') c.in_ok-sort_runs.ensures.all) c.in_ok-sort_runs.ensures.sorted ms o
    (sym (c.names_meet.ensures ∙ ap (repeats_next_by (on (name_in c.args.text.now c.args.tape.now) (pointwise nat_eq))) c.as_slice.ensures.value) ∙ none)
