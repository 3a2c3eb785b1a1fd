use Rattle.json_text.proofs.Names.{IsPermutation, IsSorted, take_at, nat_cmp, map, ◌∙◌, ◌+◌, ◌*◌, ◌∷◌, ◌++◌, [], get_or, refl, sym, ap, subst, arith}
use Rattle.name_order.proofs.Names.{keyed, word_of, quoted_at, scalars_at, no_entry, same_entry, next_left}
use Rattle.json_strings.specs.Hashes.{hash_of}
use Rattle.json_strings.specs.Keys.{spread}
use Rattle.name_order.proofs.KeysLeft.{IsGiven, given_none, given_more, given_all}
use Rattle.name_order.proofs.order.sort_words.Goals as goal

pub loop-k-init : goal.loop-k-init
loop-k-init c = let q = c.after-end.ensures (get_or c.args.tape.now c.args.n no_entry) (same_entry c.args.tape.now c.args.n c.requires.inside) in
    rw c.clear.ensures.items (rw q (given_none (word_of c.args.factor) c.args.text.now c.args.tape.now c.args.n))

pub label-requires : goal.label-requires
label-requires c = let o = c.requires.object in let b = c.loop-k.invariant o.0 o.1 in
    (next_left c.args.text.now c.args.tape.now c.args.n c.loop-k.k _ b.0 b.1 c.loop-k-test.true).inside

pub hash-name-requires : goal.hash-name-requires
hash-name-requires c = let o = c.requires.object in let b = c.loop-k.invariant o.0 o.1 in
    let x = next_left c.args.text.now c.args.tape.now c.args.n c.loop-k.k _ b.0 b.1 c.loop-k-test.true in
    let l = c.label.ensures (get_or c.args.tape.now c.loop-k.k no_entry) (same_entry c.args.tape.now c.loop-k.k x.inside) in
    quoted_at c.args.text.now c.args.text.now _ x.name.source x.name.characters refl (l ∙ x.label) x.lies x.string

pub after-k-requires : goal.after-k-requires
after-k-requires c = let o = c.requires.object in let b = c.loop-k.invariant o.0 o.1 in
    (next_left c.args.text.now c.args.tape.now c.args.n c.loop-k.k _ b.0 b.1 c.loop-k-test.true).inside

pub loop-k-smaller : goal.loop-k-smaller
loop-k-smaller c = let o = c.requires.object in let b = c.loop-k.invariant o.0 o.1 in
    let x = next_left c.args.text.now c.args.tape.now c.args.n c.loop-k.k _ b.0 b.1 c.loop-k-test.true in
    let a = c.after-k.ensures (get_or c.args.tape.now c.loop-k.k no_entry) (same_entry c.args.tape.now c.loop-k.k x.inside) in
    let l = x.later in let t = c.loop-k-test.true in omega arith

pub loop-k-preserved : goal.loop-k-preserved
loop-k-preserved c = let o = c.requires.object in let b = c.loop-k.invariant o.0 o.1 in
    let inside = (next_left c.args.text.now c.args.tape.now c.args.n c.loop-k.k _ b.0 b.1 c.loop-k-test.true).inside in
    let l = c.label.ensures (get_or c.args.tape.now c.loop-k.k no_entry) (same_entry c.args.tape.now c.loop-k.k inside) in
    let a = c.after-k.ensures (get_or c.args.tape.now c.loop-k.k no_entry) (same_entry c.args.tape.now c.loop-k.k inside) in
    subst (IsGiven (word_of c.args.factor) c.args.text.now c.args.tape.now c.args.n _ _) (sym c.in_ok-push.ensures.items)
    (subst (λ e. IsGiven (word_of c.args.factor) c.args.text.now c.args.tape.now c.args.n e c.after-end.result (c.loop-k.words.items ++ c.word.result ∷ [])) (sym a)
    (given_more (word_of c.args.factor) c.args.text.now c.args.tape.now c.args.n c.loop-k.k _ c.loop-k.words.items c.word.result c.loop-k-test.true
    (λ ms o left x. c.word.ensures ∙ ap (λ h. h * 4294967296 + c.loop-k.k) (c.spread.ensures ∙ ap (spread c.args.factor) (c.hash-name.ensures ∙ ap (hash_of c.args.factor) (scalars_at c.args.text.now c.args.text.now _ x.name.source x.name.characters refl (l ∙ x.label) x.lies x.string))))
    c.loop-k.invariant))

pub returns-clause-all : goal.returns-clause-all
returns-clause-all c = λ ms o.
    subst (IsPermutation (map (word_of c.args.factor) (keyed ms (c.args.n + 1)))) (sym (take_at c.sort_unstable.new.self _ _ (omega (arith, c.sort_unstable.ensures.len, c.as_mut_slice.ensures.len))))
    (subst (λ xs. IsPermutation xs c.sort_unstable.new.self) (c.as_mut_slice.ensures.value ∙ given_all (word_of c.args.factor) c.args.text.now c.args.tape.now c.args.n c.loop-k.k _ c.loop-k.words.items c.loop-k-test.false c.loop-k.invariant ms o) c.sort_unstable.ensures.permutation)

pub returns-clause-sorted : goal.returns-clause-sorted
returns-clause-sorted c = subst (IsSorted nat_cmp) (sym (take_at c.sort_unstable.new.self _ _ (omega (arith, c.sort_unstable.ensures.len, c.as_mut_slice.ensures.len)))) c.sort_unstable.ensures.sorted
