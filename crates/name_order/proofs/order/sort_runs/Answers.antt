use Rattle.json_text.proofs.Names.{◌≡◌, ◌≢◌, ◌∙◌, ℕ, ◌<◌, ◌≤◌, ◌-◌, List, sym, ap, length, get_or, get_or_default, subst, take_at, arith, All, All-permutation, IsPermutation}
use Rattle.std.proofs.lemmas.List.Sorted.{length_permutation, IsPermutation-put_mid}
use borrow.Rule.Slice.PartMut.{mid_of, put_mid}
use Rattle.name_order.specs.Ordered.{IsNamed}
use Rattle.name_order.specs.Orders.{high_half}
use Rattle.name_order.proofs.SortedRuns.{AreSorted, part_all, all_sorted, one_run}
use Rattle.name_order.proofs.order.sort_runs.Goals as goal

pub sort_run-requires-clause-named : goal.sort_run-requires-clause-named
sort_run-requires-clause-named c = let (factor, named) = c.requires.named in let words = c.loop-from.words.items in let from = c.loop-from.from in let to = c.run_end-to.result in
    let P = IsNamed factor c.args.text.now c.args.tape.now in let inside = subst (λ (l : List ℕ). to ≤ length l) c.as_slice.ensures.value c.run_end-to.ensures.within.1 in
    (factor, subst (λ l. All P (mid_of from (to - from) l)) (sym c.deref_mut.ensures.value) (part_all P words from to inside (λ k l m. All-permutation P c.args.words.now.items words c.loop-from.invariant.moved named k 0 (omega arith))))

pub sort_run-requires-clause-alike : goal.sort_run-requires-clause-alike
sort_run-requires-clause-alike c = let words = c.loop-from.words.items in let from = c.loop-from.from in let to = c.run_end-to.result in
    let inside = subst (λ (l : List ℕ). to ≤ length l) c.as_slice.ensures.value c.run_end-to.ensures.within.1 in let some = c.run_end-to.ensures.within.0 in
    let run = subst (λ (l : List ℕ). (k : ℕ) → from ≤ k → k < to → high_half (get_or l k 0) ≡ high_half (get_or l from 0)) c.as_slice.ensures.value c.run_end-to.ensures.alike in
    let first = ap high_half (get_or_default words from 0 c.index.result.now (omega arith) ∙ sym c.index.ensures) ∙ sym c.hash_in-hash.ensures in
    subst (λ l. All (λ w. high_half w ≡ c.hash_in-hash.result) (mid_of from (to - from) l)) (sym c.deref_mut.ensures.value) (part_all (λ w. high_half w ≡ c.hash_in-hash.result) words from to inside (λ k l m. run k l m ∙ first))

pub loop-from-smaller : goal.loop-from-smaller
loop-from-smaller c = let some = c.run_end-to.ensures.within in let long = length_permutation c.args.words.now.items c.loop-from.words.items c.loop-from.invariant.moved in
    let inside = subst (λ (l : List ℕ). c.run_end-to.result ≤ length l) c.as_slice.ensures.value some.1 in let less = some.0 in omega arith

pub loop-from-preserved : goal.loop-from-preserved
loop-from-preserved c = let words = c.loop-from.words.items in let from = c.loop-from.from in let to = c.run_end-to.result in let ys = c.sort_run.new.words in
    let read = c.as_slice.ensures.value in let lent = c.deref_mut.ensures.value in
    let inside = subst (λ (l : List ℕ). to ≤ length l) read c.run_end-to.ensures.within.1 in
    let run = subst (λ (l : List ℕ). (k : ℕ) → from ≤ k → k < to → high_half (get_or l k 0) ≡ high_half (get_or l from 0)) read c.run_end-to.ensures.alike in
    let other = subst (λ (l : List ℕ). to < length l → high_half (get_or l to 0) ≢ high_half (get_or l from 0)) read c.run_end-to.ensures.ends in
    let moved = subst (λ l. IsPermutation (mid_of from (to - from) l) ys) lent c.in_ok-sort_run.ensures.all in
    let long = length_permutation c.deref_mut.result.now (put_mid from (to - from) c.deref_mut.result.now ys) (IsPermutation-put_mid from (to - from) c.deref_mut.result.now ys c.in_ok-sort_run.ensures.all) in
    subst (λ l. AreSorted c.args.text.now c.args.tape.now c.args.words.now.items l to) (sym (take_at (put_mid from (to - from) c.deref_mut.result.now ys) _ _ (omega (arith, long, c.deref_mut.ensures.len)) ∙ ap (λ l. put_mid from (to - from) l ys) lent))
    (one_run c.args.text.now c.args.tape.now c.args.words.now.items words ys from to c.loop-from.invariant c.requires.sorted c.run_end-to.ensures.within.0 inside run other moved c.in_ok-sort_run.ensures.sorted)

pub returns-clause-sorted : goal.returns-clause-sorted
returns-clause-sorted c = all_sorted c.args.text.now c.args.tape.now c.args.words.now.items c.loop-from.words.items c.loop-from.from (let t = c.loop-from-test.false in let n = c.len.ensures in let k = c.loop-from.words.ok.0 in omega arith) c.loop-from.invariant
