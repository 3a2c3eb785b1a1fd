use Rattle.std.proofs.Common.{◌≡◌, ◌∙◌, ap, sym, ◌<◌, reverse, length, get_or, arith, refl}
use Rattle.text_faults.specs.Moves.{state, step, top, moved, expected_of}
use Rattle.text_faults.specs.declared.marks.Now.TheVariants.{Value}
use Rattle.text_faults.proofs.Longest.{longest_before, longest_whole, run_more}
use Rattle.text_faults.proofs.Next.{expected_before, expected_whole}
use Rattle.text_faults.proofs.Wholes.{whole_before, whole_at_end}
use Rattle.text_faults.proofs.finder.not_json.Goals as goal

pub loop-at-preserved-in-Some : goal.loop-at-preserved-in-Some
loop-at-preserved-in-Some c =
    let i = c.loop-at.invariant in let v = c.as_bytes-byte-items.ensures.value in let os = reverse c.loop-at.opens.items in let now = get_or c.loop-at.nows.items c.loop-at.number Value in
    let k = c.in-Some.ensures c.loop-at.nows.items (top os) i.3 i.1 i.2 in (
      run_more c.args.text.now c.loop-at.at (state now os) (let m = ap length v in omega arith) i.0
          ∙ ap (λ l. step (state now os) (get_or l c.loop-at.at 0)) (sym v)
          ∙ ap (λ m. moved m os) (sym k.1),
      k.0,
      i.2,
      i.3,
    )

pub returns-then-not-branch : goal.returns-then-not-branch
returns-then-not-branch c =
    let i = c.loop-at.invariant in let v = c.as_bytes-byte-items.ensures.value in let os = reverse c.loop-at.opens.items in let now = get_or c.loop-at.nows.items c.loop-at.number Value in
    let l : c.loop-at.at < length c.args.text.now = (let m = ap length v in omega arith) in
    let s = c.in_ok-find_step.ensures in let f = c.if-not-branch.true in let stays = c.in_ok-go.ensures.stays f in
    let stop = ap (λ l. step (state now os) (get_or l c.loop-at.at 0)) (sym v) ∙ ap (λ m. moved m os) (sym s.step.1) ∙ c.in_ok-go.ensures.moves c.find_step.new.nows.items ∙ rw f refl in
    let same : c.now_at.result ≡ now = c.now_at.ensures ∙ ap (λ k. get_or c.find_step.new.nows.items k Value) stays.0 ∙ s.steps.1.same c.loop-at.number i.1 in
    let inner : c.innermost.result ≡ top os = c.innermost.ensures ∙ ap (λ l. top (reverse l)) stays.1 in
    record {
      place = longest_before c.args.text.now c.loop-at.at (state now os) c.utf8.text l i.0 stop;
      expected = expected_before c.args.text.now c.loop-at.at (state now os) c.expected.result c.utf8.text l i.0 stop
          (c.expected.ensures ∙ ap (λ n. expected_of n c.innermost.result) same ∙ ap (λ o. expected_of now o) inner);
      whole = whole_before c.args.text.now c.loop-at.at c.expected.result l (longest_before c.args.text.now c.loop-at.at (state now os) c.utf8.text l i.0 stop);
    }

pub loop-at-preserved : goal.loop-at-preserved
loop-at-preserved c =
    let i = c.loop-at.invariant in let v = c.as_bytes-byte-items.ensures.value in let os = reverse c.loop-at.opens.items in let now = get_or c.loop-at.nows.items c.loop-at.number Value in
    let s = c.in_ok-find_step.ensures in let f = c.if-not-branch.false in (
      run_more c.args.text.now c.loop-at.at (state now os) (let m = ap length v in omega arith) i.0
          ∙ ap (λ l. step (state now os) (get_or l c.loop-at.at 0)) (sym v)
          ∙ ap (λ m. moved m os) (sym s.step.1)
          ∙ c.in_ok-go.ensures.moves c.find_step.new.nows.items ∙ rw f refl,
      c.in_ok-go.ensures.inside c.find_step.new.nows.items (let k = s.steps.1.more in let l = i.1 in omega arith) s.step.0,
      c.in_ok-go.ensures.row i.2,
      s.steps.0,
    )

pub returns : goal.returns
returns c =
    let v = ap length c.as_bytes-byte-items.ensures.value in let e : c.loop-at.at ≡ length c.args.text.now = omega arith in let w = c.loop-at.invariant.0 in
    let os = reverse c.loop-at.opens.items in let now = get_or c.loop-at.nows.items c.loop-at.number Value in
    record {
      place = longest_whole c.args.text.now (length c.args.text.now) (state now os) c.utf8.text refl (rw (← e) w);
      expected = expected_whole c.args.text.now (length c.args.text.now) (state now os) c.expected-2.result c.utf8.text refl (rw (← e) w)
          (c.expected-2.ensures ∙ ap (λ n. expected_of n c.innermost-2.result) c.now_at-2.ensures ∙ ap (λ o. expected_of now o) c.innermost-2.ensures);
      whole = whole_at_end c.args.text.now (length c.args.text.now) (state now os) c.expected-2.result c.utf8.text refl (rw (← e) w)
          (c.expected-2.ensures ∙ ap (λ n. expected_of n c.innermost-2.result) c.now_at-2.ensures ∙ ap (λ o. expected_of now o) c.innermost-2.ensures);
    }
