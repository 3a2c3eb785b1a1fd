use Rattle.std.proofs.Common.{◌+◌, ◌-◌, ◌<◌, inl, inr, length, take, drop, refl, sym, ap, subst, arith, length-drop}
use Rattle.std.specs.Prelude.{IsUtf8}
use Rattle.simdutf8.specs.Tracks.{HasRead}
use Rattle.std.proofs.lemmas.List.{take_rest}
use Rattle.std.proofs.lemmas.Str.{IsUtf8-drop, IsUtf8-between, IsCharBoundary-before_ascii, IsCharBoundary-from_take}
use Rattle.structural_index.proofs.Utf8Runs.{block_on, block_last, padded_utf8}
use Rattle.structural_index.proofs.characters.read_run.Goals as goal

pub returns-then-text-at-lt128 : goal.returns-then-text-at-lt128
returns-then-text-at-lt128 c =
    let text = c.args.text.now in
    let from = c.args.from in
    let end = c.reading.at + 64 in
    let before = c.reading.invariant in
    let read = c.finish.ensures _ (subst (HasRead c.step-checker.result) (sym (block_on text from c.reading.at before.from)) (c.step-checker.ensures _ before.seen)) in
    record {
      past = inl (let le = before.from in omega (arith, le));
      inside = let l = c.if-at-text.true in omega (arith, l);
      over = inl (let whole = before.whole in omega (arith, whole));
      sound = read.0;
      complete = λ front u. read.1 (IsUtf8-between text from end u (let le = before.from in omega (arith, le)) (IsCharBoundary-from_take text from u c.requires.within front) (IsCharBoundary-before_ascii text end c.if-at-text.true c.if-text-at-lt128.true));
    }

pub reading-preserved : goal.reading-preserved
reading-preserved c =
    let before = c.reading.invariant in
    let more = c.reading-test.true in
    record {
      from = let le = before.from in omega (arith, le);
      within = let le = before.within in omega (arith, le, more);
      whole = let whole = before.whole in omega (arith, whole);
      seen = subst (HasRead c.step-checker.result) (sym (block_on c.args.text.now c.args.from c.reading.at before.from)) (c.step-checker.ensures _ before.seen);
    }

pub returns : goal.returns
returns c =
    let text = c.args.text.now in
    let from = c.args.from in
    let before = c.reading.invariant in
    let few : 0 < 64 - length (take (length text - c.reading.at) (drop c.reading.at text)) = (let rest = ap length (take_rest text c.reading.at) in let long = length-drop c.reading.at text in let past = c.reading-test.false in omega (arith, rest, long, past)) in
    let same = block_last text c.tail.result from c.reading.at _ before.from refl c.tail.ensures in
    let padded = padded_utf8 (drop from text) (64 - length (take (length text - c.reading.at) (drop c.reading.at text))) few in
    let read = c.finish-2.ensures _ (subst (HasRead c.step-last.result) same (c.step-last.ensures _ before.seen)) in
    record {
      past = inr refl;
      inside = omega arith;
      over = inr refl;
      sound = λ t. subst IsUtf8 (sym (take_rest text from)) (padded.0 (read.0 t));
      complete = λ front u. read.1 (padded.1 (IsUtf8-drop text from u (IsCharBoundary-from_take text from u c.requires.within front)));
    }
