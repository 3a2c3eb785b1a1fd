use Rattle.json_text.proofs.Names.{length, sym, ap, subst, arith, ◌∙◌, StandsForAll, AreWithinLimits, AreSuspects}
use Rattle.json_walk.proofs.UnderWay.{way_more, way_whole}
use Rattle.name_stamps.proofs.NamesApart.{suspects_left}
use Rattle.json_walk.proofs.second_stage.Way.finish.Goals as goal

pub returns-then-self-len : goal.returns-then-self-len
returns-then-self-len c = λ text before now u over. way_more text c.args.index.now before now c.args.seen c.args.self u over (grind arith)

pub returns : goal.returns
returns c = λ text before now u over.
    let whole = way_whole text c.args.index.now before now c.args.seen c.args.self u over (grind arith) in
    let same = sym c.into_tape.ensures in let size = ap length c.into_tape.ensures in let short = whole.short in record {
      spelt = whole.json;
      stands = subst (StandsForAll text) same whole.stands;
      few = omega (arith, short, size);
      depth = λ t x. c.deepest-depth.ensures ∙ whole.depth t x;
      numbers = λ m. subst (AreWithinLimits text) same (whole.numbers m);
      looked = whole.bounded;
      suspects = subst (λ tape. AreSuspects text tape c.args.seen.suspects.items) same (suspects_left text c.args.self.builder c.args.seen u.checked);
    }
