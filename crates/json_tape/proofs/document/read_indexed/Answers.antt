use Rattle.json_text.proofs.Names.{◌∙◌, ap, subst, sym, Err, IsNoJson}
use Rattle.json_walk.specs.UnderWay.{IsReading}
use Rattle.json_text.specs.Answer.{Explains}
use Rattle.json_tape.proofs.Verdicts.{explained}
use Rattle.json_tape.proofs.document.read_indexed.Goals as goal

pub judged-requires-clause-reading : goal.judged-requires-clause-reading
judged-requires-clause-reading c = let same = ap (λ (p : _). p.0) c.new.ensures ∙ c.as_bytes.ensures.value in let found = c.in-Ok.ensures in (
  c.new.result.1,
  c.walk.new.looks.1,
  subst (λ t. IsReading t c.new.result.1 c.walk.new.looks.1 c.in-Ok.reading) same (record {
    spelt = found.spelt;
    stands = found.stands;
    few = found.few;
    depth = found.depth;
    numbers = found.numbers;
    looked = found.looked;
    suspects = found.suspects;
  }),
)

pub returns-in-Err : goal.returns-in-Err
returns-in-Err c = let same = ap (λ (p : _). p.0) c.new.ensures ∙ c.as_bytes.ensures.value in
    subst (Explains c.args.text.now) (sym c.fault_of.ensures) (explained c.args.text.now c.requires.short c.utf8.text c.in-Err.fault (λ e. subst IsNoJson same (c.in-Err.ensures.refused (ap Err e))))
