use Rattle.std.proofs.Common.{ℕ, List, sym, subst}
use Rattle.structural_index.specs.Runs.{AreBlanksLast}
use Rattle.structural_index.proofs.looks.Batch.run.Goals as goal

pub run_end-end-requires-clause-last : goal.run_end-end-requires-clause-last
run_end-end-requires-clause-last c = subst (λ (p : List ℕ × ℕ). AreBlanksLast p.0 c.args.from c.args.to) (sym c.self.view_is) c.requires.last
