use Rattle.outbox.specs.Lines.{fresh}
use Rattle.outbox.proofs.Orders.{kept, taken_first, no_loss}
use Rattle.outbox.proofs.laws.in_order.Goals as goal

pub returns-clause-all : goal.returns-clause-all
returns-clause-all c = kept fresh

pub returns-clause-sound : goal.returns-clause-sound
returns-clause-sound c = no_loss fresh

pub returns-clause-taken : goal.returns-clause-taken
returns-clause-taken c = taken_first fresh
