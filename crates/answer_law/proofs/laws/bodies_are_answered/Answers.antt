use Rattle.std.proofs.Common.{[]}
use Rattle.answer_law.proofs.Answered.{body_answered, list_answered}
use Rattle.answer_law.proofs.laws.bodies_are_answered.Goals as goal

pub returns-clause-one : goal.returns-clause-one
returns-clause-one c = body_answered

pub returns-clause-all : goal.returns-clause-all
returns-clause-all c = λ bodies. list_answered bodies [] tt
