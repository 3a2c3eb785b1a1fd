use Rattle.std.proofs.Common.{[], ◌++◌, inl, refl, ap, ◌∙◌, arith}
use Rattle.path_grammar.specs.View.{query_view}
use Rattle.tenant_store.proofs.Walking.{answers_nothing}
use Rattle.tenant_store.proofs.Passing.{step_of_none}
use Rattle.tenant_store.proofs.tasks.query_nothing.Goals as goal

pub returns-clause-reached : goal.returns-clause-reached
returns-clause-reached c = (
  answers_nothing (query_view c.args.query.now) c.args.out.now.items c.extend_from_slice.new.self.items (c.in_ok-extend_from_slice.ensures.items ∙ ap (λ x. c.args.out.now.items ++ x) c.big_endian.ensures),
  record { texts = []; read = tt; sum = refl },
)

pub returns-clause-step : goal.returns-clause-step
returns-clause-step c = λ units documents begun left. step_of_none (query_view c.args.query.now) units documents begun left 0

pub returns-clause-little : goal.returns-clause-little
returns-clause-little c = λ units. record { little = inl (omega arith) }
