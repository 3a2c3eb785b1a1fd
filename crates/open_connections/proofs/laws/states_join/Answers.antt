use Rattle.open_connections.proofs.Keeping.{keep_then, open_alike, others_stand, others_then}
use Rattle.open_connections.proofs.laws.states_join.Goals as goal

pub returns : goal.returns
returns g c = record { twice = λ a b c. keep_then _ _ _ _; others = others_stand; apart = others_then; there = open_alike }
