use Rattle.std.proofs.Common.{◌≡◌}
use Rattle.json_strings.specs.Hashes.{hash_from, hash_of}
use Rattle.json_strings.proofs.hashes.decoded_hash.Given as goal

abbrev pub invariant-loop-c : goal.invariant-loop-c
invariant-loop-c l =
    (goal.iterator-loop-c).can_next l.scalars × (goal.iterator-loop-c).is_finite l.scalars × (hash_from l.factor l.state l.scalars ≡ hash_of l.factor l.initial.scalars)
