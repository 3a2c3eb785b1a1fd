use Rattle.std.proofs.Common.{◌≡◌, drop}
use Rattle.json_strings.specs.Hashes.{hash_from, hash_of}
use Rattle.json_strings.proofs.hashes.meant_hash.Given as goal

abbrev pub invariant-loop-c : goal.invariant-loop-c
invariant-loop-c l = hash_from l.factor l.state (drop l.c-index l.name) ≡ hash_of l.factor l.name
