use Rattle.json_text.proofs.Names.{◌≡◌, drop, bytes_eq}
use Rattle.json_strings.proofs.plain.is_meant.Given as goal

abbrev pub invariant-loop-c : goal.invariant-loop-c
invariant-loop-c l = bytes_eq (drop l.c-index l.name) l.scalars ≡ bytes_eq l.name l.fn.scalars
