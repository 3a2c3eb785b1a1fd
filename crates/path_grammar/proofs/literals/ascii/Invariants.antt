use Rattle.std.proofs.Common.{◌≡◌, take, drop, true}
use Rattle.std.specs.List.{list_all}
use Rattle.path_grammar.specs.Characters.{is_ascii}
use Rattle.path_grammar.proofs.literals.ascii.Given as goal

abbrev pub invariant-loop-c : goal.invariant-loop-c
invariant-loop-c l = record {
  so_far : l.bytes.items ≡ take l.c-index l.text;
  are_ascii : list_all is_ascii (drop l.c-index l.text) ≡ true;
}
