use Rattle.std.proofs.Common.{◌≡◌, ◌≤◌, drop, fold}
use Rattle.path_grammar.specs.Numbers.{decimal, with_digit}
use Rattle.path_grammar.proofs.numbers.magnitude.Given as goal

abbrev pub invariant-loop-c : goal.invariant-loop-c
invariant-loop-c l = record {
  fits : l.n ≤ 9007199254740991;
  goes_on : fold with_digit l.n (drop l.c-index l.digits) ≡ decimal l.digits;
}
