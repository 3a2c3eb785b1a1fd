use Rattle.json_text.proofs.Names.{◌≡◌, ◌+◌, ◌-◌, ◌<◌, ◌≤◌, length, drop, get_or, string_end}
use Rattle.json_text.specs.declared.modes.Mode.TheVariants.{Between}
use Rattle.json_strings.proofs.scan.quote_past.Given as goal

abbrev pub invariant-loop-next : goal.invariant-loop-next
invariant-loop-next l = record {
  from : l.start ≤ l.next.at;
  within : l.next.at ≤ length l.looks.0;
  byte : l.next.at < length l.looks.0 → l.next.byte ≡ get_or l.looks.0 l.next.at 0;
  passed : string_end l.mode l.next.at (drop l.next.at l.looks.0) ≡ string_end Between l.start (drop l.start l.looks.0);
  same : l.looks.0 ≡ l.fn.looks.0;
  few : l.looks.1 + l.start ≤ l.fn.looks.1 + (l.next.at + 1);
}

abbrev pub decreases-loop-next : goal.decreases-loop-next
decreases-loop-next l = length l.looks.0 - l.next.at
