use Rattle.wire_frames.proofs.Splits.{split_whole, split_wait, split_fault, front_shorter, front_short, fault-append, split-append}
use Rattle.wire_frames.proofs.laws.splits_from_the_front.Goals as goal

pub returns : goal.returns
returns c = record {
  whole = split_whole;
  wait = split_wait;
  fault = split_fault;
  shorter = front_shorter;
  short = front_short;
  fault_stays = fault-append;
  prefix = split-append;
}
