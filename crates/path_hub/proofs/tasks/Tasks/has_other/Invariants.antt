use Rattle.std.proofs.Common.{◌≡◌, ◌||◌}
use Rattle.std.specs.List.{list_any}
use Rattle.path_hub.specs.UnderWay.{is_other}
use Rattle.path_hub.proofs.tasks.Tasks.has_other.Given as goal

abbrev pub invariant-loop-other : goal.invariant-loop-other
invariant-loop-other l = (l.held || list_any (is_other l.place l.conn) l.other-iterator) ≡ list_any (is_other l.place l.conn) l.self.asked.entries
