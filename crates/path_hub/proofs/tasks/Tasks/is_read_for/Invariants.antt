use Rattle.std.proofs.Common.{◌≡◌, ◌||◌}
use Rattle.std.specs.List.{list_any}
use Rattle.path_hub.specs.UnderWay.{is_of_tenant}
use Rattle.path_hub.proofs.tasks.Tasks.is_read_for.Given as goal

abbrev pub invariant-loop-reading : goal.invariant-loop-reading
invariant-loop-reading l = (l.is_read || list_any (is_of_tenant l.place) l.reading-iterator) ≡ list_any (is_of_tenant l.place) l.self.readings.entries
