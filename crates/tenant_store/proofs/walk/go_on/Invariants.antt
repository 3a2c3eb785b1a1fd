use Rattle.std.proofs.Common.{◌≡◌, ◌≤◌, ◌+◌, length, take, drop}
use Rattle.std.specs.Vec.{vec_capacity}
use Rattle.query_machine.specs.Evaluators.{left_on, query_in}
use Rattle.tenant_map.specs.Kept.{AreKept, texts}
use Rattle.tenant_store.specs.TextsRead.{texts_read}
use Rattle.tenant_store.specs.Steps.{AreSizes}
use Rattle.tenant_store.specs.Walks.{IsReady, Passes, last_of, left_by, spent_on}
use Rattle.tenant_store.proofs.walk.go_on.Given as goal

abbrev pub invariant-loop-name : goal.invariant-loop-name
invariant-loop-name l = record {
  passes : Passes (query_in l.initial.evaluator) (texts_read l.documents.entries) (texts_read l.name-iterator) l.reached.units l.reached.hits (drop l.start l.out.items);
  left : l.reached.documents ≡ length l.name-iterator;
  last : l.name-iterator ≡ last_of l.reached.documents l.documents.entries;
  ready : IsReady (texts l.name-iterator) l.reached.units l.evaluator;
  query : query_in l.evaluator ≡ query_in l.initial.evaluator;
  step : left_by (query_in l.initial.evaluator) (l.more + spent_on l.reached.units l.evaluator) (texts_read l.name-iterator)
      ≡ left_by (query_in l.initial.evaluator) (l.units + spent_on l.fn.place.units l.initial.evaluator) (last_of l.fn.place.documents (texts_read l.documents.entries));
  share : l.more + left_on l.fn.place.units l.initial.evaluator.evaluation ≡ l.units + left_on l.reached.units l.evaluator.evaluation;
  kept : AreKept l.name-iterator;
  sizes : AreSizes l.reached l.start (length l.out.items);
  front : take l.start l.out.items ≡ take l.start l.fn.out.items;
  room : vec_capacity l.fn.out ≤ vec_capacity l.out;
}
