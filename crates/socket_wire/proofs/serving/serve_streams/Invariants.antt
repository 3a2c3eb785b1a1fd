use Rattle.socket_wire.specs.Served.{IsFree, Served, service}
use Rattle.socket_wire.proofs.serving.serve_streams.Given as goal

abbrev pub invariant-connections : goal.invariant-connections
invariant-connections g l = record {
  free : IsFree l.hub;
  so_far : Served l.number (service l.initial.hub (g.L.Listener.told l.initial.listener) (g.G.EndLog.told l.initial.log)) (service l.hub (g.L.Listener.told l.listener) (g.G.EndLog.told l.log));
}
