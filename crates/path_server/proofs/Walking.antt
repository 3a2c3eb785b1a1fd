-- The lines of nodes on the way through them: what is written of all of them, and where they may break off.
use Rattle.std.proofs.Common.{◌≡◌, ◌<◌, ◌+◌, ℕ, List, ◌++◌, Option, length, drop, map, ap, suc, arith}
use Rattle.std.proofs.Math.Seq.{drop-cons}
use Rattle.std.proofs.Math.ListN.{get_or}
use Rattle.json_tape.specs.Document.{Doc, node_at}
use Rattle.json_text.specs.declared.tape.NodeId.{NodeId}
use Rattle.tape_select.specs.Nodelists.{nodes_of}
use Rattle.tenant_store.specs.Hits.{hit_of}
use Rattle.standard_streams.specs.Fronts.{StopsShort, WritesBut}
use Rattle.path_server.specs.Lines.{line_of, lines_of}
use Rattle.path_server.proofs.Breaking.{next_stops, next_written}

abbrev lines_at : Doc → List NodeId → List ℕ
lines_at d ids = lines_of (map hit_of (nodes_of d ids))

abbrev line_at : Doc → NodeId → List ℕ
line_at d id = line_of (hit_of (node_at d id.0))

lines_from : (d : Doc) (ids : List NodeId) (i : ℕ) (other : NodeId) → i < length ids → lines_at d (drop i ids) ≡ line_at d (get_or ids i other) ++ lines_at d (drop (i + 1) ids)
lines_from d ids i other inside =
    let next : i + 1 ≡ suc i = omega arith in
    rw next (ap (λ rest. lines_of (map hit_of (nodes_of d rest))) (drop-cons ids i other inside))

pub next_stops_short : (d : Doc) (ids : List NodeId) (i : ℕ) (other : NodeId) (held all : List ℕ) (old mid new : Option (List ℕ)) → i < length ids
    → WritesBut (held ++ lines_of (map hit_of (nodes_of d (drop i ids)))) all old mid → StopsShort (held ++ line_of (hit_of (node_at d (get_or ids i other).0))) mid new
    → StopsShort all old new
next_stops_short d ids i other held all old mid new inside w v =
    next_stops held (line_at d (get_or ids i other)) (lines_at d (drop (i + 1) ids)) all old mid new (rw (lines_from d ids i other inside) at w) v

pub next_is_written : (d : Doc) (ids : List NodeId) (i : ℕ) (other : NodeId) (held left all : List ℕ) (old mid new : Option (List ℕ)) → i < length ids
    → WritesBut (held ++ lines_of (map hit_of (nodes_of d (drop i ids)))) all old mid → WritesBut left (held ++ line_of (hit_of (node_at d (get_or ids i other).0))) mid new
    → WritesBut (left ++ lines_of (map hit_of (nodes_of d (drop (i + 1) ids)))) all old new
next_is_written d ids i other held left all old mid new inside w v =
    next_written held (line_at d (get_or ids i other)) (lines_at d (drop (i + 1) ids)) left all old mid new (rw (lines_from d ids i other inside) at w) v
