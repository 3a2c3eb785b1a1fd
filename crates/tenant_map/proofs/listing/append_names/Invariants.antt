use Rattle.std.proofs.Common.{◌≡◌, ◌≤◌, ◌++◌, length, take}
use Rattle.std.specs.Vec.{vec_capacity}
use Rattle.std.specs.Map.{keys_of}
use Rattle.tenant_map.specs.Kept.{AreKept, texts}
use Rattle.tenant_map.specs.Listings.{names_listed}
use Rattle.tenant_map.proofs.listing.append_names.Given as goal

abbrev pub invariant-loop-name : goal.invariant-loop-name
invariant-loop-name l = record {
  same : l.out.items ++ names_listed (keys_of (texts l.name-iterator)) ≡ l.fn.out.items ++ names_listed (keys_of (texts l.documents.entries));
  before : take (length l.fn.out.items) l.out.items ≡ l.fn.out.items;
  short : AreKept l.name-iterator;
  room : vec_capacity l.fn.out ≤ vec_capacity l.out;
}
