use Rattle.std.proofs.Common.{◌≡◌, ◌+◌, ◌*◌, ◌≤◌, length}
use Rattle.std.specs.Map.{keys_of}
use Rattle.tenant_map.specs.Kept.{texts}
use Rattle.tenant_map.specs.Listings.{names_listed}
use Rattle.tenant_map.specs.Quotas.{document_quota}
use Rattle.tenant_map.proofs.listing.names_length.Given as goal

abbrev pub invariant-loop-name : goal.invariant-loop-name
invariant-loop-name l = record {
  same : l.total + length (names_listed (keys_of (texts l.name-iterator))) ≡ length (names_listed (keys_of (texts l.documents.entries)));
  all_short : length (names_listed (keys_of (texts l.documents.entries))) ≤ 129 * document_quota;
}
