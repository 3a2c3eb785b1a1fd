use Rattle.std.proofs.Common.{◌≡◌, ◌+◌}
use Rattle.tenant_map.specs.Maps.{bytes_of}
use Rattle.tenant_map.specs.Kept.{texts}
use Rattle.tenant_map.proofs.collection.text_bytes.Given as goal

abbrev pub invariant-loop-document : goal.invariant-loop-document
invariant-loop-document l = l.total + bytes_of (texts l.document-iterator) ≡ bytes_of (texts l.documents.entries)
