use Rattle.std.proofs.Common.{map}
use Rattle.store_names.specs.Names.{is_document_name}
use Rattle.tenant_map.specs.Listings.{name_field}
use Rattle.wire_frames.specs.Requests.{name_at}
use Rattle.client_frames.specs.Payloads.{IsName}
use Rattle.client_frames.specs.Readings.{name_of}
use Rattle.client_frames.proofs.Items.{HasRead}
use Rattle.client_frames.proofs.payloads.read_names.Given as goal

abbrev pub invariant-names : goal.invariant-names
invariant-names l = HasRead (name_at is_document_name) name_field IsName l.initial.rest l.count l.left (map name_of l.names.items) l.rest

abbrev pub decreases-names : goal.decreases-names
decreases-names l = l.left
