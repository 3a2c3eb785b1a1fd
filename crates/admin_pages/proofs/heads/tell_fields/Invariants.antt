use Rattle.std.proofs.Common.{◌≡◌, ◌+◌, ◌≤◌, drop, map}
use Rattle.std.specs.Prelude.{◌||◌}
use Rattle.std.specs.List.{count_by, list_any}
use Rattle.httparse.specs.Spans.{header_bytes}
use Rattle.admin_pages.specs.Heads.{field_brings_body, field_is_host}
use Rattle.admin_pages.proofs.heads.tell_fields.Given as goal

abbrev pub invariant-loop-header : goal.invariant-loop-header
invariant-loop-header l =
    (l.hosts ≤ l.header-index)
    × (l.hosts + count_by field_is_host (map (header_bytes l.bytes) (drop l.header-index l.headers)) ≡ count_by field_is_host (map (header_bytes l.bytes) l.headers))
    × ((l.has_body || list_any field_brings_body (map (header_bytes l.bytes) (drop l.header-index l.headers))) ≡ list_any field_brings_body (map (header_bytes l.bytes) l.headers))
