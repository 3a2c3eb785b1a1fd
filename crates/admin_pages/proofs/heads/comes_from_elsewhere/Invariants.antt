use Rattle.std.proofs.Common.{◌≡◌, drop, map}
use Rattle.std.specs.List.{list_any}
use Rattle.httparse.specs.Spans.{header_bytes}
use Rattle.admin_pages.specs.Heads.{field_is_elsewhere}
use Rattle.admin_pages.specs.Hosts.{texts}
use Rattle.admin_pages.proofs.heads.comes_from_elsewhere.Given as goal

abbrev pub invariant-loop-header : goal.invariant-loop-header
invariant-loop-header l =
    list_any (field_is_elsewhere (texts l.own)) (map (header_bytes l.bytes) (drop l.header-index l.headers)) ≡ list_any (field_is_elsewhere (texts l.own)) (map (header_bytes l.bytes) l.headers)
