use Rattle.std.proofs.Common.{◌≡◌, drop}
use Rattle.std.specs.List.{list_any}
use Rattle.admin_pages.specs.Hosts.{is_given, texts}
use Rattle.admin_pages.proofs.hosts.has_given.Given as goal

abbrev pub invariant-loop-name : goal.invariant-loop-name
invariant-loop-name l = list_any (is_given l.value) (texts (drop l.name-index l.own)) ≡ list_any (is_given l.value) (texts l.own)
