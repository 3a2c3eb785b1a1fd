-- The selectors and segments that names and indexes stand for (RFC 9535, section 2.3.5.1).
use Rattle.std.specs.Prelude.{List, map, false}
use Rattle.path_grammar.specs.Tree as tree
use Rattle.path_grammar.specs.Tree.{OneSegment, Segments, segments_of}
use Rattle.path_meaning.specs.declared.links.Link.{Link}
use Rattle.path_meaning.specs.declared.links.Link.TheVariants.{Key, Place}

abbrev pub link_selector : Link → tree.Selector
link_selector (Key n) = tree.name n.scalars.items
link_selector (Place i) = tree.index i

abbrev pub link_view : Link → OneSegment
link_view l = record { descend = false; selectors = tree.selector (link_selector l) tree.no_selectors }

abbrev pub links_view : List Link → Segments
links_view ls = segments_of (map link_view ls)
