-- Reading selectors and segments from left to right.
use Rattle.std.specs.Prelude.{ℕ, List, [], ◌∷◌, length, Bool, true, false, ◌||◌, ◌==◌, if◌then◌else◌, Option, Some, None}
use Rattle.path_grammar.specs.Tree as tree
use Rattle.path_grammar.specs.Tree.{OneSegment, segments_of, selectors_of}
use Rattle.path_grammar.specs.Characters.{Text, is_blank, is_first}
use Rattle.path_grammar.specs.Reading.{Reader, ◌>>=◌, is_name, front_run, after_run, behind, repeat_at, list_at}
use Rattle.path_grammar.specs.ReadingNumbers.{part_at}
use Rattle.path_grammar.specs.ReadingStrings.{string_at}
use Rattle.path_grammar.specs.declared.ast.IntLit.{IntLit}

-- ---- Slices. A selector is read with the blanks behind it.

-- the step behind a second colon, if one is there
unfoldable pub step_from : Text → Option Text → Option (Option IntLit × Text)
step_from t None = Some (None, t)
step_from t (Some u) = part_at (after_run is_blank u)

unfoldable pub step_at : Reader (Option IntLit)
step_at t = step_from t (behind 0x3A t)

-- what stands behind the first colon
unfoldable pub slice_at : Option IntLit → Reader tree.Selector
slice_at start t = do
  stop ← part_at (after_run is_blank t)
  step ← step_at stop.1
  Some (tree.slice start stop.0 step.0, step.1)

-- an index, or a slice where a colon stands behind the first part
unfoldable pub index_from : Option IntLit → Text → Option Text → Option (tree.Selector × Text)
index_from start t (Some u) = slice_at start u
index_from (Some i) t None = Some (tree.index i, t)
index_from None t None = None

unfoldable pub index_at : Reader tree.Selector
index_at t = do
  x ← part_at t
  index_from x.0 x.1 (behind 0x3A x.1)

-- ---- Names and stars

unfoldable pub name_at : Reader tree.Selector
name_at t = do
  x ← string_at t
  Some (tree.name x.0, after_run is_blank x.1)

unfoldable pub next_selector : Text → Option Text
next_selector t = do
  u ← behind 0x2C t
  Some (after_run is_blank u)

unfoldable pub dotted_at : Reader tree.Selector
dotted_at [] = None
dotted_at (c ∷ t) =
    if c == 0x2A then Some (tree.wild, t)
    else if is_first c then Some (tree.name (front_run is_name (c ∷ t)), after_run is_name (c ∷ t))
    else None

-- the one selector of a segment without brackets
abbrev pub dotted_selectors_at : Reader (List tree.Selector)
dotted_selectors_at t = do
  x ← dotted_at t
  Some (x.0 ∷ [], x.1)

-- whether the segment descends, and where its selectors begin
unfoldable pub dots_at : Reader Bool
dots_at [] = None
dots_at (c ∷ t) = if c == 0x2E then Some (true, t) else if c == 0x5B then None else Some (false, c ∷ t)

unfoldable pub opening_at : Reader Bool
opening_at [] = None
opening_at (c ∷ t) = if c == 0x5B then Some (false, c ∷ t) else if c == 0x2E then dots_at t else None

abbrev pub begins_segment : ℕ → Bool
begins_segment c = c == 0x2E || c == 0x5B

-- where a segment begins
unfoldable pub at_segment : Text → Option Text
at_segment [] = None
at_segment (c ∷ t) = if begins_segment c then Some (c ∷ t) else None

unfoldable pub next_segment : Text → Option Text
next_segment t = at_segment (after_run is_blank t)

-- where a query in a filter begins
abbrev pub begins_query : ℕ → Bool
begins_query c = c == 0x24 || c == 0x40

-- ---- Selectors, segments and queries, where `condition` reads what stands in a filter

module _ (condition : Reader tree.Expr) where
  -- what stands behind the question mark, and the blanks behind it
  unfoldable pub filter_at : Reader tree.Selector
  filter_at t = do
    x ← condition (after_run is_blank t)
    Some (tree.filter x.0, after_run is_blank x.1)

  unfoldable pub selector_at : Reader tree.Selector
  selector_at [] = None
  selector_at (c ∷ t) =
      if c == 0x2A then Some (tree.wild, after_run is_blank t)
      else if c == 0x22 || c == 0x27 then name_at (c ∷ t)
      else if c == 0x3F then filter_at t
      else index_at (c ∷ t)

  unfoldable pub selectors_at : Reader (List tree.Selector)
  selectors_at t = list_at next_selector selector_at t

  -- what stands behind the bracket that opens
  unfoldable pub bracketed_at : Reader (List tree.Selector)
  bracketed_at t = do
    x ← selectors_at (after_run is_blank t)
    rest ← behind 0x5D x.1
    Some (x.0, rest)

  unfoldable pub selectors_from : Text → Option Text → Option (List tree.Selector × Text)
  selectors_from t (Some u) = bracketed_at u
  selectors_from t None = dotted_selectors_at t

  unfoldable pub segment_at : Reader OneSegment
  segment_at t = do
    x ← opening_at t
    ss ← selectors_from x.1 (behind 0x5B x.1)
    Some (record { descend = x.0; selectors = selectors_of ss.0 }, ss.1)

  unfoldable pub segments_at : Reader (List OneSegment)
  segments_at t = repeat_at next_segment segment_at (length t) t

  unfoldable pub sub_query_at : Reader tree.Nested
  sub_query_at [] = None
  sub_query_at (c ∷ t) = if begins_query c then (segments_at t >>= λ x. Some (tree.nested (c == 0x24) (segments_of x.0), x.1)) else None
