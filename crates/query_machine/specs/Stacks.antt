-- Cursors above one another. What the last of them gives comes first (this project's own).
use Rattle.std.specs.Prelude.{Option, None, Some, ◌≡◌, ℕ, zero, suc, ◌+◌, ◌<◌, ◌≤◌, List, [], ◌∷◌, ◌++◌, drop, map, length, false}
use Rattle.std.specs.List.{All}
use Rattle.path_grammar.specs.Tree.{OneSegment, Segments, segments_of, no_selectors}
use Rattle.json_tape.specs.Nodes.{Node}
use Rattle.json_tape.specs.Document.{Doc, count, node_at, following, single, IsIn}
use Rattle.json_text.specs.declared.tape.NodeId.{NodeId}
use Rattle.node_lists.specs.Evaluation.{evaluated}
use Rattle.node_lists.specs.Charge.{charge_from}
use Rattle.node_lists.specs.Nodelists.{nodes_of}
use Rattle.node_lists.specs.Paying.{Inside}
use Rattle.query_plan.specs.Planned.{stage_view, trees}
use Rattle.query_plan.specs.declared.plan.Stage.{Stage}
use Rattle.query_machine.specs.Cursors.{ahead, due, price, IsCursor}
use Rattle.query_machine.specs.declared.cursor.Cursor.{Cursor}
use Rattle.query_machine.specs.declared.stepping.Track.{Track}

-- the segments of these stages
abbrev pub segments_in : List Stage → List OneSegment
segments_in ss = trees (map stage_view ss)

-- the segment with this number, or one that selects nothing
abbrev pub segment_at : List OneSegment → ℕ → OneSegment
segment_at [] k = record { descend = false; selectors = no_selectors }
segment_at (s ∷ ss) zero = s
segment_at (s ∷ ss) (suc k) = segment_at ss k

-- children are out, from the first of them up to the next
pub record Emits (d : Doc) (first next : Option NodeId) (out new : List NodeId) (old left : ℕ) : Type 0 where
  pub same : nodes_of d new ++ following d next ≡ nodes_of d out ++ following d first
  pub paid : left + length (following d first) ≡ old + length (following d next)
  pub inside : IsIn d next
  pub sound : Inside d new

module _ (d : Doc) (ss : List OneSegment) where
  -- the segments behind this one
  abbrev pub after : ℕ → Segments
  after k = segments_of (drop (k + 1) ss)

  -- what a cursor still gives, and what that is charged
  abbrev pub given : Cursor → List Node
  given c = evaluated (node_at d 0) (after c.stage) (ahead d (segment_at ss c.stage) c)

  abbrev pub owed : Cursor → ℕ
  owed c = due d (segment_at ss c.stage) c + charge_from (node_at d 0) (after c.stage) (ahead d (segment_at ss c.stage) c)

  abbrev pub remaining : List Cursor → List Node
  remaining [] = []
  remaining (c ∷ cs) = remaining cs ++ given c

  abbrev pub remaining_due : List Cursor → ℕ
  remaining_due [] = 0
  remaining_due (c ∷ cs) = remaining_due cs + owed c

  -- what is out and what remains, and what is still to be paid
  abbrev pub whole_ahead : Track → List Node
  whole_ahead t = nodes_of d t.out.items ++ remaining t.cursors.items

  abbrev pub whole_due : Track → ℕ
  whole_due t = remaining_due t.cursors.items

  -- cursors of these segments, and nodes of the document
  pub record IsUnderWay (t : Track) : Type 0 where
    pub cursors : All (IsCursor d (length ss)) t.cursors.items
    pub sound : Inside d t.out.items

  -- What is out and what remains stay the same together, and so do the units that are left and what is due.
  pub record Goes (before after_it : Track) (left left_then : ℕ) : Type 0 where
    pub same : whole_ahead after_it ≡ whole_ahead before
    pub paid : left_then + whole_due before ≡ left + whole_due after_it
    pub under_way : IsUnderWay after_it

  -- nodes that a segment selected are placed: they are out, or a cursor goes on from them
  pub record Places (k : ℕ) (ns : List Node) (before after_it : Track) : Type 0 where
    pub same : whole_ahead after_it ≡ nodes_of d before.out.items ++ (evaluated (node_at d 0) (after k) ns ++ remaining before.cursors.items)
    pub paid : whole_due after_it ≡ charge_from (node_at d 0) (after k) ns + whole_due before
    pub under_way : IsUnderWay after_it

  -- what a node gives from which a cursor is to go on, and what that is charged
  abbrev pub rest_given : Option (ℕ × NodeId) → List Node
  rest_given None = []
  rest_given (Some rest) = evaluated (node_at d 0) (after rest.0) (node_at d rest.1.0 ∷ [])

  abbrev pub rest_due : Option (ℕ × NodeId) → ℕ
  rest_due None = 0
  rest_due (Some rest) = charge_from (node_at d 0) (after rest.0) (node_at d rest.1.0 ∷ [])

  abbrev pub IsRest : Option (ℕ × NodeId) → Type 0
  IsRest None = Unit {0}
  IsRest (Some rest) = (rest.0 + 1 < length ss) × (rest.1.0 < count d)

  -- what nodes give that a segment selected is out, but for what one of them gives
  pub record Puts (k : ℕ) (ns : List Node) (rest : Option (ℕ × NodeId)) (out new : List NodeId) (old left : ℕ) : Type 0 where
    pub same : nodes_of d new ++ rest_given rest ≡ nodes_of d out ++ evaluated (node_at d 0) (after k) ns
    pub paid : left + charge_from (node_at d 0) (after k) ns ≡ old + rest_due rest
    pub inside : IsRest rest
    pub sound : Inside d new

  -- a part of what a cursor gives is out, but for what one node gives
  pub record Gives (before next : Cursor) (rest : Option (ℕ × NodeId)) (out new : List NodeId) (old left : ℕ) : Type 0 where
    pub same : nodes_of d new ++ (rest_given rest ++ given next) ≡ nodes_of d out ++ given before
    pub paid : left + owed before ≡ old + (rest_due rest + owed next)
    pub inside : IsRest rest
    pub cursor : IsCursor d (length ss) next
    pub stage : next.stage ≡ before.stage
    pub sound : Inside d new

  -- a cursor is on the others again, or nothing was ahead of it
  pub record PutBack (c : Cursor) (before after_it : Track) : Type 0 where
    pub same : remaining after_it.cursors.items ≡ given c ++ remaining before.cursors.items
    pub paid : remaining_due after_it.cursors.items ≡ owed c + remaining_due before.cursors.items
    pub out : after_it.out.items ≡ before.out.items
    pub under_way : IsUnderWay after_it

  -- a node is followed through segments, up to the one with this number
  pub record Follows (k : ℕ) (n : Node) (to : ℕ) (found : Option NodeId) (left left_then : ℕ) : Type 0 where
    pub same : evaluated (node_at d 0) (after to) (single d found) ≡ evaluated (node_at d 0) (after k) (n ∷ [])
    pub paid : left_then + charge_from (node_at d 0) (after k) (n ∷ []) ≡ left + charge_from (node_at d 0) (after to) (single d found)
    pub inside : IsIn d found

  -- one cursor is put on the others
  pub record PutOn (c : Cursor) (before after_it : Track) : Type 0 where
    pub pushed : after_it.cursors.items ≡ before.cursors.items ++ c ∷ []
    pub out : after_it.out.items ≡ before.out.items
    pub under_way : IsUnderWay after_it

  -- a step costs a cursor's price at most
  abbrev pub IsOneStep : (old new : ℕ) → Type 0
  IsOneStep old new = (c : Cursor) × (old ≤ new + price d (segment_at ss c.stage) c)
