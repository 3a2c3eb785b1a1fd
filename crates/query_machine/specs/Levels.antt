-- Queries under way, each above the one that waits for it (this project's own). The lowest is the whole query, and each above it a query in a filter
-- of the one below.
use Rattle.std.specs.Prelude.{◌≡◌, ℕ, ◌+◌, ◌<◌, ◌≤◌, List, [], ◌∷◌, ◌++◌, Bool, true, false, Option, Some, None}
use Rattle.path_grammar.specs.Tree.{OneSegment, Segments, segments_of}
use Rattle.json_tape.specs.Nodes.{Node}
use Rattle.json_tape.specs.Document.{Doc, count, node_at}
use Rattle.node_lists.specs.Evaluation.{evaluated}
use Rattle.node_lists.specs.Charge.{charge_from}
use Rattle.node_lists.specs.Nodelists.{nodes_of}
use Rattle.node_lists.specs.Paying.{Inside}
use Rattle.query_plan.specs.Planned.{Claimed, Claims, a_query, a_condition, claims_of, look, query_of}
use Rattle.query_plan.specs.declared.plan.Parts.{Parts}
use Rattle.tape_select.specs.Memo.{Keeps}
use Rattle.tape_select.specs.Awaiting.{AwaitsSome}
use Rattle.query_plan.specs.declared.plan.Nested.{Nested}
use denote.Ref.{Bor}
use Rattle.query_machine.specs.Cursors.{price}
use Rattle.query_machine.specs.Stacks.{segment_at, segments_in, whole_ahead, whole_due, IsUnderWay}
use Rattle.query_machine.specs.declared.cursor.Cursor.{Cursor}
use Rattle.query_machine.specs.declared.stepping.Track.{Track}
use Rattle.query_machine.specs.declared.levels.Origin.{Origin}
use Rattle.query_machine.specs.declared.levels.Waiting.{Waiting}
use Rattle.query_machine.specs.declared.levels.Machine.{Machine}
use Rattle.query_machine.specs.declared.levels.Move.{Move}
use Rattle.query_machine.specs.declared.levels.Move.TheVariants.{Ends, GoesOn, Lost}

-- the query that has a slot, and its segments behind the names and indexes
abbrev pub path_of : Option Claimed → Segments
path_of None = segments_of []
path_of (Some (a_query from_root before behind)) = segments_of (before ++ behind)
path_of (Some (a_condition s e)) = segments_of []

abbrev pub behind_of : Option Claimed → List OneSegment
behind_of None = []
behind_of (Some (a_query from_root before behind)) = behind
behind_of (Some (a_condition s e)) = []

-- What is out and what remains are these nodes. The units that are left and the charge of the query from the node are so many units and what is due.
pub record Leads (d : Doc) (all : List Node) (q : Segments) (ss : List OneSegment) (from : Node) (units left : ℕ) (t : Track) : Type 0 where
  pub under_way : IsUnderWay d ss t
  pub ahead : whole_ahead d ss t ≡ all
  pub due : left + charge_from (node_at d 0) q (from ∷ []) ≡ units + whole_due d ss t

-- what is awaited for a child is part of the price of a step
abbrev pub AwaitsStep : Doc → Claims → List OneSegment → Node → Option (Bor Nested) → (paid : ℕ) → Type 0
AwaitsStep d table ss child q paid = (c : Cursor) × AwaitsSome d table child q paid (price d (segment_at ss c.stage) c)

-- at its beginning, from this node
pub record Begins (d : Doc) (ss : List OneSegment) (n : Node) (t : Track) : Type 0 where
  pub under_way : IsUnderWay d ss t
  pub ahead : whole_ahead d ss t ≡ evaluated (node_at d 0) (segments_of ss) (n ∷ [])
  pub due : whole_due d ss t ≡ charge_from (node_at d 0) (segments_of ss) (n ∷ [])

-- the units that are left
abbrev pub left_in : Machine → ℕ
left_in l = l.state.meter.left

module _ (plan : Parts) where
  abbrev pub path_at : Origin → Segments
  path_at o = path_of (look (claims_of plan.stages.items) o.slot)

  abbrev pub behind_at : Origin → List OneSegment
  behind_at o = behind_of (look (claims_of plan.stages.items) o.slot)

  -- the segments of the query on top
  abbrev pub top_segments : List Waiting → Origin → List OneSegment
  top_segments [] o = segments_in plan.stages.items
  top_segments (w ∷ ws) o = behind_at o

module _ (d : Doc) (plan : Parts) where
  -- the whole query, which began with so many units and has these nodes out or still to give
  abbrev pub IsLowest : (units : ℕ) → (all : List Node) → Track → (left : ℕ) → Type 0
  IsLowest units all t left = Leads d all (query_of plan.stages.items) (segments_in plan.stages.items) (node_at d 0) units left t

  -- A query in a filter of the one below, which goes on with so many units where so much is due: its charge is part of that.
  pub record IsAbove (lower_left lower_due : ℕ) (o : Origin) (t : Track) (left : ℕ) : Type 0 where
    pub inside : o.from.0 < count d
    pub leads : Leads d (evaluated (node_at d 0) (path_at plan o) (node_at d o.from.0 ∷ [])) (path_at plan o) (behind_at plan o) (node_at d o.from.0) o.units left t
    pub part : lower_left + charge_from (node_at d 0) (path_at plan o) (node_at d o.from.0 ∷ []) ≤ o.units + lower_due
    pub lent : o.units ≤ lower_left

  -- those that wait, and the one on top
  abbrev pub AreAbove : (lower_left lower_due : ℕ) → List Waiting → Origin → Track → (left : ℕ) → Type 0
  AreAbove lower_left lower_due [] o t left = IsAbove lower_left lower_due o t left
  AreAbove lower_left lower_due (w ∷ ws) o t left = IsAbove lower_left lower_due w.origin w.track w.left × AreAbove w.left (whole_due d (behind_at plan w.origin) w.track) ws o t left

  abbrev pub Stack : (units : ℕ) → (all : List Node) → List Waiting → Origin → Track → (left : ℕ) → Type 0
  Stack units all [] o t left = IsLowest units all t left
  Stack units all (w ∷ ws) o t left = IsLowest units all w.track w.left × AreAbove w.left (whole_due d (segments_in plan.stages.items) w.track) ws o t left

  -- the query is under way, and what is kept is right
  pub record IsOnWay (units : ℕ) (all : List Node) (l : Machine) : Type 0 where
    pub stack : Stack units all l.below.items l.origin l.track l.state.meter.left
    pub kept : Keeps d (claims_of plan.stages.items) l.state

  -- what the whole query has out and still to give
  abbrev pub lowest : List Waiting → Track → Track
  lowest [] t = t
  lowest (w ∷ ws) t = w.track

  abbrev pub rest_of : Machine → List Node
  rest_of l = whole_ahead d (segments_in plan.stages.items) (lowest l.below.items l.track)

  -- all these nodes are out, and its charge is paid
  pub record IsEnd (units : ℕ) (all : List Node) (l : Machine) : Type 0 where
    pub nodes : nodes_of d l.track.out.items ≡ all
    pub inside : Inside d l.track.out.items
    pub paid : left_in l + charge_from (node_at d 0) (query_of plan.stages.items) (node_at d 0 ∷ []) ≡ units

  -- A step costs at most what a cursor of the query, or of one of its queries in filters, costs for a step.
  abbrev pub IsOneStep : (old new : ℕ) → Type 0
  IsOneStep old new = (ws : List Waiting) × (o : Origin) × (c : Cursor) × (old ≤ new + price d (segment_at (top_segments plan ws o) c.stage) c)

  -- the query on top took steps, until fewer units are left
  pub record IsRun (units least : ℕ) (before next : Machine) : Type 0 where
    pub on_way : IsOnWay units (rest_of next) next
    pub rest : rest_of next ≡ rest_of before
    pub origin : next.origin ≡ before.origin
    pub below : next.below.items ≡ before.below.items
    pub little : IsOneStep least (left_in next)

  abbrev pub Moved : Move → (units : ℕ) → (all : List Node) → Machine → Type 0
  Moved Ends units all l = IsEnd units all l
  Moved GoesOn units all l = IsOnWay units all l
  Moved Lost units all l = Unit {0}

  -- at its beginning all that the query selects remains, and no units are spent
  pub record Begun (units : ℕ) (m : Machine) : Type 0 where
    pub on_way : IsOnWay units (rest_of m) m
    pub rest : rest_of m ≡ evaluated (node_at d 0) (query_of plan.stages.items) (node_at d 0 ∷ [])
    pub left : left_in m ≡ units

  -- it pauses where more than a share is spent
  pub record Pauses (units share : ℕ) (before next : Machine) : Type 0 where
    pub on_way : IsOnWay units (rest_of next) next
    pub rest : rest_of next ≡ rest_of before
    pub spent : left_in next + share < left_in before

  -- it came to its end or pauses, and has spent at most the share and one step more
  abbrev pub Advances : (units share : ℕ) → (is_end : Bool) → (before next : Machine) → Type 0
  Advances units share true before next = IsEnd units (rest_of before) next × IsOneStep (left_in before) (left_in next + share)
  Advances units share false before next = Pauses units share before next × IsOneStep (left_in before) (left_in next + share)
