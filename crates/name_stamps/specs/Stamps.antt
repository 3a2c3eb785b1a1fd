-- The duplicate check while a text is walked: names are compared by their stamps, and objects that may have a repeated name are suspects.
use Rattle.std.specs.Prelude.{◌/◌, ◌≡◌, ◌≢◌, ℕ, ◌+◌, ◌*◌, ◌%◌, ◌<◌, ◌≤◌, ◌⊎◌, List, [], ◌∷◌, ◌++◌, length, get_or, set, Option, Some, None}
use Rattle.std.specs.List.{Contains}
use Rattle.structural_index.specs.Runs.{AreSlashless}
use Rattle.json_text.specs.declared.tape.Entry.{Entry}
use Rattle.json_text.specs.declared.tape.Extent.{Extent}
use Rattle.json_text.specs.declared.tape.Role.TheVariants as roles
use Rattle.json_text.specs.declared.tape.Level.{Level}
use Rattle.json_text.specs.declared.tape.Level.TheVariants.{Root, Inside}
use Rattle.json_text.specs.declared.tape.Open.{Open}
use Rattle.name_stamps.specs.declared.seen.SeenNames.{SeenNames}
use Rattle.name_stamps.specs.declared.seen.Slot.{Slot}
use Rattle.json_text.specs.Limits.{bytes_at}
use Rattle.tape_cells.specs.Cells.{members_in}
use Rattle.json_text.specs.Tape.{entry_in}
use Rattle.json_text.specs.Suspects.{narrow}
use Rattle.json_text.specs.Machine.{kind_of_shape}
use Rattle.tape_cells.specs.Built.{Built, top_of, depth_of}
use Rattle.json_strings.specs.Keys.{mixed}
use Rattle.json_strings.specs.Hashes.{word_of_bytes}

-- the seventeen highest bits of it
unfoldable pub stamp : ℕ → ℕ
stamp half = half / 32768

-- No fact of a text rests on which stamp it is.
abbrev pub bytes_stamp : List ℕ → ℕ
bytes_stamp bs = stamp (mixed (word_of_bytes bs))

-- no backslash stands there
abbrev pub IsPlain : List ℕ → Extent → Type 0
IsPlain text x = AreSlashless text x.start (x.start + x.len)

abbrev pub stamp_at : List ℕ → Extent → ℕ
stamp_at text x = bytes_stamp (bytes_at text x)

-- a name has this stamp, if it has any
abbrev pub IsStamped : List ℕ → Extent → Option ℕ → Type 0
IsStamped text x (Some s) = (s ≡ stamp_at text x) × (s < 131072) × IsPlain text x
IsStamped text x None = Unit {0}

-- entry k is that of a member of the object with the number n
pub record IsMemberOf (es : List Entry) (n k : ℕ) : Type 0 where
  pub inside : k < length es
  pub role : (entry_in es k).role ≡ roles.Member
  pub up : (entry_in es k).up ≡ n

-- the members of an object so far have names of a stamp each, without a backslash
pub record AreDistinct (text : List ℕ) (es : List Entry) (n : ℕ) : Type 0 where
  pub plain : (k : ℕ) → IsMemberOf es n k → IsPlain text (entry_in es k).label
  pub apart : (j k : ℕ) → j < k → IsMemberOf es n j → IsMemberOf es n k → stamp_at text (entry_in es j).label ≢ stamp_at text (entry_in es k).label

-- the last byte of an object's number in front of that of a stamp
unfoldable pub mark_of : (n s : ℕ) → ℕ
mark_of n s = n % 256 * 256 + s % 256

-- the place in a table at which a stamp's mark is looked for first
abbrev pub place_of : (table s : ℕ) → ℕ
place_of table s = table + s / 256

-- a mark stands at one of eight places from one on, behind marks of the same object alone
pub record HasMark (marks : List ℕ) (from mark : ℕ) : Type 0 where
  pub away : ℕ
  pub near : away < 8
  pub here : get_or marks (from + away) 0 ≡ mark
  pub between : (i : ℕ) → i < away → get_or marks (from + i) 0 / 256 ≡ mark / 256

-- the stamp of an object has its mark in the table of the object's depth
abbrev pub HasStamp : List ℕ → (n depth s : ℕ) → Type 0
HasStamp marks n depth s = HasMark marks (place_of (depth * 520) s) (mark_of n s)

-- that of each member's name
abbrev pub AreMarked : List ℕ → List Entry → List ℕ → (n depth : ℕ) → Type 0
AreMarked text es marks n depth = (k : ℕ) → IsMemberOf es n k → HasStamp marks n depth (stamp_at text (entry_in es k).label)

abbrev pub IsUnsuspected : SeenNames → ℕ → Type 0
IsUnsuspected seen n = Contains seen.suspects.items n → ⊥

-- what is held of an open container below this number, with so many around it
abbrev pub IsHeld : List ℕ → List Entry → SeenNames → (limit : ℕ) → Level → (n depth : ℕ) → Type 0
IsHeld text es seen limit Root n depth = Unit {0}
IsHeld text es seen limit (Inside shape) n depth = (n < limit) × (0 < depth) × ((entry_in es n).kind ≡ kind_of_shape shape) × (IsUnsuspected seen n → AreMarked text es seen.marks n depth)

-- which numbers those around it have
abbrev pub limit_under : Level → ℕ → ℕ
limit_under Root n = 0
limit_under (Inside shape) n = n

abbrev pub AreHeld : List ℕ → List Entry → SeenNames → (limit : ℕ) → List Open → Type 0
AreHeld text es seen limit [] = Unit {0}
AreHeld text es seen limit (o ∷ os) = IsHeld text es seen limit o.level o.entry (length os) × AreHeld text es seen (limit_under o.level o.entry) os

-- each object so far that is no suspect is narrow, and its names have distinct stamps
pub record DuplicateCheck (text : List ℕ) (b : Built) (seen : SeenNames) : Type 0 where
  pub long : length seen.marks ≡ 4160
  pub apart : (n : ℕ) → IsUnsuspected seen n → AreDistinct text b.entries n
  pub few : (n : ℕ) → IsUnsuspected seen n → members_in (entry_in b.entries n) ≤ narrow
  pub held : AreHeld text b.entries seen (length b.entries) b.opens
  pub above : (n k : ℕ) → IsMemberOf b.entries n k → n < length b.entries

-- the table lies within all
abbrev pub HasTable : Slot → Type 0
HasTable slot = slot.table + 520 ≤ 4160

-- the slot is that of the innermost container, whose table is the one of its depth, or which is a suspect
pub record HasSlot (b : Built) (slot : Slot) (seen : SeenNames) : Type 0 where
  pub number : slot.number ≡ top_of b.opens
  pub table : ((slot.table ≡ depth_of b.opens * 520) × (depth_of b.opens < 8)) ⊎ ((slot.table ≡ 0) × Contains seen.suspects.items (top_of b.opens))

-- one container is the innermost one of both
abbrev pub IsSameTop : List Open → List Open → Type 0
IsSameTop old new = (top_of new ≡ top_of old) × (depth_of new ≡ depth_of old)

-- one more object is a suspect
abbrev pub AddsSuspect : (number : ℕ) → SeenNames → SeenNames → Type 0
AddsSuspect number old new = (new.marks ≡ old.marks) × (new.suspects.items ≡ old.suspects.items ++ number ∷ [])

-- the first of eight places from one on whose mark is of another object, where this mark does not stand before it
pub record IsFree (marks : List ℕ) (from mark place : ℕ) : Type 0 where
  pub away : ℕ
  pub near : away < 8
  pub at : place ≡ from + away
  pub other : get_or marks place 0 / 256 ≢ mark / 256
  pub before : (i : ℕ) → i < away → (get_or marks (from + i) 0 / 256 ≡ mark / 256) × (get_or marks (from + i) 0 ≢ mark)

-- a mark is set at such a place
pub record IsMarked (from mark : ℕ) (old new : SeenNames) : Type 0 where
  pub place : ℕ
  pub free : IsFree old.marks from mark place
  pub marks : new.marks ≡ set old.marks place mark
  pub suspects : new.suspects.items ≡ old.suspects.items

abbrev pub IsPut : (number from mark : ℕ) → SeenNames → SeenNames → Type 0
IsPut number from mark old new = IsMarked from mark old new ⊎ AddsSuspect number old new

-- a name of the slot's object is inserted: its stamp is marked, or the object is a suspect
abbrev pub IsInserted : (slot : Slot) → Option ℕ → SeenNames → SeenNames → Type 0
IsInserted slot (Some s) old new = IsPut slot.number (place_of slot.table s) (mark_of slot.number s) old new
IsInserted slot None old new = AddsSuspect slot.number old new

-- the name of the next member has another stamp than those before it
pub record IsNew (text : List ℕ) (es : List Entry) (seen : SeenNames) (n depth : ℕ) (x : Extent) : Type 0 where
  pub plain : IsPlain text x
  pub other : (k : ℕ) → IsMemberOf es n k → stamp_at text (entry_in es k).label ≢ stamp_at text x
  pub marked : HasStamp seen.marks n depth (stamp_at text x)

abbrev pub IsFresh : List ℕ → Built → SeenNames → Option Extent → Type 0
IsFresh text b seen (Some x) = IsUnsuspected seen (top_of b.opens) → IsNew text b.entries seen (top_of b.opens) (depth_of b.opens) x
IsFresh text b seen None = Unit {0}
