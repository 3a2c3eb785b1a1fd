-- What a cell of 16 bytes tells, and with the sides of the containers, which entries a list of cells stands for.
use Rattle.std.specs.Prelude.{◌≡◌, ℕ, zero, suc, ◌+◌, ◌*◌, ◌/◌, ◌%◌, ◌^◌, ◌-◌, ◌<◌, ◌≤◌, Bool, true, false, cond, eqb, ltb, List, [], ◌∷◌, length, get_or}
use Rattle.json_text.specs.declared.tape.Kind.{Kind}
use Rattle.json_text.specs.declared.tape.Kind.TheVariants as kinds
use Rattle.json_text.specs.declared.tape.Role.{Role}
use Rattle.json_text.specs.declared.tape.Role.TheVariants as roles
use Rattle.json_text.specs.declared.tape.Extent.{Extent}
use Rattle.json_text.specs.declared.tape.Entry.{Entry}
use Rattle.json_text.specs.declared.tape.Seat.{Seat}
use Rattle.tape_cells.specs.declared.cells.Cell.{Cell}
use Rattle.tape_cells.specs.declared.cells.Side.{Side}

-- the number in a word, and the byte over it
unfoldable pub low : ℕ → ℕ
low word = word % 16777216

unfoldable pub high : ℕ → ℕ
high word = word / 16777216

-- the kind of each code
abbrev pub kind_coded : ℕ → Kind
kind_coded code =
    cond (ltb code 8)
    (cond (eqb code 0) kinds.Null
    (cond (eqb code 1) (kinds.Bool false)
    (cond (eqb code 2) (kinds.Bool true)
    (cond (eqb code 3) kinds.Number kinds.Text))))
    (cond (eqb code 8) kinds.Array kinds.Object)

abbrev pub role_coded : ℕ → Role
role_coded code = cond (eqb code 0) roles.Whole (cond (eqb code 1) roles.Element roles.Member)

-- arrays and objects
abbrev pub is_container : Kind → Bool
is_container kinds.Array = true
is_container kinds.Object = true
is_container _ = false

abbrev pub is_object : Kind → Bool
is_object kinds.Object = true
is_object _ = false

-- of an object how many there are
abbrev pub members_in : Entry → ℕ
members_in e = cond (is_object e.kind) e.children 0

-- the entry with this number is that of one of these
abbrev pub container_at : List Entry → ℕ → Bool
container_at [] n = false
container_at (e ∷ es) zero = is_container e.kind
container_at (e ∷ es) (suc n) = container_at es n

-- ---- What a cell tells

abbrev pub cell_kind : Cell → Kind
cell_kind c = kind_coded (high c.start % 16)

abbrev pub cell_role : Cell → Role
cell_role c = role_coded (high c.start / 16)

abbrev pub cell_label : Cell → Extent
cell_label c = record { start = low c.label; len = high c.up * 65536 + high c.label * 256 + high c.span }

abbrev pub cell_start : Cell → ℕ
cell_start c = low c.start

abbrev pub cell_span : Cell → ℕ
cell_span c = low c.span

abbrev pub cell_up : Cell → ℕ
cell_up c = low c.up

unfoldable pub holds : Cell → Bool
holds c = is_container (cell_kind c)

-- a cell has room for each number of it
pub record IsNear (s : Seat) : Type 0 where
  pub label : s.label.start < 2 ^ 24
  pub name : s.label.len < 2 ^ 24
  pub up : s.up < 2 ^ 24

-- ---- The entries that cells and sides stand for

-- the entry of a value that holds no other, with the number k
abbrev pub leaf_entry : Kind → Seat → Extent → ℕ → Entry
leaf_entry kind seat source k = record { kind = kind; role = seat.role; label = seat.label; source = source; up = seat.up; children = 0; after = k + 1 }

-- the entry of a container that begins at this place, and is not closed yet
abbrev pub open_entry : Kind → Seat → ℕ → Entry
open_entry kind seat place = record { kind = kind; role = seat.role; label = seat.label; source = record { start = place; len = 0 }; up = seat.up; children = 0; after = 0 }

-- the entry with the number k
abbrev pub leaf_seen : ℕ → Cell → Entry
leaf_seen k c = record { kind = cell_kind c; role = cell_role c; label = cell_label c; source = record { start = cell_start c; len = cell_span c }; up = cell_up c; children = 0; after = k + 1 }

abbrev pub container_seen : Cell → Side → Entry
container_seen c s = record { kind = cell_kind c; role = cell_role c; label = cell_label c; source = record { start = cell_start c; len = s.end - cell_start c }; up = cell_up c; children = s.children; after = s.after }

abbrev pub seen : ℕ → Cell → Side → Entry
seen k c s = cond (holds c) (container_seen c s) (leaf_seen k c)

abbrev pub no_side : Side
no_side = record { end = 0; children = 0; after = 0 }

-- the first has the number k
abbrev pub entries_from : ℕ → List Cell → List Side → List Entry
entries_from k [] sides = []
entries_from k (c ∷ cells) sides = seen k c (get_or sides (cell_span c) no_side) ∷ entries_from (suc k) cells sides

unfoldable pub entries_of : List Cell → List Side → List Entry
entries_of cells sides = entries_from 0 cells sides

-- how many are containers
abbrev pub containers : List Cell → ℕ
containers [] = 0
containers (c ∷ cells) = cond (holds c) (suc (containers cells)) (containers cells)

-- the containers have the numbers j, j + 1 and so on
abbrev pub AreNumbered : ℕ → List Cell → Type 0
AreNumbered j [] = Unit {0}
AreNumbered j (c ∷ cells) = (holds c ≡ true → cell_span c ≡ j) × AreNumbered (cond (holds c) (suc j) j) cells

-- each container has a side of its own, in order
pub record IsTape (cells : List Cell) (sides : List Side) : Type 0 where
  pub numbered : AreNumbered 0 cells
  pub counted : containers cells ≡ length sides
  pub few : length cells ≤ 2 ^ 24
