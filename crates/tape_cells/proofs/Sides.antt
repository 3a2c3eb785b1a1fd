-- Cells and sides, and the entries that they stand for.
use Rattle.std.proofs.Common.{◌≡◌, inl, inr, ℕ, zero, suc, ◌+◌, ◌^◌, ◌<◌, ◌≤◌, Bool, true, false, cond, List, [], ◌∷◌, ◌++◌, length, get_or, set, refl, sym, ap, ◌∙◌, arith, length-append, get_or-set_same, get_or-set_other}
use Rattle.std.proofs.lemmas.List.{get_or_append_left, get_or_default, get_or-append_right}
use Rattle.std.proofs.lemmas.Bool.{false≢true, cases_Bool}
use Rattle.json_text.specs.declared.tape.Kind.{Kind}
use Rattle.json_text.specs.declared.tape.Entry.{Entry}
use Rattle.json_text.specs.declared.tape.Extent.{Extent}
use Rattle.json_text.specs.declared.tape.Seat.{Seat}
use Rattle.tape_cells.specs.declared.cells.Cell.{Cell}
use Rattle.tape_cells.specs.declared.cells.Side.{Side}
use Rattle.json_text.specs.Machine.{change_at, closed}
use Rattle.tape_cells.specs.Cells.{holds, is_container, is_object, members_in, cell_kind, cell_role, cell_label, cell_start, cell_span, cell_up, leaf_entry, open_entry, leaf_seen, container_seen, seen, no_side, entries_from, entries_of, containers, container_at, AreNumbered, IsTape}

pub length-entries : (k : ℕ) (cells : List Cell) (sides : List Side) → length (entries_from k cells sides) ≡ length cells
length-entries k [] sides = refl
length-entries k (c ∷ cells) sides = ap suc (length-entries (suc k) cells sides)

pub get_or-entries : (k : ℕ) (cells : List Cell) (sides : List Side) (n : ℕ) (d : Entry) (c0 : Cell) → n < length cells
    → get_or (entries_from k cells sides) n d ≡ seen (k + n) (get_or cells n c0) (get_or sides (cell_span (get_or cells n c0)) no_side)
get_or-entries k [] sides n d c0 h = absurd (omega arith)
get_or-entries k (c ∷ cells) sides zero d c0 h = let e : k ≡ k + 0 = omega arith in ap (λ i. seen i c (get_or sides (cell_span c) no_side)) e
get_or-entries k (c ∷ cells) sides (suc n) d c0 h = let l : n < length cells = omega arith in let e : suc k + n ≡ k + suc n = omega arith in
    get_or-entries (suc k) cells sides n d c0 l ∙ ap (λ i. seen i (get_or cells n c0) (get_or sides (cell_span (get_or cells n c0)) no_side)) e

pub entries-snoc : (k : ℕ) (cells : List Cell) (c : Cell) (sides : List Side)
    → entries_from k (cells ++ c ∷ []) sides ≡ entries_from k cells sides ++ seen (k + length cells) c (get_or sides (cell_span c) no_side) ∷ []
entries-snoc k [] c sides = let e : k ≡ k + 0 = omega arith in ap (λ i. seen i c (get_or sides (cell_span c) no_side) ∷ []) e
entries-snoc k (a ∷ cells) c sides = grind (arith, entries-snoc (suc k) cells c sides)

-- sides that differ only where no cell looks
seen_alike : (k : ℕ) (c : Cell) (s t : Side) → (holds c ≡ true → s ≡ t) → seen k c s ≡ seen k c t
seen_alike k c s t h = grind arith

alike : (j : ℕ) (k : ℕ) (cells : List Cell) (sides other : List Side) → AreNumbered j cells
    → ((i : ℕ) → j ≤ i → i < j + containers cells → get_or sides i no_side ≡ get_or other i no_side) → entries_from k cells sides ≡ entries_from k cells other
alike j k [] sides other n h = refl
alike j k (c ∷ cells) sides other n h = elim (cases_Bool (holds c)) [
  | inl e ↦
      let rest = rw e at n.1 in
      let many : containers (c ∷ cells) ≡ suc (containers cells) = ap (λ b. cond b (suc (containers cells)) (containers cells)) e in
      let first = seen_alike k c (get_or sides (cell_span c) no_side) (get_or other (cell_span c) no_side) (λ t. ap (λ i. get_or sides i no_side) (n.0 t) ∙ h j (omega arith) (omega (arith, many)) ∙ sym (ap (λ i. get_or other i no_side) (n.0 t))) in
      ap (λ x. x ∷ entries_from (suc k) cells sides) first
      ∙ ap (λ l. seen k c (get_or other (cell_span c) no_side) ∷ l) (alike (suc j) (suc k) cells sides other rest (λ i a b. h i (omega arith) (omega (arith, many))))
  | inr e ↦
      let rest = rw e at n.1 in
      let many : containers (c ∷ cells) ≡ containers cells = ap (λ b. cond b (suc (containers cells)) (containers cells)) e in
      let first = seen_alike k c (get_or sides (cell_span c) no_side) (get_or other (cell_span c) no_side) (λ t. absurd (false≢true (sym e ∙ t))) in
      ap (λ x. x ∷ entries_from (suc k) cells sides) first
      ∙ ap (λ l. seen k c (get_or other (cell_span c) no_side) ∷ l) (alike j (suc k) cells sides other rest (λ i a b. h i a (omega (arith, many))))
]

-- ---- One more cell

pub containers-snoc : (cells : List Cell) (c : Cell) → containers (cells ++ c ∷ []) ≡ containers cells + cond (holds c) 1 0
containers-snoc [] c = elim (cases_Bool (holds c)) [ inl e ↦ rw e refl | inr e ↦ rw e refl ]
containers-snoc (a ∷ cells) c = grind (arith, containers-snoc cells c)

pub containers_few : (cells : List Cell) → containers cells ≤ length cells
containers_few [] = omega arith
containers_few (c ∷ cells) = grind (arith, containers_few cells)

pub numbered-snoc : (j : ℕ) (cells : List Cell) (c : Cell) → AreNumbered j cells → (holds c ≡ true → cell_span c ≡ j + containers cells) → AreNumbered j (cells ++ c ∷ [])
numbered-snoc j [] c n h = ((λ t. h t ∙ omega arith), tt)
numbered-snoc j (a ∷ cells) c n h = (
  n.0,
  elim (cases_Bool (holds a)) [
    | inl e ↦
        let rest = rw e at n.1 in
        let many : containers (a ∷ cells) ≡ suc (containers cells) = ap (λ b. cond b (suc (containers cells)) (containers cells)) e in
        rw e (numbered-snoc (suc j) cells c rest (λ t. let x = h t in omega (arith, x, many)))
    | inr e ↦
        let rest = rw e at n.1 in
        let many : containers (a ∷ cells) ≡ containers cells = ap (λ b. cond b (suc (containers cells)) (containers cells)) e in
        rw e (numbered-snoc j cells c rest (λ t. let x = h t in omega (arith, x, many)))
  ],
)

-- the number of a container is one of those given
pub number_within : (j : ℕ) (cells : List Cell) (n : ℕ) (c0 : Cell) → AreNumbered j cells → n < length cells → holds (get_or cells n c0) ≡ true
    → (j ≤ cell_span (get_or cells n c0)) × (cell_span (get_or cells n c0) < j + containers cells)
number_within j [] n c0 a l h = absurd (omega arith)
number_within j (c ∷ cells) zero c0 a l h = grind arith
number_within j (c ∷ cells) (suc n) c0 a l h = elim (cases_Bool (holds c)) [
  | inl e ↦
      let rest = rw e at a.1 in
      let many : containers (c ∷ cells) ≡ suc (containers cells) = ap (λ b. cond b (suc (containers cells)) (containers cells)) e in
      let w = number_within (suc j) cells n c0 rest (omega arith) h in (let x = w.0 in omega arith, let x = w.1 in omega (arith, x, many))
  | inr e ↦
      let rest = rw e at a.1 in
      let many : containers (c ∷ cells) ≡ containers cells = ap (λ b. cond b (suc (containers cells)) (containers cells)) e in
      let w = number_within j cells n c0 rest (omega arith) h in (w.0, let x = w.1 in omega (arith, x, many))
]

-- ---- One side changed

-- the side of the container with the number n, and none other
pub entries-set : (j k : ℕ) (cells : List Cell) (sides : List Side) (n : ℕ) (c0 : Cell) (s : Side) (f : Entry → Entry) → AreNumbered j cells → n < length cells → holds (get_or cells n c0) ≡ true
    → cell_span (get_or cells n c0) < length sides → ((t : Side) → f (container_seen (get_or cells n c0) t) ≡ container_seen (get_or cells n c0) s)
    → entries_from k cells (set sides (cell_span (get_or cells n c0)) s) ≡ change_at (entries_from k cells sides) n f
entries-set j k [] sides n c0 s f a l h b g = absurd (omega arith)
entries-set j k (c ∷ cells) sides zero c0 s f a l h b g = grind (arith, get_or-set_same, alike, get_or-set_other)
entries-set j k (c ∷ cells) sides (suc n) c0 s f a l h b g = elim (cases_Bool (holds c)) [
  | inl e ↦
      let rest = rw e at a.1 in let w = number_within (suc j) cells n c0 rest (omega arith) h in let number = a.0 e in
      let first = get_or-set_other sides (cell_span (get_or cells n c0)) (cell_span c) s no_side (λ q. absurd (let x = w.0 in omega arith)) in
      ap (λ x. seen k c x ∷ entries_from (suc k) cells (set sides (cell_span (get_or cells n c0)) s)) first
      ∙ ap (λ l. seen k c (get_or sides (cell_span c) no_side) ∷ l) (entries-set (suc j) (suc k) cells sides n c0 s f rest (omega arith) h b g)
  | inr e ↦
      let rest = rw e at a.1 in
      let first = seen_alike k c (get_or (set sides (cell_span (get_or cells n c0)) s) (cell_span c) no_side) (get_or sides (cell_span c) no_side) (λ t. absurd (false≢true (sym e ∙ t))) in
      ap (λ x. x ∷ entries_from (suc k) cells (set sides (cell_span (get_or cells n c0)) s)) first
      ∙ ap (λ l. seen k c (get_or sides (cell_span c) no_side) ∷ l) (entries-set j (suc k) cells sides n c0 s f rest (omega arith) h b g)
]

-- ---- What the methods of a tape show

pub entries_many : (cells : List Cell) (sides : List Side) (v : List Entry) → entries_of cells sides ≡ v → length cells ≡ length v
unfolding entries_of
entries_many cells sides v e = sym (length-entries 0 cells sides) ∙ ap length e

pub holder_kind : (c : Cell) (kind : Kind) → cell_kind c ≡ kind → holds c ≡ is_container kind
unfolding holds
holder_kind c kind e = ap is_container e

pub side_inside : (cells : List Cell) (sides : List Side) (n : ℕ) (c : Cell) → IsTape cells sides → n < length cells → c ≡ get_or cells n c → holds c ≡ true → cell_span c < length sides
side_inside cells sides n c t l e h = grind (arith, number_within)

pub entry_here : (cells : List Cell) (sides : List Side) (v : List Entry) (n : ℕ) (c : Cell) (d : Entry) → entries_of cells sides ≡ v → n < length cells → c ≡ get_or cells n c
    → get_or v n d ≡ seen n c (get_or sides (cell_span c) no_side)
unfolding entries_of
entry_here cells sides v n c d q l e = grind (arith, get_or-entries 0 cells sides n d c l)

pub leaf_shown : (cells : List Cell) (sides : List Side) (v : List Entry) (n : ℕ) (c : Cell) (d : Entry) → entries_of cells sides ≡ v → n < length cells → c ≡ get_or cells n c → holds c ≡ false
    → leaf_seen n c ≡ get_or v n d
leaf_shown cells sides v n c d q l e h = grind (arith, entry_here cells sides v n c d q l e)

pub container_shown : (cells : List Cell) (sides : List Side) (v : List Entry) (n : ℕ) (c : Cell) (s : Side) (d : Entry) → entries_of cells sides ≡ v → n < length cells → c ≡ get_or cells n c → holds c ≡ true
    → cell_span c < length sides → s ≡ get_or sides (cell_span c) s → container_seen c s ≡ get_or v n d
container_shown cells sides v n c s d q l e h b f = cc (get_or_default sides (cell_span c) s no_side b, entry_here cells sides v n c d q l e)

pub leaf_kept : (cells : List Cell) (sides : List Side) (c : Cell) → IsTape cells sides → holds c ≡ false → length cells < 2 ^ 24 → IsTape (cells ++ c ∷ []) sides
leaf_kept cells sides c t h l = grind (arith, numbered-snoc, false≢true, containers-snoc, length-append)

pub leaf_added : (cells : List Cell) (sides : List Side) (v : List Entry) (c : Cell) (kind : Kind) (seat : Seat) (source : Extent) → entries_of cells sides ≡ v → holds c ≡ false
    → cell_kind c ≡ kind → cell_role c ≡ seat.role → cell_label c ≡ seat.label → cell_start c ≡ source.start → cell_span c ≡ source.len → cell_up c ≡ seat.up
    → entries_of (cells ++ c ∷ []) sides ≡ v ++ leaf_entry kind seat source (length v) ∷ []
unfolding entries_of
leaf_added cells sides v c kind seat source q h k r x s l u = grind (arith, length-entries, entries-snoc)

pub container_kept : (cells : List Cell) (sides : List Side) (c : Cell) (s : Side) → IsTape cells sides → holds c ≡ true → cell_span c ≡ length sides → length cells < 2 ^ 24 → IsTape (cells ++ c ∷ []) (sides ++ s ∷ [])
container_kept cells sides c s t h e l = grind (arith, numbered-snoc, length-append, containers-snoc)

pub container_added : (cells : List Cell) (sides : List Side) (v : List Entry) (c : Cell) (kind : Kind) (seat : Seat) (place : ℕ) (s : Side) → IsTape cells sides → entries_of cells sides ≡ v → holds c ≡ true
    → s ≡ no_side → cell_kind c ≡ kind → cell_role c ≡ seat.role → cell_label c ≡ seat.label → cell_start c ≡ place → cell_span c ≡ length sides → cell_up c ≡ seat.up
    → entries_of (cells ++ c ∷ []) (sides ++ s ∷ []) ≡ v ++ open_entry kind seat place ∷ []
unfolding entries_of
container_added cells sides v c kind seat place s t q h e k r x p l u = grind (arith, get_or-append_right, alike, get_or_append_left, entries-snoc)

-- ---- A container that is closed

seen_kind : (k : ℕ) (c : Cell) (s : Side) (b : Bool) → (cond b (container_seen c s) (leaf_seen k c)).kind ≡ cell_kind c
seen_kind k c s b = grind arith

holds_kind : (c : Cell) → holds c ≡ is_container (cell_kind c)
unfolding holds
holds_kind c = refl

pub container_there : (k : ℕ) (cells : List Cell) (sides : List Side) (n : ℕ) (c0 : Cell) → container_at (entries_from k cells sides) n ≡ true → (n < length cells) × (holds (get_or cells n c0) ≡ true)
container_there k [] sides n c0 h = absurd (false≢true h)
container_there k (c ∷ cells) sides zero c0 h = (omega arith, holds_kind c ∙ sym (ap is_container (seen_kind k c (get_or sides (cell_span c) no_side) (holds c))) ∙ h)
container_there k (c ∷ cells) sides (suc n) c0 h = let w = container_there (suc k) cells sides n c0 h in (let x = w.0 in omega arith, w.1)

pub closing_inside : (cells : List Cell) (sides : List Side) (v : List Entry) (n : ℕ) (c0 : Cell) → entries_of cells sides ≡ v → container_at v n ≡ true → (n < length cells) × (holds (get_or cells n c0) ≡ true)
unfolding entries_of
closing_inside cells sides v n c0 q h = container_there 0 cells sides n c0 (ap (λ l. container_at l n) q ∙ h)

pub closing_done : (cells : List Cell) (sides : List Side) (v : List Entry) (n : ℕ) (c : Cell) (place children after end : ℕ) → IsTape cells sides → entries_of cells sides ≡ v → container_at v n ≡ true
    → c ≡ get_or cells n c → end ≡ place + 1 → after ≡ length v
    → entries_of cells (set sides (cell_span c) (record { end = end; children = children; after = after })) ≡ change_at v n (closed place children (length v))
unfolding entries_of
closing_done cells sides v n c place children after end t q h e p a = grind (arith, closing_inside, side_inside, entries-set)

-- ---- A part of an entry alone

seen_label : (k : ℕ) (c : Cell) (s : Side) (b : Bool) → (cond b (container_seen c s) (leaf_seen k c)).label ≡ cell_label c
seen_label k c s b = grind arith

pub label_shown : (cells : List Cell) (sides : List Side) (v : List Entry) (n : ℕ) (c : Cell) (e : Entry) → entries_of cells sides ≡ v → n < length cells → c ≡ get_or cells n c → e ≡ get_or v n e → cell_label c ≡ e.label
label_shown cells sides v n c e q l f g = cc (entry_here cells sides v n c e q l f, seen_label n c (get_or sides (cell_span c) no_side) (holds c))

is_holder : (kind : Kind) → is_object kind ≡ true → is_container kind ≡ true
is_holder kind h = grind arith

pub object_holds : (c : Cell) → is_object (cell_kind c) ≡ true → holds c ≡ true
unfolding holds
object_holds c h = is_holder (cell_kind c) h

pub members_shown : (cells : List Cell) (sides : List Side) (v : List Entry) (n : ℕ) (c : Cell) (s : Side) (e : Entry) → entries_of cells sides ≡ v → n < length cells → c ≡ get_or cells n c → is_object (cell_kind c) ≡ true
    → cell_span c < length sides → s ≡ get_or sides (cell_span c) s → e ≡ get_or v n e → s.children ≡ members_in e
members_shown cells sides v n c s e q l f h b r g = grind (arith, container_shown cells sides v n c s e q l f (object_holds c h) b r)

pub no_members_shown : (cells : List Cell) (sides : List Side) (v : List Entry) (n : ℕ) (c : Cell) (e : Entry) → entries_of cells sides ≡ v → n < length cells → c ≡ get_or cells n c → is_object (cell_kind c) ≡ false
    → e ≡ get_or v n e → 0 ≡ members_in e
no_members_shown cells sides v n c e q l f h g = cc (entry_here cells sides v n c e q l f, seen_kind n c (get_or sides (cell_span c) no_side) (holds c))
