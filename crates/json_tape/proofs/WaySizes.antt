-- The steps that lead to a node take no more bytes than the text has.
use Rattle.std.proofs.Common.{◌≡◌, ℕ, zero, suc, ◌+◌, ◌<◌, ◌≤◌, List, [], ◌∷◌, ◌++◌, length, get_or, refl, ap, arith, length-append}
use Rattle.json_text.specs.Tree.{Name, Tree, source_of, Leaf, Arr, Obj, Elements, NoElement, Element, Members, NoMember, Member, then_element, then_member}
use Rattle.json_text.specs.Meaning.{meaning}
use Rattle.json_text.specs.Nodes.{Node, Step, key, place, way_size, size, elements_from, members_from}
use Rattle.json_text.specs.Grammar.{IsValue, array, object, IsElements, one_element, next_element, IsMembers, one_member, next_member, IsMember, member}
use Rattle.json_text.specs.Tape.{Label, Index, Named, element_count, extent}
use Rattle.json_tape.specs.Document.{Doc, Spot, IsDocument, spots_from, spots_elements, spots_members, node_at, count}
use Rattle.json_tape.proofs.Shown.{value_bytes, value_some}
use Rattle.json_strings.proofs.Spelled.{string_room}
use Rattle.json_tape.proofs.Readers.{count_is}

-- each child and the step to it have room in their container
abbrev mutual
  Held : Tree → Type 0
  Held (Leaf s c) = Unit {0}
  Held (Arr s es) = HeldElements (length s.bytes) 0 es
  Held (Obj s ms) = HeldMembers (length s.bytes) ms

  HeldElements : (room i : ℕ) → Elements → Type 0
  HeldElements room i NoElement = Unit {0}
  HeldElements room i (Element t es) = (suc i + length (source_of t).bytes ≤ room) × Held t × HeldElements room (suc i) es

  HeldMembers : (room : ℕ) → Members → Type 0
  HeldMembers room NoMember = Unit {0}
  HeldMembers room (Member n t ms) = (suc (length (meaning n.characters)) + length (source_of t).bytes ≤ room) × Held t × HeldMembers room ms

held-then_element : (room i : ℕ) (es : Elements) (t : Tree) → HeldElements room i es → suc (i + element_count es) + length (source_of t).bytes ≤ room → Held t → HeldElements room i (then_element es t)
held-then_element room i NoElement t h l g = (omega arith, g, tt)
held-then_element room i (Element a es) t h l g = (h.0, h.1, held-then_element room (suc i) es t h.2 (omega arith) g)

held-then_member : (room : ℕ) (ms : Members) (n : Name) (t : Tree) → HeldMembers room ms → suc (length (meaning n.characters)) + length (source_of t).bytes ≤ room → Held t → HeldMembers room (then_member ms n t)
held-then_member room NoMember n t h l g = (l, g, tt)
held-then_member room (Member m a ms) n t h l g = (h.0, h.1, held-then_member room ms n t h.2 l g)

count-then_element : (es : Elements) (t : Tree) → element_count (then_element es t) ≡ suc (element_count es)
count-then_element NoElement t = refl
count-then_element (Element a es) t = ap suc (count-then_element es t)

elements_many : {p : ℕ} {bs : List ℕ} {es : Elements} → IsElements p bs es → element_count es ≤ length bs
elements_many (one_element h) = let n = value_some h in omega arith
elements_many (next_element front s s' bs {es = es} {t = t} h k k' g) = grind (arith, elements_many h, count-then_element, length-append)

mutual
  value_held : {p : ℕ} {bs : List ℕ} {t : Tree} → IsValue p bs t → Held t
  value_held (array s body s' h k h') = elements_held k _ (omega (arith, length-append (s ++ body ++ s') (93 ∷ []), length-append (s ++ body) s', length-append s body))
  value_held (object s body s' h k h') = members_held k _ (omega (arith, length-append (s ++ body ++ s') (125 ∷ []), length-append (s ++ body) s', length-append s body))
  value_held _ = tt

  elements_held : {p : ℕ} {bs : List ℕ} {es : Elements} → IsElements p bs es → (room : ℕ) → length bs < room → HeldElements room 0 es
  elements_held (one_element h) room l = let e = ap length (value_bytes h) in (omega arith, value_held h, tt)
  elements_held (next_element front s s' bs {es = es} {t = t} h k k' g) room l = let a = length-append (front ++ s ++ 44 ∷ s') bs in
      let b = length-append (front ++ s) (44 ∷ s') in let c = length-append front s in let e = ap length (value_bytes g) in let m = elements_many h in
      grind (arith, held-then_element room 0 es t (elements_held h room (omega arith)) (omega arith) (value_held g))

  members_held : {p : ℕ} {bs : List ℕ} {ms : Members} → IsMembers p bs ms → (room : ℕ) → length bs < room → HeldMembers room ms
  members_held (one_member h) room l = let m = member_held h room l in (m.0, m.1, tt)
  members_held (next_member front s s' bs {ms = ms} {n = n} {t = t} h k k' g) room l = let a = length-append (front ++ s ++ 44 ∷ s') bs in
      let b = length-append (front ++ s) (44 ∷ s') in let c = length-append front s in let m = member_held g room (omega arith) in
      grind (arith, held-then_member room ms n t (members_held h room (omega arith)) m.0 m.1)

  member_held : {p : ℕ} {bs : List ℕ} {n : Name} {t : Tree} → IsMember p bs n t → (room : ℕ) → length bs < room → (suc (length (meaning n.characters)) + length (source_of t).bytes ≤ room) × Held t
  member_held (member name s s' bs {n = n} {t = t} src h k k' g) room l =
      let a = length-append (name ++ s ++ 58 ∷ s') bs in let b = length-append (name ++ s) (58 ∷ s') in
      let c = length-append name s in let e = ap length (value_bytes g) in let r = string_room name n.characters h in (omega arith, value_held g)

-- no way is longer
abbrev AreShort : ℕ → List Spot → Type 0
AreShort most [] = Unit {0}
AreShort most (x ∷ xs) = (way_size x.node.way_up ≤ most) × AreShort most xs

short_append : (most : ℕ) (xs ys : List Spot) → AreShort most xs → AreShort most ys → AreShort most (xs ++ ys)
short_append most [] ys h g = g
short_append most (x ∷ xs) ys h g = (h.0, short_append most xs ys h.1 g)

short_at : (most : ℕ) (xs : List Spot) (d : Spot) (n : ℕ) → AreShort most xs → n < length xs → way_size (get_or xs n d).node.way_up ≤ most
short_at most [] d n h l = absurd (omega arith)
short_at most (x ∷ xs) d zero h l = h.0
short_at most (x ∷ xs) d (suc n) h l = short_at most xs d n h.1 (omega arith)

module _ (most : ℕ) where
  mutual
    spots_short : (way : List Step) (up : ℕ) (label : Label) (later : List Node) (k : ℕ) (t : Tree) → Held t → way_size way + length (source_of t).bytes ≤ most → AreShort most (spots_from way up label later k t)
    spots_short way up label later k (Leaf s c) h l = (omega arith, tt)
    spots_short way up label later k (Arr s es) h l = (omega arith, elements_short way 0 k (suc k) es (length s.bytes) h l)
    spots_short way up label later k (Obj s ms) h l = (omega arith, members_short way k (suc k) ms (length s.bytes) h l)

    elements_short : (way : List Step) (i up k : ℕ) (es : Elements) (room : ℕ) → HeldElements room i es → way_size way + room ≤ most → AreShort most (spots_elements way i up k es)
    elements_short way i up k NoElement room h l = tt
    elements_short way i up k (Element t es) room h l = let first = h.0 in
        short_append most (spots_from (place i ∷ way) up (Index i) (elements_from way (suc i) (k + size t) es) k t) (spots_elements way (suc i) up (k + size t) es)
        (spots_short (place i ∷ way) up (Index i) (elements_from way (suc i) (k + size t) es) k t h.1 (omega arith))
        (elements_short way (suc i) up (k + size t) es room h.2 l)

    members_short : (way : List Step) (up k : ℕ) (ms : Members) (room : ℕ) → HeldMembers room ms → way_size way + room ≤ most → AreShort most (spots_members way up k ms)
    members_short way up k NoMember room h l = tt
    members_short way up k (Member n t ms) room h l = let first = h.0 in
        short_append most (spots_from (key (meaning n.characters) ∷ way) up (Named (extent n.source)) (members_from way (k + size t) ms) k t) (spots_members way up (k + size t) ms)
        (spots_short (key (meaning n.characters) ∷ way) up (Named (extent n.source)) (members_from way (k + size t) ms) k t h.1 (omega arith))
        (members_short way up (k + size t) ms room h.2 l)

pub way_within : (d : Doc) → IsDocument d → (n : ℕ) → n < count d → way_size (node_at d n).way_up ≤ length d.text
unfolding node_at
way_within d s n h = grind (arith, short_at, spots_short, value_held, count_is, value_bytes, length-append)
