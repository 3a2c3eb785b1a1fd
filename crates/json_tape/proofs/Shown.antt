-- Each part of a text's tree has a byte at least, so it ends within the text.
use Rattle.std.proofs.Common.{◌≡◌, ℕ, ◌+◌, ◌<◌, ◌≤◌, List, length, ap, arith}
use Rattle.std.proofs.lemmas.List.{length-take, length-drop}
use Rattle.json_text.specs.Tree.{Scalar, Tree, Leaf, Arr, Obj, Elements, NoElement, Element, Members, NoMember, Member, Name, source_of, then_element, then_member}
use Rattle.json_text.specs.Grammar.{IsScalarText, IsValue, scalar, array, object, IsElements, one_element, next_element, IsMembers, one_member, next_member, IsMember, member, IsText}
use Rattle.json_text.specs.Parts.{IsElementOf, first_element, later_element, IsValueOf, first_value, later_value, HasPart, itself, element, value}
use Rattle.json_text.proofs.Fits.{Lies}

abbrev mutual
  Shown : Tree → Type 0
  Shown (Leaf s c) = 0 < length s.bytes
  Shown (Arr s es) = (0 < length s.bytes) × ShownElements es
  Shown (Obj s ms) = (0 < length s.bytes) × ShownMembers ms

  ShownElements : Elements → Type 0
  ShownElements NoElement = Unit {0}
  ShownElements (Element t es) = Shown t × ShownElements es

  ShownMembers : Members → Type 0
  ShownMembers NoMember = Unit {0}
  ShownMembers (Member n t ms) = Shown t × ShownMembers ms

shown-then_element : (es : Elements) (t : Tree) → ShownElements es → Shown t → ShownElements (then_element es t)
shown-then_element NoElement t h g = (g, tt)
shown-then_element (Element a es) t h g = (h.0, shown-then_element es t h.1 g)

shown-then_member : (ms : Members) (n : Name) (t : Tree) → ShownMembers ms → Shown t → ShownMembers (then_member ms n t)
shown-then_member NoMember n t h g = (g, tt)
shown-then_member (Member m a ms) n t h g = (h.0, shown-then_member ms n t h.1 g)

scalar_some : (bs : List ℕ) (c : Scalar) → IsScalarText bs c → 0 < length bs
scalar_some bs c h = grind arith

mutual
  value_shown : {p : ℕ} {bs : List ℕ} {t : Tree} → IsValue p bs t → Shown t
  value_shown (scalar {bs = bs} {s = c} h) = scalar_some bs c h
  value_shown (array s body s' h k h') = (omega arith, elements_shown k)
  value_shown (object s body s' h k h') = (omega arith, members_shown k)
  value_shown _ = (omega arith, tt)

  elements_shown : {p : ℕ} {bs : List ℕ} {es : Elements} → IsElements p bs es → ShownElements es
  elements_shown (one_element h) = (value_shown h, tt)
  elements_shown (next_element front s s' bs {es = es} {t = t} h k k' g) = shown-then_element es t (elements_shown h) (value_shown g)

  members_shown : {p : ℕ} {bs : List ℕ} {ms : Members} → IsMembers p bs ms → ShownMembers ms
  members_shown (one_member h) = (member_shown h, tt)
  members_shown (next_member front s s' bs {ms = ms} {n = n} {t = t} h k k' g) = shown-then_member ms n t (members_shown h) (member_shown g)

  member_shown : {p : ℕ} {bs : List ℕ} {n : Name} {t : Tree} → IsMember p bs n t → Shown t
  member_shown (member name s s' bs src h k k' g) = value_shown g

element_shown : {es : Elements} {t : Tree} → IsElementOf es t → ShownElements es → Shown t
element_shown first_element h = h.0
element_shown (later_element i) h = element_shown i h.1

value_of_shown : {ms : Members} {t : Tree} → IsValueOf ms t → ShownMembers ms → Shown t
value_of_shown first_value h = h.0
value_of_shown (later_value i) h = value_of_shown i h.1

part_shown : {whole t : Tree} → HasPart whole t → Shown whole → Shown t
part_shown itself h = h
part_shown (element p i) h = element_shown i (part_shown p h).1
part_shown (value p i) h = value_of_shown i (part_shown p h).1

source_some : (t : Tree) → Shown t → 0 < length (source_of t).bytes
source_some t h = grind arith

-- the bytes of a value are those of its tree, and there are some
pub value_bytes : {p : ℕ} {bs : List ℕ} {t : Tree} → IsValue p bs t → (source_of t).bytes ≡ bs
value_bytes h = grind arith

pub value_some : {p : ℕ} {bs : List ℕ} {t : Tree} → IsValue p bs t → 0 < length bs
value_some {t = t} h = let n = source_some t (value_shown h) in let e = ap length (value_bytes h) in omega arith

pub part_ends : (text : List ℕ) (whole t : Tree) → IsText text whole → HasPart whole t → Lies text (source_of t) → (source_of t).place + length (source_of t).bytes ≤ length text
part_ends text whole t h p l = grind (arith, source_some, part_shown, value_shown, length-take, length-drop)
