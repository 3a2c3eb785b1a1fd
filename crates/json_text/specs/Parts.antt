-- The parts of a JSON text: a value and all values inside it (RFC 8259, sections 3 to 5).
use Rattle.json_text.specs.Tree.{Source, Name, Tree, Arr, Obj, Elements, Element, Members, Member}

-- one of the elements
pub data IsElementOf : Elements → Tree → Type 0 where
  first_element : {t : Tree} {es : Elements} → IsElementOf (Element t es) t
  later_element : {a t : Tree} {es : Elements} → IsElementOf es t → IsElementOf (Element a es) t

-- the value of one of the members
pub data IsValueOf : Members → Tree → Type 0 where
  first_value : {n : Name} {t : Tree} {ms : Members} → IsValueOf (Member n t ms) t
  later_value : {n : Name} {a t : Tree} {ms : Members} → IsValueOf ms t → IsValueOf (Member n a ms) t

-- the name of one of the members
pub data IsNameOf : Members → Name → Type 0 where
  first_name : {n : Name} {t : Tree} {ms : Members} → IsNameOf (Member n t ms) n
  later_name : {m n : Name} {t : Tree} {ms : Members} → IsNameOf ms n → IsNameOf (Member m t ms) n

-- the tree itself, and each element and each member's value of a part
pub data HasPart (whole : Tree) : Tree → Type 0 where
  itself : HasPart whole whole
  element : {s : Source} {es : Elements} {t : Tree} → HasPart whole (Arr s es) → IsElementOf es t → HasPart whole t
  value : {s : Source} {ms : Members} {t : Tree} → HasPart whole (Obj s ms) → IsValueOf ms t → HasPart whole t
