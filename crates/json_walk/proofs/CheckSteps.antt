-- The duplicate check holds over the steps of the machine.
use Rattle.json_walk.proofs.Names.{Entry, Extent, Kind, Shape, Object, Level, Inside, Want, Open, BuildFault, Built, standing, token_of, no_more}
use Rattle.json_walk.proofs.Names.{Lexed, Spot, DuplicateCheck}
use Rattle.std.proofs.Common.{◌≡◌, ℕ, ◌+◌, ◌≤◌, Bool, cond, List, [], ◌∷◌, ◌++◌, length, max, Option, Some, None, refl, sym, ap, subst, arith}
use Rattle.std.specs.Prelude.{Result, Ok, Err, IfOk, OnOk, IfSome}
use Rattle.std.proofs.lemmas.Option.{same_Some}
use Rattle.json_text.specs.declared.tape.Role.TheVariants as roles
use Rattle.json_text.specs.declared.tape.Want.TheVariants as wants
use Rattle.name_stamps.specs.declared.seen.SeenNames.{SeenNames}
use Rattle.name_stamps.specs.declared.seen.Slot.{Slot}
use Rattle.tape_cells.specs.Cells.{members_in}
use Rattle.json_text.specs.Machine.{State, Opening, Closing, Word, step, Took, label_at, label_for, with_child, change_at, closed, closes, level_of, first_of, kind_of_shape, put_leaf, put_open, put_close}
use Rattle.json_text.specs.Tape.{role_of, label_spot}
use Rattle.json_text.specs.Suspects.{narrow}
use Rattle.tape_cells.specs.Built.{top_of, depth_of, children_of}
use Rattle.json_walk.specs.Walked.{behind, spot_after, with_sign}
use Rattle.json_walk.specs.declared.lexing.Lexed.TheVariants as lexed
use Rattle.json_text.specs.declared.tape.Kind.TheVariants as kinds
use Rattle.name_stamps.specs.Stamps.{IsUnsuspected, IsNew, IsFresh, HasSlot, IsSameTop}
use Rattle.name_stamps.proofs.CheckKept.{IsInside, check_grown, check_opened, check_shut}

-- the check is of the entries and the open containers alone
same_check : (text : List ℕ) (seen : SeenNames) (a b : Built) → a.entries ≡ b.entries → a.opens ≡ b.opens → DuplicateCheck text a seen → DuplicateCheck text b seen
same_check text seen a b e o t = grind arith

few_of : (e : Entry) → e.children ≡ 0 → members_in e ≤ narrow
few_of e h = grind arith

-- the label of a member is its name
new_of : (text : List ℕ) (es : List Entry) (seen : SeenNames) (n depth children : ℕ) (l : Level) (name : Option Extent) → ((x : Extent) → name ≡ Some x → IsUnsuspected seen n → IsNew text es seen n depth x)
    → role_of (label_at l children name) ≡ roles.Member → IsInside l × (IsUnsuspected seen n → IsNew text es seen n depth (label_spot (label_at l children name)))
new_of text es seen n depth children (Inside Object) (Some x) f r = (tt, f x refl)
new_of text es seen n depth children _ _ f r = absurd (cc)

module _ (text : List ℕ) (seen : SeenNames) (old : Built) (name : Option Extent) (checked : DuplicateCheck text old seen) (fresh : IsFresh text old seen name) where
  check_as : (o : Open) (os : List Open) → old.opens ≡ o ∷ os → DuplicateCheck text (record { entries = old.entries; opens = o ∷ os; deep = old.deep }) seen
  check_as o os is = same_check text seen old (record { entries = old.entries; opens = o ∷ os; deep = old.deep }) refl is checked

  fresh_as : (o : Open) (os : List Open) → old.opens ≡ o ∷ os → (x : Extent) → name ≡ Some x → IsUnsuspected seen o.entry → IsNew text old.entries seen o.entry (length os) x
  fresh_as o os is x e = subst (λ l. IsUnsuspected seen (top_of l) → IsNew text old.entries seen (top_of l) (depth_of l) x) is (subst (IsFresh text old seen) e fresh)

  leaf_grown : (new : Built) (want : Want) (x : Extent) (kind : Kind) (os : List Open) → old.opens ≡ os → put_leaf x kind old.entries os wants.Value name old.deep ≡ Some (standing new want None) → DuplicateCheck text new seen
  leaf_grown new want x kind [] is h = absurd (cc)
  leaf_grown new want x kind (o ∷ os) is h =
      let e : Entry = record { kind = kind; role = role_of (label_for o name); label = label_spot (label_for o name); source = x; up = o.entry; children = 0; after = length old.entries + 1 } in
      let made : Built = record { entries = old.entries ++ e ∷ []; opens = with_child o ∷ os; deep = old.deep } in
      let same = same_Some (standing made wants.Next None) (standing new want None) h in
      same_check text seen made new (ap (λ (s : State). s.entries) same) (ap (λ (s : State). s.opens) same)
      (check_grown text old.entries e seen o (with_child o) os old.deep old.deep refl refl (few_of e refl)
      (λ r. let w = new_of text old.entries seen o.entry (length os) o.children o.level name (fresh_as o os is) r in (refl, w.0, w.1)) (check_as o os is))

  open_grown : (new : Built) (want : Want) (shape : Shape) (p : ℕ) (os : List Open) → old.opens ≡ os → put_open shape p old.entries os wants.Value name old.deep ≡ Some (standing new want None) → DuplicateCheck text new seen
  open_grown new want shape p [] is h = absurd (cc)
  open_grown new want shape p (o ∷ os) is h =
      let e : Entry = record { kind = kind_of_shape shape; role = role_of (label_for o name); label = label_spot (label_for o name); source = record { start = p; len = 0 }; up = o.entry; children = 0; after = 0 } in
      let made : Built = record { entries = old.entries ++ e ∷ []; opens = record { level = Inside shape; entry = length old.entries; children = 0 } ∷ with_child o ∷ os; deep = max old.deep (length (o ∷ os)) } in
      let same = same_Some (standing made (first_of shape) None) (standing new want None) h in
      same_check text seen made new (ap (λ (s : State). s.entries) same) (ap (λ (s : State). s.opens) same)
      (check_opened text old.entries e seen o (with_child o) os old.deep (max old.deep (length (o ∷ os))) refl refl (few_of e refl)
      (λ r. let w = new_of text old.entries seen o.entry (length os) o.children o.level name (fresh_as o os is) r in (refl, w.0, w.1)) (check_as o os is) shape refl)

leaf_top_is : (old new : Built) (name : Option Extent) (want : Want) (x : Extent) (kind : Kind) (os : List Open) → put_leaf x kind old.entries os wants.Value name old.deep ≡ Some (standing new want None) → IsSameTop os new.opens
leaf_top_is old new name want x kind os h = grind (arith, same_Some)

chosen : (b : Bool) (s t : State) → cond b (Some s) None ≡ Some t → s ≡ t
chosen b s t h = grind arith

close_shut : (text : List ℕ) (seen : SeenNames) (old new : Built) (shape : Shape) (p : ℕ) (os : List Open) → old.opens ≡ os → level_of os ≡ Inside shape → (shape ≡ Object → IsUnsuspected seen (top_of os) → children_of os ≤ narrow)
    → put_close shape p old.entries os wants.Next None old.deep ≡ Some (standing new wants.Next None) → DuplicateCheck text old seen → DuplicateCheck text new seen
close_shut text seen old new shape p (o ∷ o' ∷ os) is level few h checked =
    let made : Built = record { entries = change_at old.entries o.entry (closed p o.children (length old.entries)); opens = o' ∷ os; deep = old.deep } in
    let same = chosen (closes shape o.level wants.Next) (standing made wants.Next None) (standing new wants.Next None) h in
    same_check text seen made new (ap (λ (s : State). s.entries) same) (ap (λ (s : State). s.opens) same)
    (check_shut text old.entries o.entry p o.children (length old.entries) seen o (o' ∷ os) old.deep shape level refl few
    (same_check text seen old (record { entries = old.entries; opens = o ∷ o' ∷ os; deep = old.deep }) refl is checked))
close_shut text seen old new shape p _ is level few h checked = absurd (cc)

-- ---- The calls

pub leaf_checked : (text : List ℕ) (old new : Built) (name : Option Extent) (x : Extent) (kind : Kind) (want : Want) {A : Type 0} (r : Result A BuildFault) → Took (step (Word x kind) (standing old wants.Value name)) r (standing new want None)
    → IfOk r (λ made. (seen : SeenNames) → DuplicateCheck text old seen → IsFresh text old seen name → DuplicateCheck text new seen)
leaf_checked text old new name x kind want (Ok u) h = λ seen checked fresh. leaf_grown text seen old name checked fresh new want x kind old.opens refl h
leaf_checked text old new name x kind want (Err f) h = tt

pub open_checked : (text : List ℕ) (old new : Built) (name : Option Extent) (shape : Shape) (p : ℕ) (want : Want) {A : Type 0} (r : Result A BuildFault) → Took (step (Opening shape p) (standing old wants.Value name)) r (standing new want None)
    → IfOk r (λ made. (seen : SeenNames) → DuplicateCheck text old seen → IsFresh text old seen name → DuplicateCheck text new seen)
open_checked text old new name shape p want (Ok u) h = λ seen checked fresh. open_grown text seen old name checked fresh new want shape p old.opens refl h
open_checked text old new name shape p want (Err f) h = tt

pub close_checked : (old new : Built) (shape : Shape) (p : ℕ) (seen : SeenNames) {A : Type 0} (r : Result A BuildFault) → level_of old.opens ≡ Inside shape → (shape ≡ Object → IsUnsuspected seen (top_of old.opens) → children_of old.opens ≤ narrow)
    → Took (step (Closing shape p) (standing old wants.Next None)) r (standing new wants.Next None) → OnOk r ((text : List ℕ) → DuplicateCheck text old seen → DuplicateCheck text new seen)
close_checked old new shape p seen (Ok u) level few h = λ text checked. close_shut text seen old new shape p old.opens refl level few h checked
close_checked old new shape p seen (Err f) level few h = tt

-- after a call before it
pub on_both : {A E : Type 0} (r : Result A E) (a b c : Built) (m n : SeenNames) → ((text : List ℕ) → DuplicateCheck text a m → DuplicateCheck text b n) → OnOk r ((text : List ℕ) → DuplicateCheck text b n → DuplicateCheck text c n) → OnOk r ((text : List ℕ) → DuplicateCheck text a m → DuplicateCheck text c n)
on_both r a b c m n f h = search arith

abbrev Leaf : (text : List ℕ) (old new : Built) (name : Option Extent) → Result (Option ℕ) BuildFault → Type 0
Leaf text old new name r = IfOk r (λ made. (seen : SeenNames) → DuplicateCheck text old seen → IsFresh text old seen name → DuplicateCheck text new seen) × IfOk r (λ made. IfSome made (λ sign. IsSameTop old.opens new.opens))

pub leaf_signed : (text : List ℕ) (old new : Built) (name : Option Extent) (x : Extent) (kind : Kind) (sign : ℕ) (made : Result (Unit {0}) BuildFault) (r : Result (Option ℕ) BuildFault)
    → r ≡ with_sign made sign → Took (step (Word x kind) (standing old wants.Value name)) made (standing new wants.Next None) → Leaf text old new name r
leaf_signed text old new name x kind sign (Ok u) r e h = subst (Leaf text old new name) (sym e) (leaf_checked text old new name x kind wants.Next (Ok u) h, leaf_top_is old new name wants.Next x kind old.opens h)
leaf_signed text old new name x kind sign (Err f) r e h = subst (Leaf text old new name) (sym e) (tt, tt)

pub by_none : (P : Type 0) (r : Result (Unit {0}) BuildFault) (s : Result (Option ℕ) BuildFault) → s ≡ no_more r → IfOk r (λ u. P) → IfOk s (λ made. P)
by_none P r s e h = search arith

-- over a member whose name was inserted
pub child_checked : (text looked : List ℕ) (same : looked ≡ text) (old new : Built) (seen : SeenNames) (name : Option Extent) {A E : Type 0} (r : Result A E) → IfOk r (λ made. (m : SeenNames) → DuplicateCheck looked old m → IsFresh looked old m name → DuplicateCheck looked new m)
    → DuplicateCheck text old seen → IsFresh text old seen name → IfOk r (λ made. DuplicateCheck text new seen)
child_checked text looked same old new seen name r h checked fresh = search arith

pub slot_on : (P : Type 0) (old new : Built) (slot : Slot) (seen : SeenNames) {E : Type 0} (r : Result (Option ℕ) E) → IfOk r (λ made. IfSome made (λ sign. IsSameTop old.opens new.opens)) → (P → HasSlot old slot seen) → IfOk r (λ made. IfSome made (λ sign. P → HasSlot new slot seen))
slot_on P old new slot seen r top s = grind arith

pub where_some : {A : Type 0} (P : Type 0) (o : Option A) (x : A) → o ≡ Some x → IfSome o (λ y. P) → P
where_some P o x e h = subst (λ k. IfSome k (λ y. P)) e h

-- over the first token of a text, which no name is in front of
put_checked : (text : List ℕ) (i : ℕ) (l : Lexed) (old new : Built) {A : Type 0} (r : Result A BuildFault) → Took (step (token_of i l) (standing old wants.Value None)) r (standing new (behind l) None)
    → IfOk r (λ made. (seen : SeenNames) → DuplicateCheck text old seen → IsFresh text old seen None → DuplicateCheck text new seen)
put_checked text i (lexed.Text x) old new r h = leaf_checked text old new None x kinds.Text wants.Next r h
put_checked text i (lexed.Number x) old new r h = leaf_checked text old new None x kinds.Number wants.Next r h
put_checked text i (lexed.Word kind x) old new r h = leaf_checked text old new None x kind wants.Next r h
put_checked text i (lexed.Opens shape) old new r h = open_checked text old new None shape i (first_of shape) r h

pub whole_checked : (text : List ℕ) (i : ℕ) (l : Lexed) (old new : Built) (r : Result (Unit {0}) BuildFault) (s : Result Spot BuildFault) → Took (step (token_of i l) (standing old wants.Value None)) r (standing new (behind l) None) → s ≡ spot_after r l
    → IfOk s (λ spot. (seen : SeenNames) → DuplicateCheck text old seen → DuplicateCheck text new seen)
whole_checked text i l old new (Ok u) s h e = subst (λ t. IfOk t (λ spot. (seen : SeenNames) → DuplicateCheck text old seen → DuplicateCheck text new seen)) (sym e) (λ seen checked. put_checked text i l old new (Ok u) h seen checked tt)
whole_checked text i l old new (Err f) s h e = subst (λ t. IfOk t (λ spot. (seen : SeenNames) → DuplicateCheck text old seen → DuplicateCheck text new seen)) (sym e) tt
