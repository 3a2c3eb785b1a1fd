-- Over the bytes of a value the builder puts that value's tree on the tape.
use Rattle.std.proofs.Common.{◌≡◌, ℕ, suc, ◌+◌, List, [], ◌∷◌, ◌++◌, length, max, Option, Some, None, true, false, refl, sym, ap, ◌∙◌, subst, arith, append_assoc, length-append}
use Rattle.json_text.specs.Tree.{Name, Scalar, Null, True, False, Num, Str, Tree, Elements, Members, then_element, then_member}
use Rattle.json_text.specs.Letters.{AreBlanks, IsString}
use Rattle.json_text.specs.Grammar.{IsScalarText, IsValue, scalar, no_array, array, no_object, object, IsElements, one_element, next_element, IsMembers, one_member, next_member, IsMember, member, IsText}
use Rattle.json_text.specs.Tape.{Label, Top, Index, Named, role_of, label_spot, deepest, deepest_element, deepest_member, element_count, member_count, kind_of_scalar, tape_of, tape_of_elements, tape_of_members, extent}
use Rattle.json_text.specs.Nodes.{size_of_elements, size_of_members}
use Rattle.json_text.specs.Tokens.{Sign, class, NoAtomFirst, IsToken, sign, text, word, Goes, stay, token, sign_at}
use Rattle.json_text.specs.Machine.{Token, Opening, Closing, Text, Word, State, label_for, takes_value, takes_name, first_of, closes, after_comma, kind_of_shape, with_child, run_at, closed, change_at, step, root, start}
use Rattle.json_text.specs.declared.tape.Kind.TheVariants as kinds
use Rattle.json_text.specs.declared.tape.Extent.{Extent}
use Rattle.json_text.specs.declared.tape.Entry.{Entry}
use Rattle.json_text.specs.declared.tape.Shape.{Shape}
use Rattle.json_text.specs.declared.tape.Shape.TheVariants.{Array, Object}
use Rattle.json_text.specs.declared.tape.Level.TheVariants.{Inside}
use Rattle.json_text.specs.declared.tape.Want.{Want}
use Rattle.json_text.specs.declared.tape.Want.TheVariants as wants
use Rattle.json_text.specs.declared.tape.Open.{Open}
use Rattle.json_text.proofs.Snoc.{deepest-then_element, deepest-then_member, count-then_element, count-then_member, tape-then_element, tape-then_member, length-tape_elements, length-tape_members}
use Rattle.json_text.proofs.Complete.{goes_on, no_atom-blanks, blanks_go}
use Rattle.json_text.proofs.Chars.{number_atoms, number_some}
use Rattle.std.proofs.lemmas.List.{append-nil}

abbrev st : List Entry → List Open → Want → Option Extent → ℕ → State
st es os w name d = record { entries = es; opens = os; want = w; name = name; deep = d }

-- n more children
abbrev with_more : Open → ℕ → Open
with_more o n = record o { children = o.children + n }

-- the token of a scalar
abbrev leaf_token : Extent → Scalar → Token
leaf_token x Null = Word x kinds.Null
leaf_token x True = Word x (kinds.Bool true)
leaf_token x False = Word x (kinds.Bool false)
leaf_token x Num = Word x kinds.Number
leaf_token x (Str cs) = Text x

leaf_is : (p : ℕ) (bs rest : List ℕ) (s : Scalar) → IsScalarText bs s → NoAtomFirst rest → IsToken p bs (leaf_token (run_at p (length bs)) s) rest
leaf_is p bs rest Null h n = subst (λ l. IsToken p l (Word (run_at p (length l)) kinds.Null) rest) (sym h) (word {b = 110} {vs = 117 ∷ 108 ∷ 108 ∷ []} (refl, (refl, (refl, (refl, tt)))) n refl)
leaf_is p bs rest True h n = subst (λ l. IsToken p l (Word (run_at p (length l)) (kinds.Bool true)) rest) (sym h) (word {b = 116} {vs = 114 ∷ 117 ∷ 101 ∷ []} (refl, (refl, (refl, (refl, tt)))) n refl)
leaf_is p bs rest False h n = subst (λ l. IsToken p l (Word (run_at p (length l)) (kinds.Bool false)) rest) (sym h) (word {b = 102} {vs = 97 ∷ 108 ∷ 115 ∷ 101 ∷ []} (refl, (refl, (refl, (refl, (refl, tt))))) n refl)
leaf_is p [] rest Num h n = absurd (number_some [] h refl)
leaf_is p (b ∷ bs) rest Num h n = word (number_atoms (b ∷ bs) h) n h
leaf_is p bs rest (Str cs) h n = text cs h

-- the token of a scalar puts its tree on the tape
leaf_step : (x : Extent) (s : Scalar) (es : List Entry) (o : Open) (os : List Open) (w : Want) (name : Option Extent) (d : ℕ) → takes_value w ≡ true
    → step (leaf_token x s) (st es (o ∷ os) w name d)
    ≡ Some (st (es ++ record { kind = kind_of_scalar s; role = role_of (label_for o name); label = label_spot (label_for o name); source = x; up = o.entry; children = 0; after = length es + 1 } ∷ []) (with_child o ∷ os) wants.Next None d)
leaf_step x s es o os w name d h = grind arith

-- the entry of an open container, changed at its close
change_seam : (es : List Entry) (e : Entry) (inner : List Entry) (f : Entry → Entry) → change_at (es ++ e ∷ inner) (length es) f ≡ es ++ f e ∷ inner
change_seam [] e inner f = refl
change_seam (x ∷ es) e inner f = ap (λ l. x ∷ l) (change_seam es e inner f)

-- an opening token, and the closing one
open_goes : (shape : Shape) (p c : ℕ) (rest : List ℕ) (es : List Entry) (o : Open) (os : List Open) (w : Want) (name : Option Extent) (d : ℕ)
    → sign_at p c ≡ Some (Opening shape p) → takes_value w ≡ true → Goes p (c ∷ rest) (st es (o ∷ os) w name d) (p + 1) rest
    (st (es ++ record { kind = kind_of_shape shape; role = role_of (label_for o name); label = label_spot (label_for o name); source = run_at p 0; up = o.entry; children = 0; after = 0 } ∷ []) (record { level = Inside shape; entry = length es; children = 0 } ∷ with_child o ∷ os) (first_of shape) None (max d (suc (length os))))
open_goes shape p c rest es o os w name d i h = token {vs = c ∷ []} refl refl (sign i) (rw h refl) (stay refl refl)

close_goes : (shape : Shape) (p q n n' m len : ℕ) (c : ℕ) (rest : List ℕ) (es inner : List Entry) (o : Open) (os : List Open) (w : Want) (label : Label) (d : ℕ)
    → sign_at q c ≡ Some (Closing shape q) → closes shape (Inside shape) w ≡ true → length inner ≡ m → q + 1 ≡ p + len → n ≡ n'
    → Goes q (c ∷ rest) (st (es ++ record { kind = kind_of_shape shape; role = role_of label; label = label_spot label; source = run_at p 0; up = o.entry; children = 0; after = 0 } ∷ inner) (record { level = Inside shape; entry = length es; children = n } ∷ with_child o ∷ os) w None d)
    (q + 1) rest
    (st (es ++ record { kind = kind_of_shape shape; role = role_of label; label = label_spot label; source = run_at p len; up = o.entry; children = n'; after = length es + 1 + m } ∷ inner) (with_child o ∷ os) wants.Next None d)
close_goes shape p q n n' m len c rest es inner o os w label d i h lm el en =
    token {vs = c ∷ []} refl refl (sign i) (rw h (ap Some (ap (λ l. st l (with_child o ∷ os) wants.Next None d) made))) (stay refl refl)
  where
    e : Entry
    e = record { kind = kind_of_shape shape; role = role_of label; label = label_spot label; source = run_at p 0; up = o.entry; children = 0; after = 0 }

    made : change_at (es ++ e ∷ inner) (length es) (closed q n (length (es ++ e ∷ inner))) ≡ es ++ record { kind = kind_of_shape shape; role = role_of label; label = label_spot label; source = run_at p len; up = o.entry; children = n'; after = length es + 1 + m } ∷ inner
    made = grind (arith, e, length-append, change_seam)

-- a way goes on where its bytes are written otherwise
from_bytes : {p q : ℕ} {bs bs' cs : List ℕ} {s s' : State} → bs ≡ bs' → Goes p bs' s q cs s' → Goes p bs s q cs s'
from_bytes {p} {q} {cs = cs} {s = s} {s' = s'} e g = subst (λ l. Goes p l s q cs s') (sym e) g

from_entries : {p q : ℕ} {bs cs : List ℕ} {es es' : List Entry} {os : List Open} {w : Want} {name : Option Extent} {d : ℕ} {s' : State} → es ≡ es' → Goes p bs (st es' os w name d) q cs s' → Goes p bs (st es os w name d) q cs s'
from_entries {p} {q} {bs} {cs} {os = os} {w} {name} {d} {s'} e g = subst (λ l. Goes p bs (st l os w name d) q cs s') (sym e) g

at_place : {p p' q q' : ℕ} {bs cs : List ℕ} {s s' : State} → p ≡ p' → q ≡ q' → Goes p bs s q cs s' → Goes p' bs s q' cs s'
at_place {p} {p'} {q} {q'} {bs} {cs} {s} {s'} e f g = subst (λ n. Goes p' bs s n cs s') f (subst (λ n. Goes n bs s q cs s') e g)

to_state : {p q : ℕ} {bs cs : List ℕ} {s : State} {es es' : List Entry} (o : Open) {c c' : ℕ} {os : List Open} {w : Want} {name : Option Extent} {d d' : ℕ} → es ≡ es' → c ≡ c' → d ≡ d'
    → Goes p bs s q cs (st es (record o { children = c } ∷ os) w name d) → Goes p bs s q cs (st es' (record o { children = c' } ∷ os) w name d')
to_state {p} {q} {bs} {cs} {s} {es} {es'} o {c} {c'} {os} {w} {name} {d} {d'} e f h g = grind arith

comma_goes : (p : ℕ) (rest : List ℕ) (es : List Entry) (o : Open) (os : List Open) (w : Want) (d : ℕ) → after_comma o.level wants.Next ≡ Some w
    → Goes p (44 ∷ rest) (st es (o ∷ os) wants.Next None d) (p + 1) rest (st es (o ∷ os) w None d)
comma_goes p rest es o os w d h = token {vs = 44 ∷ []} refl refl (sign refl) (rw h refl) (stay refl refl)

-- from an opening bracket to the closing one, over what lies between
inside_goes : (shape : Shape) (c c' p n m k len : ℕ) (s body s' rest : List ℕ) (es inner : List Entry) (o : Open) (os : List Open) (w w' : Want) (name : Option Extent) (d d' : ℕ)
    → ((q : ℕ) → sign_at q c ≡ Some (Opening shape q)) → ((q : ℕ) → sign_at q c' ≡ Some (Closing shape q))
    → 1 + length s + length body + length s' + 1 ≡ len → takes_value w ≡ true → closes shape (Inside shape) w' ≡ true → length inner ≡ m → 0 + k ≡ n → AreBlanks s → AreBlanks s'
    → ((e : Entry) → length (es ++ e ∷ []) ≡ length es + 1 → Goes (p + 1 + length s) (body ++ (s' ++ c' ∷ rest)) (st (es ++ e ∷ []) (record { level = Inside shape; entry = length es; children = 0 } ∷ with_child o ∷ os) (first_of shape) None (max d (suc (length os))))
    (p + 1 + length s + length body) (s' ++ c' ∷ rest) (st ((es ++ e ∷ []) ++ inner) (record { level = Inside shape; entry = length es; children = 0 + k } ∷ with_child o ∷ os) w' None d'))
    → Goes p (c ∷ (s ++ (body ++ (s' ++ c' ∷ rest)))) (st es (o ∷ os) w name d) (p + len) rest
    (st (es ++ record { kind = kind_of_shape shape; role = role_of (label_for o name); label = label_spot (label_for o name); source = run_at p len; up = o.entry; children = n; after = length es + 1 + m } ∷ inner) (with_child o ∷ os) wants.Next None d')
inside_goes shape c c' p n m k len s body s' rest es inner o os w w' name d d' ic ic' le h cl lm en bs bs' mid =
    goes_on (open_goes shape p c (s ++ (body ++ (s' ++ c' ∷ rest))) es o os w name d (ic p) h)
    (goes_on (blanks_go s (body ++ (s' ++ c' ∷ rest)) (p + 1) _ bs)
    (goes_on (mid e pushed)
    (from_entries (append_assoc es (e ∷ []) inner)
    (goes_on (blanks_go s' (c' ∷ rest) (p + 1 + length s + length body) _ bs')
    (at_place refl qe (close_goes shape p q (0 + k) n m len c' rest es inner o os w' (label_for o name) d' (ic' q) cl lm qe en))))))
  where
    e : Entry
    e = record { kind = kind_of_shape shape; role = role_of (label_for o name); label = label_spot (label_for o name); source = run_at p 0; up = o.entry; children = 0; after = 0 }

    pushed : length (es ++ e ∷ []) ≡ length es + 1
    pushed = omega (arith, length-append es (e ∷ []))

    q : ℕ
    q = p + 1 + length s + length body + length s'

    qe : q + 1 ≡ p + len
    qe = omega arith

blank_first : (c : ℕ) (rest : List ℕ) → class c ≡ Sign → NoAtomFirst (c ∷ rest)
blank_first c rest h = λ e. cc

-- the parts of an array or an object, followed by the rest of the text
pub regroup3 : (s body s' : List ℕ) (c : ℕ) (rest : List ℕ) → (s ++ body ++ s' ++ c ∷ []) ++ rest ≡ s ++ (body ++ (s' ++ c ∷ rest))
regroup3 s body s' c rest = simp append_assoc

regroup2 : (s : List ℕ) (c : ℕ) (rest : List ℕ) → (s ++ c ∷ []) ++ rest ≡ s ++ ([] ++ ([] ++ c ∷ rest))
regroup2 s c rest = simp append_assoc

pub regroup_more : (front s : List ℕ) (c : ℕ) (s' bs rest : List ℕ) → (front ++ s ++ c ∷ s' ++ bs) ++ rest ≡ front ++ (s ++ (c ∷ (s' ++ (bs ++ rest))))
regroup_more front s c s' bs rest = simp append_assoc

length3 : (s body s' : List ℕ) (c : ℕ) → 1 + length s + length body + length s' + 1 ≡ suc (length (s ++ body ++ s' ++ c ∷ []))
length3 s body s' c = simp length-append (omega arith)

length2 : (s : List ℕ) (c : ℕ) → 1 + length s + 0 + 0 + 1 ≡ suc (length (s ++ c ∷ []))
length2 s c = simp length-append (omega arith)

length_more : (p : ℕ) (front s : List ℕ) (c : ℕ) (s' : List ℕ) → p + length front + length s + 1 + length s' ≡ p + length (front ++ s ++ c ∷ s')
length_more p front s c s' = simp length-append (omega arith)

length_all : (p : ℕ) (front s : List ℕ) (c : ℕ) (s' bs : List ℕ) → p + length (front ++ s ++ c ∷ s') + length bs ≡ p + length (front ++ s ++ c ∷ s' ++ bs)
length_all p front s c s' bs = simp length-append (omega arith)

-- a name, and the colon after it
name_goes : (p : ℕ) (name rest : List ℕ) (n : Name) (es : List Entry) (o : Open) (os : List Open) (w : Want) (d : ℕ) → IsString name n.characters → takes_name w ≡ true
    → Goes p (name ++ rest) (st es (o ∷ os) w None d) (p + length name) rest (st es (o ∷ os) wants.Colon (Some (run_at p (length name))) d)
name_goes p name rest n es o os w d h v = token {vs = name} refl refl (text n.characters h) (rw v refl) (stay refl refl)

colon_goes : (p : ℕ) (rest : List ℕ) (es : List Entry) (os : List Open) (name : Option Extent) (d : ℕ)
    → Goes p (58 ∷ rest) (st es os wants.Colon name d) (p + 1) rest (st es os wants.Value name d)
colon_goes p rest es os name d = token {vs = 58 ∷ []} refl refl (sign refl) refl (stay refl refl)

index_for : (o : Open) → o.level ≡ Inside Array → label_for o None ≡ Index o.children
index_for o a = rw a refl

named_for : (o : Open) (x : Extent) → o.level ≡ Inside Object → label_for o (Some x) ≡ Named x
named_for o x a = rw a refl

mutual
  pub value_goes : {p : ℕ} {vs : List ℕ} {t : Tree} → IsValue p vs t → (rest : List ℕ) (es : List Entry) (o : Open) (os : List Open) (w : Want) (name : Option Extent) (d : ℕ) → takes_value w ≡ true → NoAtomFirst rest
      → Goes p (vs ++ rest) (st es (o ∷ os) w name d) (p + length vs) rest (st (es ++ tape_of t o.entry (label_for o name) (length es)) (with_child o ∷ os) wants.Next None (deepest t (length os) d))
  value_goes (scalar {p = p} {bs = bs} {s = s} h) rest es o os w name d v n =
      token refl refl (leaf_is p bs rest s h n) (leaf_step (run_at p (length bs)) s es o os w name d v) (stay refl refl)
  value_goes (no_array {p = p} s b) rest es o os w name d v n = from_bytes (ap (λ l. 91 ∷ l) (regroup2 s 93 rest))
      (inside_goes Array 91 93 p 0 0 0 _ s [] [] rest es [] o os w wants.FirstValue name d _ (λ q. refl) (λ q. refl) (length2 s 93) v refl refl refl b tt
      (λ e l. from_entries (sym (append-nil (es ++ e ∷ []))) (stay (omega arith) refl)))
  value_goes (array {p = p} s body s' {es = els} b h b') rest es o os w name d v n = from_bytes (ap (λ l. 91 ∷ l) (regroup3 s body s' 93 rest))
      (inside_goes Array 91 93 p (element_count els) (size_of_elements els) (element_count els) _ s body s' rest es (tape_of_elements els (length es) 0 (length es + 1)) o os w wants.Next name d _ (λ q. refl) (λ q. refl) (length3 s body s' 93) v refl (length-tape_elements els (length es) 0 (length es + 1)) (omega arith) b b'
      (λ e l. elements_goes h (s' ++ 93 ∷ rest) (es ++ e ∷ []) (length es + 1) (record { level = Inside Array; entry = length es; children = 0 }) (with_child o ∷ os) wants.FirstValue _ l refl refl (no_atom-blanks s' (93 ∷ rest) b' (blank_first 93 rest refl))))
  value_goes (no_object {p = p} s b) rest es o os w name d v n = from_bytes (ap (λ l. 123 ∷ l) (regroup2 s 125 rest))
      (inside_goes Object 123 125 p 0 0 0 _ s [] [] rest es [] o os w wants.FirstName name d _ (λ q. refl) (λ q. refl) (length2 s 125) v refl refl refl b tt
      (λ e l. from_entries (sym (append-nil (es ++ e ∷ []))) (stay (omega arith) refl)))
  value_goes (object {p = p} s body s' {ms = ms} b h b') rest es o os w name d v n = from_bytes (ap (λ l. 123 ∷ l) (regroup3 s body s' 125 rest))
      (inside_goes Object 123 125 p (member_count ms) (size_of_members ms) (member_count ms) _ s body s' rest es (tape_of_members ms (length es) (length es + 1)) o os w wants.Next name d _ (λ q. refl) (λ q. refl) (length3 s body s' 125) v refl (length-tape_members ms (length es) (length es + 1)) (omega arith) b b'
      (λ e l. members_goes h (s' ++ 125 ∷ rest) (es ++ e ∷ []) (length es + 1) (record { level = Inside Object; entry = length es; children = 0 }) (with_child o ∷ os) wants.FirstName _ l refl refl (no_atom-blanks s' (125 ∷ rest) b' (blank_first 125 rest refl))))

  pub elements_goes : {p : ℕ} {vs : List ℕ} {els : Elements} → IsElements p vs els → (rest : List ℕ) (es : List Entry) (k : ℕ) (o : Open) (os : List Open) (w : Want) (d : ℕ) → length es ≡ k → takes_value w ≡ true → o.level ≡ Inside Array → NoAtomFirst rest
      → Goes p (vs ++ rest) (st es (o ∷ os) w None d) (p + length vs) rest (st (es ++ tape_of_elements els o.entry o.children k) (with_more o (element_count els) ∷ os) wants.Next None (deepest_element els (length os) d))
  elements_goes (one_element {t = t} h) rest es k o os w d l v a n =
      to_state o (ap (λ m. es ++ tape_of t o.entry (label_for o None) m) l ∙ ap (λ x. es ++ tape_of t o.entry x k) (index_for o a) ∙ ap (λ x. es ++ x) (sym (append-nil (tape_of t o.entry (Index o.children) k)))) refl refl (value_goes h rest es o os w None d v n)
  elements_goes (next_element {p = p} front s s' bs {es = els} {t = t} hf b b' hv) rest es k o os w d l v a n =
      from_bytes (regroup_more front s 44 s' bs rest)
      (goes_on (elements_goes hf (s ++ (44 ∷ (s' ++ (bs ++ rest)))) es k o os w d l v a (no_atom-blanks s (44 ∷ (s' ++ (bs ++ rest))) b (blank_first 44 (s' ++ (bs ++ rest)) refl)))
      (goes_on (blanks_go s (44 ∷ (s' ++ (bs ++ rest))) (p + length front) _ b)
      (goes_on (comma_goes (p + length front + length s) (s' ++ (bs ++ rest)) (es ++ tape_of_elements els o.entry o.children k) (with_more o (element_count els)) os wants.Value _ (rw a refl))
      (goes_on (blanks_go s' (bs ++ rest) (p + length front + length s + 1) _ b')
      (at_place (sym (length_more p front s 44 s')) (length_all p front s 44 s' bs)
      (to_state o joined counted (sym (deepest-then_element els t (length os) d)) (value_goes hv rest (es ++ tape_of_elements els o.entry o.children k) (with_more o (element_count els)) os wants.Value None _ refl n)))))))
    where
      long : length (es ++ tape_of_elements els o.entry o.children k) ≡ k + size_of_elements els
      long = omega (arith, length-append es (tape_of_elements els o.entry o.children k), length-tape_elements els o.entry o.children k)

      joined : (es ++ tape_of_elements els o.entry o.children k) ++ tape_of t o.entry (label_for (with_more o (element_count els)) None) (length (es ++ tape_of_elements els o.entry o.children k)) ≡ es ++ tape_of_elements (then_element els t) o.entry o.children k
      joined = append_assoc es _ _ ∙ ap (λ x. es ++ x) (ap (λ m. tape_of_elements els o.entry o.children k ++ tape_of t o.entry (label_for (with_more o (element_count els)) None) m) long ∙ ap (λ x. tape_of_elements els o.entry o.children k ++ tape_of t o.entry x (k + size_of_elements els)) (index_for (with_more o (element_count els)) a) ∙ sym (tape-then_element els t o.entry o.children k))

      counted : o.children + element_count els + 1 ≡ o.children + element_count (then_element els t)
      counted = omega (arith, count-then_element els t)

  pub members_goes : {p : ℕ} {vs : List ℕ} {ms : Members} → IsMembers p vs ms → (rest : List ℕ) (es : List Entry) (k : ℕ) (o : Open) (os : List Open) (w : Want) (d : ℕ) → length es ≡ k → takes_name w ≡ true → o.level ≡ Inside Object → NoAtomFirst rest
      → Goes p (vs ++ rest) (st es (o ∷ os) w None d) (p + length vs) rest (st (es ++ tape_of_members ms o.entry k) (with_more o (member_count ms) ∷ os) wants.Next None (deepest_member ms (length os) d))
  members_goes (one_member {n = nm} {t = t} h) rest es k o os w d l v a n =
      to_state o (ap (λ m. es ++ tape_of t o.entry (Named (extent nm.source)) m) l ∙ ap (λ x. es ++ x) (sym (append-nil (tape_of t o.entry (Named (extent nm.source)) k)))) refl refl (member_goes h rest es o os w d v a n)
  members_goes (next_member {p = p} front s s' bs {ms = ms} {n = nm} {t = t} hf b b' hv) rest es k o os w d l v a n =
      from_bytes (regroup_more front s 44 s' bs rest)
      (goes_on (members_goes hf (s ++ (44 ∷ (s' ++ (bs ++ rest)))) es k o os w d l v a (no_atom-blanks s (44 ∷ (s' ++ (bs ++ rest))) b (blank_first 44 (s' ++ (bs ++ rest)) refl)))
      (goes_on (blanks_go s (44 ∷ (s' ++ (bs ++ rest))) (p + length front) _ b)
      (goes_on (comma_goes (p + length front + length s) (s' ++ (bs ++ rest)) (es ++ tape_of_members ms o.entry k) (with_more o (member_count ms)) os wants.Name _ (rw a refl))
      (goes_on (blanks_go s' (bs ++ rest) (p + length front + length s + 1) _ b')
      (at_place (sym (length_more p front s 44 s')) (length_all p front s 44 s' bs)
      (to_state o joined counted (sym (deepest-then_member ms nm t (length os) d)) (member_goes hv rest (es ++ tape_of_members ms o.entry k) (with_more o (member_count ms)) os wants.Name _ refl a n)))))))
    where
      long : length (es ++ tape_of_members ms o.entry k) ≡ k + size_of_members ms
      long = omega (arith, length-append es (tape_of_members ms o.entry k), length-tape_members ms o.entry k)

      joined : (es ++ tape_of_members ms o.entry k) ++ tape_of t o.entry (Named (extent nm.source)) (length (es ++ tape_of_members ms o.entry k)) ≡ es ++ tape_of_members (then_member ms nm t) o.entry k
      joined = append_assoc es _ _ ∙ ap (λ x. es ++ x) (ap (λ m. tape_of_members ms o.entry k ++ tape_of t o.entry (Named (extent nm.source)) m) long ∙ sym (tape-then_member ms nm t o.entry k))

      counted : o.children + member_count ms + 1 ≡ o.children + member_count (then_member ms nm t)
      counted = omega (arith, count-then_member ms nm t)

  pub member_goes : {p : ℕ} {vs : List ℕ} {nm : Name} {t : Tree} → IsMember p vs nm t → (rest : List ℕ) (es : List Entry) (o : Open) (os : List Open) (w : Want) (d : ℕ) → takes_name w ≡ true → o.level ≡ Inside Object → NoAtomFirst rest
      → Goes p (vs ++ rest) (st es (o ∷ os) w None d) (p + length vs) rest (st (es ++ tape_of t o.entry (Named (extent nm.source)) (length es)) (with_child o ∷ os) wants.Next None (deepest t (length os) d))
  member_goes (member {p = p} name s s' bs {n = nm} {t = t} src hs b b' hv) rest es o os w d v a n = from_bytes (regroup_more name s 58 s' bs rest)
      (goes_on (name_goes p name (s ++ (58 ∷ (s' ++ (bs ++ rest)))) nm es o os w d hs v)
      (goes_on (blanks_go s (58 ∷ (s' ++ (bs ++ rest))) (p + length name) _ b)
      (goes_on (colon_goes (p + length name + length s) (s' ++ (bs ++ rest)) es (o ∷ os) (Some (run_at p (length name))) d)
      (goes_on (blanks_go s' (bs ++ rest) (p + length name + length s + 1) _ b')
      (at_place (sym (length_more p name s 58 s')) (length_all p name s 58 s' bs)
      (to_state o (ap (λ x. es ++ tape_of t o.entry x (length es)) (named_for o (run_at p (length name)) a) ∙ ap (λ x. es ++ tape_of t o.entry (Named x) (length es)) (sym (ap extent src))) refl refl
      (value_goes hv rest es o os wants.Value (Some (run_at p (length name))) d refl n)))))))

-- over a whole text the builder goes from its start to the tape of the text's tree
pub text_goes : (bytes : List ℕ) (t : Tree) → IsText bytes t
    → (p : ℕ) × Goes 0 bytes start p [] (st (tape_of t 0 Top 0) (root 1 ∷ []) wants.Next None (deepest t 0 0))
text_goes bytes t h = (
  length h.before + length h.bytes + length h.after,
  from_bytes (h.whole ∙ simp append_assoc)
      (goes_on (at_place refl from_0 (blanks_go h.before (h.bytes ++ h.after) 0 _ h.blanks_before))
      (goes_on (value_goes h.value h.after [] (root 0) [] wants.Value None 0 refl (subst NoAtomFirst (append-nil h.after) (no_atom-blanks h.after [] h.blanks_after tt)))
      (from_bytes (sym (append-nil h.after)) (blanks_go h.after [] (length h.before + length h.bytes) _ h.blanks_after)))),
) where
  from_0 : 0 + length h.before ≡ length h.before
  from_0 = omega arith
