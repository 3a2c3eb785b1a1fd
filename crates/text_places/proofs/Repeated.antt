-- The names that were seen, as the loop keeps them, and the first that comes again.
use Rattle.json_text.proofs.Names.{◌≡◌, ℕ, zero, suc, ◌+◌, ◌<◌, ◌≤◌, inl, inr, Bool, true, false, cond, List, [], ◌∷◌, ◌++◌, length, get_or, Option, Some, None, refl, sym, ap, ◌∙◌, subst, arith, cases_lt, bytes_decides, nat_cmp, on, is_eq, false≢true}
use Rattle.json_text.proofs.Names.{Source, Name, Tree, Obj, Members, NoMember, Member, IsText, Label, Top, Named, extent, Stands, IsAt, in_object, IsInMembers, in_member, in_later_member, itself, size}
use Rattle.std.specs.Prelude.{slice_get}
use Rattle.std.specs.Ordering.{ordering_then}
use Rattle.std.specs.declared.cmp.Ordering.{Ordering}
use Rattle.std.specs.declared.cmp.Ordering.TheVariants.{Less, Equal, Greater}
use Rattle.std.specs.Cmp.{nat_cmp_total, tied_itself}
use Rattle.std.proofs.lemmas.List.{get_or_append_left, get_or_default, get_or_push}
use Rattle.std.proofs.lemmas.Map.Lookups.{exact_unsigned}
use Rattle.json_strings.specs.Keys.{Keyed, key_name, name_cmp}
use Rattle.json_strings.specs.KeyOrder.{names_total, names_tie}
use Rattle.json_strings.proofs.Spelled.{scalars_at}
use Rattle.json_text.specs.Meaning.{meaning}
use Rattle.json_text.specs.Tape.{nothing_there}
use Rattle.json_text.specs.Parts.{IsNameOf, first_name, later_name}
use Rattle.json_text.specs.Verdict.{names, HasTwins}
use Rattle.json_text.specs.declared.tape.Entry.{Entry}
use Rattle.json_text.specs.declared.tape.Extent.{Extent}
use Rattle.json_text.specs.declared.tape.Role.TheVariants as roles
use Rattle.json_text.proofs.Entries.{role_is, label_is, up_is, size_positive}
use Rattle.json_text.proofs.Fits.{text_fits, part_fits}
use Rattle.json_text.proofs.Judging.{number_below}
use Rattle.json_text.proofs.Meanings.{meaning_is}
use Rattle.json_text.proofs.Numbers.{entry_at, at_trans}
use Rattle.json_tape.proofs.Holders.{name_fits}
use Rattle.text_places.specs.Marks.{spelled, number_of, mark_from, mark_of, AreChosen, AreFlagged, AreMarked, KeepsShared, AreLeft, IsLeft}
use Rattle.text_places.specs.Twins.{IsNamed, AreTwins, AreFirstTwins}
use Rattle.json_text.specs.Suspects.{AreSuspects}
use Rattle.text_places.proofs.Levels.{up_below}
use Rattle.text_places.proofs.Members.{Shown, shown}
use Rattle.text_places.proofs.Suspected.{twins_repeat}

-- the order of names in their objects

abbrev pub order : (ℕ × Keyed) → (ℕ × Keyed) → Ordering
order x y = ordering_then (nat_cmp x.0 y.0) (on key_name name_cmp x.1 y.1)

same_order : (x y : ℕ × Keyed) → x.0 ≡ y.0 → x.1.name ≡ y.1.name → is_eq (order x y) ≡ true
same_order x y e f =
    let a : nat_cmp x.0 y.0 ≡ Equal = ap (λ z. nat_cmp z y.0) e ∙ tied_itself nat_cmp_total y.0 in
    let b : name_cmp x.1.name y.1.name ≡ Equal = ap (λ z. name_cmp z y.1.name) f ∙ tied_itself names_total y.1.name in rw (a, b) refl

order_same : (x y : ℕ × Keyed) → is_eq (order x y) ≡ true → (x.0 ≡ y.0) × (x.1.name ≡ y.1.name)
order_same x y h = go (nat_cmp x.0 y.0) refl h where
  go : (o : Ordering) → nat_cmp x.0 y.0 ≡ o → is_eq (ordering_then o (name_cmp x.1.name y.1.name)) ≡ true → (x.0 ≡ y.0) × (x.1.name ≡ y.1.name)
  go Less e g = absurd (cc)
  go Equal e g = (exact_unsigned x.0 y.0 e, (bytes_decides x.1.name y.1.name).0 (names_tie x.1.name y.1.name ∙ g))
  go Greater e g = absurd (cc)

-- ---- the entry of a named value

module _ (text : List ℕ) (tape : List Entry) (t : Tree) (stands : Stands tape t) (n : ℕ) (e : Entry) (q : e ≡ get_or tape n e) where
  named_role : (up at : ℕ) (means : List ℕ) → IsNamed text t n up at means → e.role ≡ roles.Member
  named_role up at means h = ap (λ (x : Entry). x.role) (q ∙ entry_at tape e stands h.is_at) ∙ role_is h.value up (Named (extent h.name)) n

  named_up : (up at : ℕ) (means : List ℕ) → IsNamed text t n up at means → e.up ≡ up
  named_up up at means h = ap (λ (x : Entry). x.up) (q ∙ entry_at tape e stands h.is_at) ∙ up_is h.value up (Named (extent h.name)) n

  named_label : (up at : ℕ) (means : List ℕ) (h : IsNamed text t n up at means) → e.label ≡ extent h.name
  named_label up at means h = ap (λ (x : Entry). x.label) (q ∙ entry_at tape e stands h.is_at) ∙ label_is h.value up (Named (extent h.name)) n

  named_means : (up at : ℕ) (means : List ℕ) → IsNamed text t n up at means → means ≡ spelled text e
  named_means up at means h = h.meant ∙ sym (scalars_at text text e.label h.name h.characters refl (named_label up at means h) h.stands h.is_string)

  pub named_here : Shown text t n e → IsNamed text t n e.up e.label.start (spelled text e)
  named_here s = record {
    name = s.source;
    characters = s.characters;
    value = s.part;
    is_at = s.is_at;
    stands = s.lies;
    is_string = s.string;
    place = ap (λ (x : Extent). x.start) s.label;
    meant = scalars_at text text e.label s.source s.characters refl s.label s.lies s.string;
  }

-- ---- the marks of names

mark_some : (factor up number : ℕ) → 0 < mark_from factor up number
unfolding mark_from
mark_some factor up number = one_more _ where
  one_more : (n : ℕ) → 0 < n + 1
  one_more n = omega arith

module _ (text : List ℕ) (tape : List Entry) (t : Tree) (stands : Stands tape t) (n up at : ℕ) (means : List ℕ) (h : IsNamed text t n up at means) where
  same_there : (d : Entry) → get_or tape n d ≡ get_or tape n (get_or tape n d)
  same_there d = entry_at tape d stands h.is_at ∙ sym (entry_at tape (get_or tape n d) stands h.is_at)

  member_there : (d : Entry) → (get_or tape n d).role ≡ roles.Member
  member_there d = named_role text tape t stands n (get_or tape n d) (same_there d) up at means h

  named_chosen : (flags marks : List ℕ) → AreChosen tape flags marks (length tape) → get_or marks n 0 ≡ get_or flags up 0
  named_chosen flags marks chosen = chosen n nothing_there (number_below tape t h.value n up (Named (extent h.name)) stands h.is_at) (member_there nothing_there)
      ∙ ap (λ u. get_or flags u 0) (named_up text tape t stands n (get_or tape n nothing_there) (same_there nothing_there) up at means h)

  named_marked : (factor : ℕ) (old new : List ℕ) → AreMarked factor text tape old new (length tape) → 0 < get_or old n 0 → get_or new n 0 ≡ mark_of factor up means
  named_marked factor old new marked some = let e = get_or tape n nothing_there in
      marked n nothing_there (number_below tape t h.value n up (Named (extent h.name)) stands h.is_at) (member_there nothing_there) some
      ∙ ap (λ u. mark_of factor u (spelled text e)) (named_up text tape t stands n e (same_there nothing_there) up at means h)
      ∙ ap (mark_of factor up) (sym (named_means text tape t stands n e (same_there nothing_there) up at means h))

-- the entry with a number, whatever it is without one
entry_here : (tape : List Entry) (n i : ℕ) (d e : Entry) → i ≡ n → n < length tape → e ≡ get_or tape n e → get_or tape i d ≡ e
entry_here tape n i d e z l q = ap (λ k. get_or tape k d) z ∙ get_or_default tape n d e l ∙ sym q

pub chosen_more : (tape : List Entry) (flags marks : List ℕ) (v n : ℕ) (e : Entry) → n < length tape → e ≡ get_or tape n e → length marks ≡ n → (e.role ≡ roles.Member → v ≡ get_or flags e.up 0)
    → AreChosen tape flags marks n → AreChosen tape flags (marks ++ v ∷ []) (n + 1)
chosen_more tape flags marks v n e l q c is chosen i d li role = elim (cases_lt i n) [
  | inl p ↦ get_or_append_left marks (v ∷ []) 0 i (omega arith) ∙ chosen i d p role
  | inr p ↦
      let z : i ≡ n = omega arith in let same = entry_here tape n i d e z l q in
      ap (λ k. get_or (marks ++ v ∷ []) k 0) z ∙ get_or_push marks v 0 n c ∙ is (ap (λ (x : Entry). x.role) (sym same) ∙ role) ∙ ap (λ (x : Entry). get_or flags x.up 0) (sym same)
]

-- the object of two names that mean the same has a flag
is_flagged : (text : List ℕ) (tape : List Entry) (suspects flags : List ℕ) → AreSuspects text tape suspects → AreFlagged (length tape) suspects flags (length suspects) → (t : Tree) → IsText text t → Stands tape t → (m n a b : ℕ) (w : AreTwins text t m n a b) → 0 < get_or flags w.up 0
is_flagged text tape suspects flags are flagged t h stands m n a b w = elim (cases_lt 0 (get_or flags w.up 0)) [
  | inl p ↦ p
  | inr p ↦
      let less = w.behind in let below = up_below w.other.is_at (omega arith) in let last = number_below tape t w.other.value n w.up (Named (extent w.other.name)) stands w.other.is_at in
      absurd (twins_repeat text tape t h stands m n a b w (λ ms o. are.apart w.up ms (λ (k, l, e). (let z : get_or suspects k 0 ≡ w.up = get_or_default suspects k 0 w.up l ∙ e in
      let f = subst (λ u. 0 < get_or flags u 0) z (flagged k l (omega arith)) in omega arith)) o))
]

pub chosen_left : (text : List ℕ) (tape : List Entry) (suspects flags marks : List ℕ) → AreSuspects text tape suspects → AreFlagged (length tape) suspects flags (length suspects) → AreChosen tape flags marks (length tape) → AreLeft text tape marks
chosen_left text tape suspects flags marks are flagged chosen t h stands m n x y w =
    let flag = is_flagged text tape suspects flags are flagged t h stands m n x y w in
    (subst (λ i. 0 < i) (sym (named_chosen text tape t stands m w.up x w.means w.one flags marks chosen)) flag, subst (λ i. 0 < i) (sym (named_chosen text tape t stands n w.up y w.means w.other flags marks chosen)) flag)

pub still_left : (factor : ℕ) (text : List ℕ) (tape : List Entry) (a b c : List ℕ) → AreMarked factor text tape a b (length tape) → KeepsShared b c → AreLeft text tape a → AreLeft text tape c
still_left factor text tape a b c marked k left t h stands m n x y w =
    let two = left t h stands m n x y w in
    let p = named_marked text tape t stands m w.up x w.means w.one factor a b marked two.0 in
    let q = named_marked text tape t stands n w.up y w.means w.other factor a b marked two.1 in
    let some : 0 < get_or b m 0 = subst (λ i. 0 < i) (sym p) (mark_some factor w.up (number_of w.means)) in
    let same : get_or b m 0 ≡ get_or b n 0 = p ∙ sym q in
    let apart : m ≡ n → ⊥ = (λ e. let less = w.behind in omega arith) in
    let other = subst (λ i. 0 < i) same some in
    (subst (λ i. 0 < i) (sym (k m n apart some same)) some, subst (λ i. 0 < i) (sym (k n m (λ e. apart (sym e)) other (sym same))) other)

-- ---- what the map keeps

abbrev pub Seen : List ℕ → List Entry → Tree → ℕ → (ℕ × Keyed) → ℕ → Type 0
Seen text tape t n q v = (v < n) × ((d : Entry) → IsNamed text t v q.0 (get_or tape v d).label.start q.1.name)

pub record Keeps (text : List ℕ) (tape : List Entry) (marks : List ℕ) (t : Tree) (n : ℕ) (f : (ℕ × Keyed) → Option ℕ) : Type 0 where
  pub seen : (q : ℕ × Keyed) (v : ℕ) → f q ≡ Some v → Seen text tape t n q v
  pub all : (i up at : ℕ) (means : List ℕ) → i < n → IsNamed text t i up at means → 0 < get_or marks i 0 → (q : ℕ × Keyed) → q.0 ≡ up → q.1.name ≡ means → f q ≡ None → ⊥
  pub alone : (i j a b : ℕ) → j < n → AreTwins text t i j a b → ⊥

pub nothing_kept : (text : List ℕ) (tape : List Entry) (marks : List ℕ) (t : Tree) (f : (ℕ × Keyed) → Option ℕ) → ((q : ℕ × Keyed) → f q ≡ None) → Keeps text tape marks t 0 f
nothing_kept text tape marks t f none = record { seen = λ q v h. absurd (let x = none q in cc); all = λ i up at means l. absurd (omega arith); alone = λ i j a b l. absurd (omega arith) }

module _ (text : List ℕ) (tape : List Entry) (marks : List ℕ) (left : AreLeft text tape marks) (t : Tree) (h : IsText text t) (stands : Stands tape t) (n : ℕ) where
  pub passed : (f : (ℕ × Keyed) → Option ℕ) → (IsLeft tape marks n → ⊥) → Keeps text tape marks t n f → Keeps text tape marks t (n + 1) f
  passed f apart k = record {
    seen = λ x v g. (let y = k.seen x v g in (omega (arith, y.0), y.1));
    all = λ i up at means li named some. elim (cases_lt i n) [
      | inl p ↦ k.all i up at means p named some
      | inr p ↦ (let z : i ≡ n = omega arith in absurd (apart (subst (λ m. 0 < get_or marks m 0) z some, member_there text tape t stands n up at means (subst (λ m. IsNamed text t m up at means) z named))))
    ];
    alone = λ i j a b lj twins. elim (cases_lt j n) [
      | inl p ↦ k.alone i j a b p twins
      | inr p ↦ (let z : j ≡ n = omega arith in apart (
        subst (λ m. 0 < get_or marks m 0) z (left t h stands i j a b twins).1,
        member_there text tape t stands n twins.up b twins.means (subst (λ m. IsNamed text t m twins.up b twins.means) z twins.other),
      ))
    ];
  }

  module _ (e : Entry) (l : n < length tape) (q : e ≡ get_or tape n e) where
    module _ (r : e.role ≡ roles.Member) (key : ℕ × Keyed) (o : key.0 ≡ e.up) (s : key.1.name ≡ spelled text e) (f : (ℕ × Keyed) → Option ℕ) (k : Keeps text tape marks t n f) where
      here : IsNamed text t n e.up e.label.start (spelled text e)
      here = named_here text tape t stands n e q (shown text tape t h stands n e l q r)

      pub first_twins : (v : ℕ) (d : Entry) → f key ≡ Some v → AreFirstTwins text (get_or tape v d).label.start e.label.start
      first_twins v d g = let y = k.seen key v g in record {
        tree = t;
        is_text = h;
        m = v;
        n = n;
        twins = record {
          behind = y.0;
          up = e.up;
          means = spelled text e;
          one = subst (λ m. IsNamed text t v e.up (get_or tape v d).label.start m) s (subst (λ u. IsNamed text t v u (get_or tape v d).label.start key.1.name) o (y.1 d));
          other = here;
        };
        none_before = k.alone;
      }

      module _ (none : f key ≡ None) (g : (ℕ × Keyed) → Option ℕ) (puts : (x : ℕ × Keyed) → g x ≡ cond (is_eq (order key x)) (Some n) (f x)) where
        puts_here : (x : ℕ × Keyed) → is_eq (order key x) ≡ true → g x ≡ Some n
        puts_here x y = puts x ∙ ap (λ c. cond c (Some n) (f x)) y

        puts_else : (x : ℕ × Keyed) → is_eq (order key x) ≡ false → g x ≡ f x
        puts_else x y = puts x ∙ ap (λ c. cond c (Some n) (f x)) y

        new_seen : (x : ℕ × Keyed) (v : ℕ) → g x ≡ Some v → Seen text tape t (n + 1) x v
        new_seen x v y = go (is_eq (order key x)) refl where
          go : (c : Bool) → is_eq (order key x) ≡ c → Seen text tape t (n + 1) x v
          go true w =
              let z : n ≡ v = (let a = puts_here x w in cc) in let same = order_same key x w in
              subst (λ m. Seen text tape t (n + 1) x m) z (
                omega arith,
                λ d. subst (λ a. IsNamed text t n x.0 a x.1.name) (ap (λ (y : Entry). y.label.start) (q ∙ entry_at tape e stands here.is_at ∙ sym (entry_at tape d stands here.is_at)))
                    (subst (λ m. IsNamed text t n x.0 e.label.start m) (sym s ∙ same.1) (subst (λ u. IsNamed text t n u e.label.start (spelled text e)) (sym o ∙ same.0) here)),
              )
          go false w = let old = k.seen x v (sym (puts_else x w) ∙ y) in (omega (arith, old.0), old.1)

        new_all : (i up at : ℕ) (means : List ℕ) → i < n + 1 → IsNamed text t i up at means → 0 < get_or marks i 0 → (x : ℕ × Keyed) → x.0 ≡ up → x.1.name ≡ means → g x ≡ None → ⊥
        new_all i up at means li named some x a b y = go (is_eq (order key x)) refl where
          go : (c : Bool) → is_eq (order key x) ≡ c → ⊥
          go true w = let z = puts_here x w in cc
          go false w = elim (cases_lt i n) [
            | inl p ↦ k.all i up at means p named some x a b (sym (puts_else x w) ∙ y)
            | inr p ↦ (let z : i ≡ n = omega arith in let there = subst (λ m. IsNamed text t m up at means) z named in
                let eq = same_order key x (o ∙ named_up text tape t stands n e q up at means there ∙ sym a) (s ∙ sym (named_means text tape t stands n e q up at means there) ∙ sym b) in
                false≢true (sym w ∙ eq))
          ]

        new_alone : (i j a b : ℕ) → j < n + 1 → AreTwins text t i j a b → ⊥
        new_alone i j a b lj twins = elim (cases_lt j n) [
          | inl p ↦ k.alone i j a b p twins
          | inr p ↦ (let z : j ≡ n = omega arith in let there = subst (λ m. IsNamed text t m twins.up b twins.means) z twins.other in let less = twins.behind in
              k.all i twins.up a twins.means (omega arith) twins.one (left t h stands i j a b twins).0 key (o ∙ named_up text tape t stands n e q twins.up b twins.means there) (s ∙ sym (named_means text tape t stands n e q twins.up b twins.means there)) none)
        ]

        pub added : Keeps text tape marks t (n + 1) g
        added = record { seen = new_seen; all = new_all; alone = new_alone }

-- ---- two names of an object that mean the same are twins

record Among (ms : Members) (up k : ℕ) (m : Name) : Type 0 where
  number : ℕ
  value : Tree
  is_in : IsInMembers ms up k number up (Named (extent m.source)) value
  has : IsNameOf ms m
  late : k ≤ number

first_among : (o : Name) (v : Tree) (ms : Members) (up k : ℕ) → Among (Member o v ms) up k o
first_among o v ms up k = record { number = k; value = v; is_in = in_member itself; has = first_name; late = omega arith }

later_among : (o : Name) (v : Tree) (ms : Members) (up k : ℕ) (m : Name) → Among ms up (k + size v) m → Among (Member o v ms) up k m
later_among o v ms up k m r = record { number = r.number; value = r.value; is_in = in_later_member r.is_in; has = later_name r.has; late = (let l = r.late in omega arith) }

among : (ms : Members) (up k j : ℕ) (m : Name) → slice_get (names ms) j ≡ Some m → Among ms up k m
among (Member o v ms) up k zero m e = let f : o ≡ m = cc in subst (Among (Member o v ms) up k) f (first_among o v ms up k)
among (Member o v ms) up k (suc j) m e = later_among o v ms up k m (among ms up (k + size v) j m e)
among NoMember up k j m e = absurd (cc)

record Two (ms : Members) (up k : ℕ) (m m' : Name) : Type 0 where
  one : Among ms up k m
  other : Among ms up k m'
  behind : one.number < other.number

two : (ms : Members) (up k j j' : ℕ) (m m' : Name) → j < j' → slice_get (names ms) j ≡ Some m → slice_get (names ms) j' ≡ Some m' → Two ms up k m m'
unfolding first_among among later_among
two (Member o v ms) up k j zero m m' l e f = absurd (omega arith)
two (Member o v ms) up k zero (suc j') m m' l e f =
    let g : o ≡ m = cc in let r = among ms up (k + size v) j' m' f in let p = size_positive v in let late = r.late in
    let a : (first_among o v ms up k).number ≡ k = refl in let b : (later_among o v ms up k m' r).number ≡ r.number = refl in
    subst (λ x. Two (Member o v ms) up k x m') g (record { one = first_among o v ms up k; other = later_among o v ms up k m' r; behind = omega arith })
two (Member o v ms) up k (suc j) (suc j') m m' l e f = let r = two ms up (k + size v) j j' m m' (omega arith) e f in
    record { one = later_among o v ms up k m r.one; other = later_among o v ms up k m' r.other; behind = r.behind }
two NoMember up k j j' m m' l e f = absurd (cc)

module _ (text : List ℕ) (tape : List Entry) (t : Tree) (h : IsText text t) (stands : Stands tape t) where
  named_member : (s : Source) (ms : Members) (n up : ℕ) (label : Label) → IsAt t 0 Top 0 n up label (Obj s ms) → (m : Name) (means : List ℕ) → (r : Among ms n (n + 1) m) → meaning m.characters ≡ means → IsNamed text t r.number n m.source.place means
  named_member s ms n up label a m means r e = let fit = name_fits r.has text (part_fits a text (text_fits text t h)).1 in record {
    name = m.source;
    characters = m.characters;
    value = r.value;
    is_at = at_trans a (in_object r.is_in);
    stands = fit.0;
    is_string = fit.1;
    place = refl;
    meant = sym e;
  }

  pub no_twins : (marks : List ℕ) (n : ℕ) (f : (ℕ × Keyed) → Option ℕ) → length tape ≤ n → Keeps text tape marks t n f → (part : Tree) (k up : ℕ) (label : Label) → IsAt t 0 Top 0 k up label part → HasTwins part → ⊥
  no_twins marks n f l keeps (Obj s ms) k up label a (j, j', m, m', means, less, e, g, x, y) =
      let r = two ms k (k + 1) j j' m m' less e g in
      let other = named_member s ms k up label a m' means r.other (meaning_is y) in
      let b = number_below tape t other.value r.other.number k (Named (extent other.name)) stands other.is_at in
      keeps.alone r.one.number r.other.number m.source.place m'.source.place (omega arith)
      (record { behind = r.behind; up = k; means = means; one = named_member s ms k up label a m means r.one (meaning_is x); other = other })
  no_twins marks n f l keeps _ k up label a q = absurd q
