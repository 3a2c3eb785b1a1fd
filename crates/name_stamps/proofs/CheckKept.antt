-- The duplicate check holds as a tape grows and is changed.
use Rattle.json_text.proofs.Names.{◌≡◌, ◌≢◌, ℕ, zero, suc, ◌+◌, ◌*◌, ◌/◌, ◌%◌, ◌<◌, ◌≤◌, ◌⊎◌, inl, inr, List, [], ◌∷◌, ◌++◌, length, get_or, Option, Some}
use Rattle.json_text.proofs.Names.{None, refl, sym, ap, ◌∙◌, subst, arith, length-append, Result, Ok, Err, OnOk, Contains, get_or_at, get_or_past}
use Rattle.json_text.proofs.Names.{cases_lt, bytes_at, change_at, closed, kind_of_shape, level_of, entry_in, nothing_there}
use Rattle.std.proofs.Common.{set}
use Rattle.std.proofs.lemmas.List.{get_or_append_left, length-set, get_or-set_same, get_or-set_other}
use Rattle.std.proofs.lemmas.List.Elements.{Contains-append_left, Contains-push}
use Rattle.std.proofs.lemmas.Bool.{cases_eq}
use Rattle.std.proofs.lemmas.Nat.{div-mul-add}
use Rattle.json_text.specs.declared.tape.Entry.{Entry}
use Rattle.json_text.specs.declared.tape.Extent.{Extent}
use Rattle.json_text.specs.declared.tape.Role.TheVariants as roles
use Rattle.json_text.specs.declared.tape.Shape.{Shape}
use Rattle.json_text.specs.declared.tape.Shape.TheVariants.{Object}
use Rattle.json_text.specs.declared.tape.Level.{Level}
use Rattle.json_text.specs.declared.tape.Level.TheVariants.{Root, Inside}
use Rattle.json_text.specs.declared.tape.Open.{Open}
use Rattle.name_stamps.specs.declared.seen.SeenNames.{SeenNames}
use Rattle.name_stamps.specs.declared.seen.Slot.{Slot}
use Rattle.tape_cells.specs.Cells.{members_in}
use Rattle.json_strings.specs.Keys.{mixed}
use Rattle.name_stamps.specs.Stamps.{stamp, bytes_stamp, IsPlain, stamp_at, IsStamped, IsMemberOf, AreDistinct, mark_of, place_of, HasMark, HasStamp, AreMarked, IsUnsuspected, IsHeld, limit_under, AreHeld, DuplicateCheck, HasSlot, AddsSuspect, IsFree, IsMarked, IsPut, IsInserted, IsNew, IsFresh}
use Rattle.json_text.specs.Suspects.{narrow}
use Rattle.tape_cells.specs.Built.{Built, top_of, depth_of}

-- ---- Suspects

stamp_small : (bs : List ℕ) → bytes_stamp bs < 131072
unfolding stamp mixed
stamp_small bs = omega arith

-- what stands at the depths of the containers is held as before
held_same : (text : List ℕ) (es : List Entry) (old new : SeenNames) (bound : ℕ) → ((n : ℕ) → IsUnsuspected new n → IsUnsuspected old n)
    → ((n depth s : ℕ) → 0 < depth → depth < bound → s < 131072 → HasStamp old.marks n depth s → HasStamp new.marks n depth s)
    → (limit : ℕ) (os : List Open) → length os ≤ bound → AreHeld text es old limit os → AreHeld text es new limit os
held_same text es old new bound unsuspected same limit [] l h = tt
held_same text es old new bound unsuspected same limit (o ∷ os) l h = (one o.level h.0, held_same text es old new bound unsuspected same (limit_under o.level o.entry) os (omega arith) h.1)
  where
    one : (level : Level) → IsHeld text es old limit level o.entry (length os) → IsHeld text es new limit level o.entry (length os)
    one Root k = tt
    one (Inside shape) k = (k.0, k.1, k.2, λ u m i. same o.entry (length os) (stamp_at text (entry_in es m).label) k.1 (omega arith) (stamp_small (bytes_at text (entry_in es m).label)) (k.3 (unsuspected o.entry u) m i))

module _ (text : List ℕ) (old new : SeenNames) (number : ℕ) (added : AddsSuspect number old new) where
  pub unsuspected_before : (n : ℕ) → IsUnsuspected new n → IsUnsuspected old n
  unsuspected_before n h x = h (subst (λ l. Contains l n) (sym added.1) (Contains-append_left old.suspects.items (number ∷ []) n x))

  pub suspect_now : Contains new.suspects.items number
  suspect_now = subst (λ l. Contains l number) (sym added.1) (Contains-push old.suspects.items number)

  held_before : (es : List Entry) (limit : ℕ) (os : List Open) → AreHeld text es old limit os → AreHeld text es new limit os
  held_before es limit os h = held_same text es old new (length os) unsuspected_before (λ n depth s a b c. subst (λ l. HasStamp l n depth s) (sym added.0)) limit os (omega arith) h

  pub check_suspect : (b : Built) → DuplicateCheck text b old → DuplicateCheck text b new
  check_suspect b t = record {
    long = ap length added.0 ∙ t.long;
    apart = λ n u. t.apart n (unsuspected_before n u);
    few = λ n u. t.few n (unsuspected_before n u);
    held = held_before b.entries (length b.entries) b.opens t.held;
    above = t.above;
  }

-- where memory was not refused
pub check_on : {A E : Type 0} (old new : SeenNames) (number : ℕ) (b : Built) (r : Result A E) → OnOk r (AddsSuspect number old new) → OnOk r ((text : List ℕ) → DuplicateCheck text b old → DuplicateCheck text b new)
check_on old new number b (Ok x) h = λ text t. check_suspect text old new number h b t
check_on old new number b (Err f) h = tt

-- ---- Marks

-- a mark stays where the marks of its object do
kept_by : (old new : List ℕ) (from mark : ℕ) → ((i : ℕ) → i < 8 → get_or old (from + i) 0 / 256 ≡ mark / 256 → get_or new (from + i) 0 ≡ get_or old (from + i) 0) → HasMark old from mark → HasMark new from mark
kept_by old new from mark same h = record {
  away = h.away;
  near = h.near;
  here = same h.away h.near (ap (λ m. m / 256) h.here) ∙ h.here;
  between = λ i l. ap (λ m. m / 256) (same i (let f = h.near in omega (arith, f, l)) (h.between i l)) ∙ h.between i l;
}

module _ (marks : List ℕ) (from mark place : ℕ) (free : IsFree marks from mark place) where
  -- where a place is free for a mark, it does not stand
  pub no_mark : HasMark marks from mark → ⊥
  no_mark h = elim (cases_lt h.away free.away) [
    | inl g ↦ (free.before h.away g).1 h.here
    | inr g ↦ elim (cases_lt free.away h.away) [
      | inl l ↦ free.other (ap (λ p. get_or marks p 0 / 256) free.at ∙ h.between free.away l)
      | inr l ↦ (let same : from + free.away ≡ from + h.away = omega (arith, g, l) in free.other (ap (λ p. get_or marks p 0 / 256) (free.at ∙ same) ∙ ap (λ m. m / 256) h.here))
    ]
  ]

  -- the marks of the same object stay
  pub mark_kept : (f m : ℕ) → m / 256 ≡ mark / 256 → HasMark marks f m → HasMark (set marks place mark) f m
  mark_kept f m e = kept_by marks (set marks place mark) f m
      (λ i l t. get_or-set_other marks place (f + i) mark 0 (λ q. free.other (ap (λ p. get_or marks p 0 / 256) (sym q) ∙ t ∙ e)))

  pub mark_put : place < length marks → HasMark (set marks place mark) from mark
  mark_put l = record {
    away = free.away;
    near = free.near;
    here = ap (λ p. get_or (set marks place mark) p 0) (sym free.at) ∙ get_or-set_same marks place mark 0 l;
    between = λ i g. ap (λ m. m / 256) (get_or-set_other marks place (from + i) mark 0 (λ q. let a = free.at in absurd (omega (arith, a, q, g)))) ∙ (free.before i g).0;
  }

-- marks of one object
same_object : (n s t : ℕ) → mark_of n s / 256 ≡ mark_of n t / 256
unfolding mark_of
same_object n s t = div-mul-add (n % 256) 256 (s % 256) (omega arith) ∙ sym (div-mul-add (n % 256) 256 (t % 256) (omega arith))

module _ (number from mark : ℕ) (old new : SeenNames) (same : new.suspects.items ≡ old.suspects.items) where
  pub put_free : (place : ℕ) → IsFree old.marks from mark place → new.marks ≡ set old.marks place mark → IsPut number from mark old new
  put_free place free set_there = inl record { place = place; free = free; marks = set_there; suspects = same }

  -- the first place is free
  pub put_first : get_or old.marks from 0 / 256 ≢ mark / 256 → new.marks ≡ set old.marks from mark → IsPut number from mark old new
  put_first other set_there = put_free from (record { away = 0; near = omega arith; at = omega arith; other = other; before = λ i l. absurd (omega (arith, l)) }) set_there

-- ---- A name that is inserted

module _ (text : List ℕ) (es : List Entry) (old new : SeenNames) (place value bound : ℕ) (marks : new.marks ≡ set old.marks place value) (suspects : new.suspects.items ≡ old.suspects.items) where
  same_suspects : (n : ℕ) → IsUnsuspected new n → IsUnsuspected old n
  same_suspects n u = subst (λ l. Contains l n → ⊥) suspects u

  away_at : ((depth at : ℕ) → 0 < depth → depth < bound → at < 520 → depth * 520 + at ≢ place) → (n depth s : ℕ) → 0 < depth → depth < bound → s < 131072 → HasStamp old.marks n depth s → HasStamp new.marks n depth s
  away_at away n depth s a b c h = subst (λ l. HasStamp l n depth s) (sym marks) (kept_by old.marks (set old.marks place value) (place_of (depth * 520) s) (mark_of n s)
      (λ i l t. get_or-set_other old.marks place (place_of (depth * 520) s + i) value 0 (λ q. away depth (s / 256 + i) a b (omega (arith, c, l)) (omega (arith, q)))) h)

  -- what stands at other places is as it was
  held_away : ((depth at : ℕ) → 0 < depth → depth < bound → at < 520 → depth * 520 + at ≢ place) → (limit : ℕ) (os : List Open) → length os ≤ bound → AreHeld text es old limit os → AreHeld text es new limit os
  held_away away = held_same text es old new bound same_suspects (away_at away)

-- what is held of the innermost container whose stamp is marked
module _ (text : List ℕ) (b : Built) (slot : Slot) (old new : SeenNames) (s : ℕ) (x : Extent) (checked : DuplicateCheck text b old) (has_slot : HasSlot b slot old)
    (marked : IsMarked (place_of slot.table s) (mark_of slot.number s) old new) (stamped : IsStamped text x (Some s)) where
  abbrev value : ℕ
  value = mark_of slot.number s

  in_table : (slot.table ≤ marked.place) × (marked.place < slot.table + 520)
  in_table = let a = marked.free.at in let f = marked.free.near in let c = stamped.1 in (omega (arith, a), omega (arith, a, f, c))

  check_by : AreHeld text b.entries new (length b.entries) b.opens → DuplicateCheck text b new
  check_by held = record {
    long = ap length marked.marks ∙ length-set old.marks marked.place value ∙ checked.long;
    apart = λ n u. checked.apart n (same_suspects text b.entries old new marked.place value 0 marked.marks marked.suspects n u);
    few = λ n u. checked.few n (same_suspects text b.entries old new marked.place value 0 marked.marks marked.suspects n u);
    held = held;
    above = checked.above;
  }

  slot_still : HasSlot b slot new
  slot_still = record { number = has_slot.number; table = subst (λ l. ((slot.table ≡ depth_of b.opens * 520) × (depth_of b.opens < 8)) ⊎ ((slot.table ≡ 0) × Contains l (top_of b.opens))) (sym marked.suspects) has_slot.table }

  -- if the object is a suspect, the mark stands in a table that no object has
  marked_deep : slot.table ≡ 0 → Contains old.suspects.items (top_of b.opens) → DuplicateCheck text b new × IsFresh text b new (Some x)
  marked_deep t a = let p = in_table in (
    check_by (held_away text b.entries old new marked.place value (length b.opens) marked.marks marked.suspects (λ depth at c d e q. absurd (omega (arith, t, p, c, e, q))) (length b.entries) b.opens (omega arith) checked.held),
    λ u. absurd (u (subst (λ l. Contains l (top_of b.opens)) (sym marked.suspects) a)),
  )

  module _ (shape : Shape) (o : Open) (os : List Open) (is : b.opens ≡ o ∷ os) (level : o.level ≡ Inside shape) (table : slot.table ≡ length os * 520) (few : length os < 8) where
    abbrev n : ℕ
    n = o.entry

    number : slot.number ≡ n
    number = has_slot.number ∙ ap top_of is

    inside : marked.place < length old.marks
    inside = let p = in_table in let l = checked.long in omega (arith, table, few, p, l)

    before : IsUnsuspected new n → IsUnsuspected old n
    before u = same_suspects text b.entries old new marked.place value 0 marked.marks marked.suspects n u

    held_old : AreHeld text b.entries old (length b.entries) (o ∷ os)
    held_old = subst (AreHeld text b.entries old (length b.entries)) is checked.held

    head_old : IsHeld text b.entries old (length b.entries) (Inside shape) n (length os)
    head_old = subst (λ l. IsHeld text b.entries old (length b.entries) l n (length os)) level held_old.0

    from_is : place_of (length os * 520) s ≡ place_of slot.table s
    from_is = ap (λ k. place_of k s) (sym table)

    mark_is : mark_of n s ≡ value
    mark_is = ap (λ k. mark_of k s) (sym number)

    stands : HasStamp new.marks n (length os) (stamp_at text x)
    stands = subst (λ l. HasStamp l n (length os) (stamp_at text x)) (sym marked.marks) (subst (HasStamp (set old.marks marked.place value) n (length os)) stamped.0
        (subst (λ f. HasMark (set old.marks marked.place value) f (mark_of n s)) (sym from_is)
        (subst (HasMark (set old.marks marked.place value) (place_of slot.table s)) (sym mark_is) (mark_put old.marks (place_of slot.table s) value marked.place marked.free inside))))

    other : IsUnsuspected new n → (k : ℕ) → IsMemberOf b.entries n k → stamp_at text (entry_in b.entries k).label ≢ stamp_at text x
    other u k i q = no_mark old.marks (place_of slot.table s) value marked.place marked.free (subst (HasMark old.marks (place_of slot.table s)) mark_is
        (subst (λ f. HasMark old.marks f (mark_of n s)) from_is (subst (HasStamp old.marks n (length os)) (q ∙ sym stamped.0) (head_old.3 (before u) k i))))

    all_marked : IsUnsuspected new n → AreMarked text b.entries new.marks n (length os)
    all_marked u k i = let t = stamp_at text (entry_in b.entries k).label in
        subst (λ l. HasStamp l n (length os) t) (sym marked.marks) (mark_kept old.marks (place_of slot.table s) value marked.place marked.free (place_of (length os * 520) t) (mark_of n t)
        (same_object n t s ∙ ap (λ m. mark_of m s / 256) (sym number)) (head_old.3 (before u) k i))

    held_new : AreHeld text b.entries new (length b.entries) (o ∷ os)
    held_new = let p = in_table in (
      subst (λ l. IsHeld text b.entries new (length b.entries) l n (length os)) (sym level) (head_old.0, head_old.1, head_old.2, all_marked),
      held_away text b.entries old new marked.place value (length os) marked.marks marked.suspects (λ depth at c d e q. absurd (omega (arith, table, p, d, e, q))) (limit_under o.level n) os (omega arith) held_old.1,
    )

    pub marked_here : DuplicateCheck text b new × IsFresh text b new (Some x)
    marked_here = (
      check_by (subst (AreHeld text b.entries new (length b.entries)) (sym is) held_new),
      subst (λ l. IsUnsuspected new (top_of l) → IsNew text b.entries new (top_of l) (depth_of l) x) (sym is) (λ u. record { plain = stamped.2; other = other u; marked = stands }),
    )

suspect_checked : (text : List ℕ) (b : Built) (slot : Slot) (old new : SeenNames) (x : Extent) → DuplicateCheck text b old → HasSlot b slot old → AddsSuspect slot.number old new → DuplicateCheck text b new × IsFresh text b new (Some x) × HasSlot b slot new
suspect_checked text b slot old new x checked has_slot added =
    grind (arith, check_suspect text old new slot.number added b checked, suspect_now text old new slot.number added, number)

-- a name of the innermost container, an object, is inserted
pub insert_checked : (text : List ℕ) (b : Built) (slot : Slot) (old new : SeenNames) (stamp : Option ℕ) (x : Extent) (shape : Shape) → level_of b.opens ≡ Inside shape
    → DuplicateCheck text b old → HasSlot b slot old → IsStamped text x stamp → IsInserted slot stamp old new → DuplicateCheck text b new × IsFresh text b new (Some x) × HasSlot b slot new
insert_checked text b slot old new (Some s) x shape level checked has_slot stamped (inl marked) = go b.opens refl has_slot.table where
  still : HasSlot b slot new
  still = slot_still text b slot old new s x checked has_slot marked stamped

  go : (os : List Open) → b.opens ≡ os → ((slot.table ≡ depth_of b.opens * 520) × (depth_of b.opens < 8)) ⊎ ((slot.table ≡ 0) × Contains old.suspects.items (top_of b.opens)) → DuplicateCheck text b new × IsFresh text b new (Some x) × HasSlot b slot new
  go os e (inr (t, a)) = let r = marked_deep text b slot old new s x checked has_slot marked stamped t a in (r.0, r.1, still)
  go [] e (inl (t, d)) = absurd (cc)
  go (o ∷ os) e (inl (t, d)) =
      let r = marked_here text b slot old new s x checked has_slot marked stamped shape o os e (sym (ap level_of e) ∙ level) (t ∙ ap (λ l. depth_of l * 520) e) (subst (λ k. k < 8) (ap depth_of e) d) in
      (r.0, r.1, still)
insert_checked text b slot old new (Some s) x shape level checked has_slot stamped (inr suspects) = suspect_checked text b slot old new x checked has_slot suspects
insert_checked text b slot old new None x shape level checked has_slot stamped suspects = suspect_checked text b slot old new x checked has_slot suspects

-- ---- One more entry

abbrev pub IsInside : Level → Type 0
IsInside Root = ⊥
IsInside (Inside shape) = Unit {0}

module _ (text : List ℕ) (es : List Entry) (e : Entry) (seen : SeenNames) where
  under_below : (xs : List Entry) (limit : ℕ) (level : Level) (n depth bound : ℕ) → limit ≤ bound → IsHeld text xs seen limit level n depth → limit_under level n ≤ bound
  under_below xs limit level n depth bound l h = grind arith

  abbrev grown : List Entry
  grown = es ++ e ∷ []

  longer : length grown ≡ length es + 1
  longer = length-append es (e ∷ [])

  entry_old : (k : ℕ) → k < length es → entry_in grown k ≡ entry_in es k
  entry_old k h = get_or_append_left es (e ∷ []) nothing_there k h

  entry_new : (k : ℕ) → k ≡ length es → entry_in grown k ≡ e
  entry_new k h = get_or_at es e [] nothing_there k (sym h)

  member_old : (n k : ℕ) → k < length es → IsMemberOf grown n k → IsMemberOf es n k
  member_old n k h m = record { inside = h; role = ap (λ (x : Entry). x.role) (sym (entry_old k h)) ∙ m.role; up = ap (λ (x : Entry). x.up) (sym (entry_old k h)) ∙ m.up }

  member_new : (n k : ℕ) → k ≡ length es → IsMemberOf grown n k → (e.role ≡ roles.Member) × (e.up ≡ n)
  member_new n k h m = (ap (λ (x : Entry). x.role) (sym (entry_new k h)) ∙ m.role, ap (λ (x : Entry). x.up) (sym (entry_new k h)) ∙ m.up)

  last_one : (n k : ℕ) → length es ≤ k → IsMemberOf grown n k → k ≡ length es
  last_one n k h m = let i = m.inside in omega (arith, longer, i)

  -- containers around that of the new entry
  held_grown : (limit : ℕ) (os : List Open) → limit ≤ length es → (e.role ≡ roles.Member → limit ≤ e.up) → AreHeld text es seen limit os → AreHeld text grown seen limit os
  held_grown limit [] l a h = tt
  held_grown limit (o ∷ os) l a h = (
    one o.level h.0,
    held_grown (limit_under o.level o.entry) os (under_below es limit o.level o.entry (length os) (length es) l h.0) (λ r. under_below es limit o.level o.entry (length os) e.up (a r) h.0) h.1,
  ) where
    one : (level : Level) → IsHeld text es seen limit level o.entry (length os) → IsHeld text grown seen limit level o.entry (length os)
    one Root k = tt
    one (Inside shape) k = (
      k.0,
      k.1,
      ap (λ (x : Entry). x.kind) (entry_old o.entry (let q = k.0 in omega arith)) ∙ k.2,
      λ u m i. elim (cases_lt m (length es)) [
        | inl g ↦ subst (λ (x : Entry). HasStamp seen.marks o.entry (length os) (stamp_at text x.label)) (sym (entry_old m g)) (k.3 u m (member_old o.entry m g i))
        | inr g ↦ (let (r, w) = member_new o.entry m (last_one o.entry m g i) i in let b = a r in let q = k.0 in absurd (omega (arith, b, q, w)))
      ],
    )

  -- an entry that is no member, or a member of the innermost container whose name has another stamp than those before
  module _ (o o' : Open) (os : List Open) (deep deep' : ℕ) (entry : o'.entry ≡ o.entry) (level : o'.level ≡ o.level) (few : members_in e ≤ narrow)
      (new : e.role ≡ roles.Member → (e.up ≡ o.entry) × IsInside o.level × (IsUnsuspected seen o.entry → IsNew text es seen o.entry (length os) e.label))
      (checked : DuplicateCheck text (record { entries = es; opens = o ∷ os; deep = deep }) seen) where
    name_of : (n : ℕ) → IsUnsuspected seen n → (e.role ≡ roles.Member) × (e.up ≡ n) → IsNew text es seen n (length os) e.label
    name_of n u h = search arith

    apart_grown : (n : ℕ) → IsUnsuspected seen n → AreDistinct text grown n
    apart_grown n u = record {
      plain = λ k m. elim (cases_lt k (length es)) [
        | inl g ↦ subst (λ (x : Entry). IsPlain text x.label) (sym (entry_old k g)) ((checked.apart n u).plain k (member_old n k g m))
        | inr g ↦ (let z = last_one n k g m in subst (λ (x : Entry). IsPlain text x.label) (sym (entry_new k z)) ((name_of n u (member_new n k z m)).plain))
      ];
      apart = λ j k l mj mk. elim (cases_lt k (length es)) [
        | inl g ↦ (λ q. (checked.apart n u).apart j k l (member_old n j (omega arith) mj) (member_old n k g mk) (ap (λ (x : Entry). stamp_at text x.label) (sym (entry_old j (omega arith))) ∙ q ∙ ap (λ (x : Entry). stamp_at text x.label) (entry_old k g)))
        | inr g ↦ (let z = last_one n k g mk in (λ q. (name_of n u (member_new n k z mk)).other j (member_old n j (omega (arith, z)) mj) (ap (λ (x : Entry). stamp_at text x.label) (sym (entry_old j (omega (arith, z)))) ∙ q ∙ ap (λ (x : Entry). stamp_at text x.label) (entry_new k z))))
      ];
    }

    few_grown : (n : ℕ) → IsUnsuspected seen n → members_in (entry_in grown n) ≤ narrow
    few_grown n u = grind (arith, entry_old, entry_new, get_or_past, longer)

    head_grown : (l : Level) → l ≡ o.level → IsHeld text es seen (length es) l o.entry (length os) → IsHeld text grown seen (length es) l o.entry (length os)
    head_grown Root w k = tt
    head_grown (Inside shape) w k = (
      k.0,
      k.1,
      ap (λ (x : Entry). x.kind) (entry_old o.entry k.0) ∙ k.2,
      λ u m i. elim (cases_lt m (length es)) [
        | inl g ↦ subst (λ (x : Entry). HasStamp seen.marks o.entry (length os) (stamp_at text x.label)) (sym (entry_old m g)) (k.3 u m (member_old o.entry m g i))
        | inr g ↦ (let z = last_one o.entry m g i in subst (λ (x : Entry). HasStamp seen.marks o.entry (length os) (stamp_at text x.label)) (sym (entry_new m z)) (name_of o.entry u (member_new o.entry m z i)).marked)
      ],
    )

    -- in terms of the number of entries before
    held_here : AreHeld text grown seen (length es) (o' ∷ os)
    held_here = grind (arith, head_grown, held_grown, under_below)

    above_grown : (n k : ℕ) → IsMemberOf grown n k → n < length es
    above_grown n k m = elim (cases_lt k (length es)) [
      | inl g ↦ checked.above n k (member_old n k g m)
      | inr g ↦ (let z = member_new n k (last_one n k g m) m in let f = new z.0 in inside o.level f.1 checked.held.0 (sym f.0 ∙ z.1))
    ] where
      inside : (l : Level) → IsInside l → IsHeld text es seen (length es) l o.entry (length os) → o.entry ≡ n → n < length es
      inside l i h q = grind arith

    pub check_grown : DuplicateCheck text (record { entries = grown; opens = o' ∷ os; deep = deep' }) seen
    check_grown = grind (arith, apart_grown, few_grown, held_here, above_grown, longer)

    -- and it is open
    pub check_opened : (shape : Shape) → e.kind ≡ kind_of_shape shape → DuplicateCheck text (record { entries = grown; opens = record { level = Inside shape; entry = length es; children = 0 } ∷ o' ∷ os; deep = deep' }) seen
    check_opened shape kind = search (arith, apart_grown, few_grown, longer, entry_new, above_grown, held_here)

-- ---- A container that is closed

pub length-change_at : (es : List Entry) (i : ℕ) (f : Entry → Entry) → length (change_at es i f) ≡ length es
length-change_at (e ∷ es) (suc i) f = ap suc (length-change_at es i f)
length-change_at _ _ f = refl

-- what no change is made of
same_part : {A : Type 0} (part : Entry → A) (es : List Entry) (i : ℕ) (f : Entry → Entry) → ((e : Entry) → part (f e) ≡ part e) → (k : ℕ) → part (entry_in (change_at es i f) k) ≡ part (entry_in es k)
same_part part (e ∷ es) zero f h zero = h e
same_part part (e ∷ es) (suc i) f h (suc k) = same_part part es i f h k
same_part part _ _ f h _ = refl

same_other : (es : List Entry) (i : ℕ) (f : Entry → Entry) (k : ℕ) → k ≢ i → entry_in (change_at es i f) k ≡ entry_in es k
same_other (e ∷ es) zero f zero h = absurd (h refl)
same_other (e ∷ es) (suc i) f (suc k) h = same_other es i f k (λ q. h (ap suc q))
same_other _ _ f _ h = refl

changed : (es : List Entry) (i : ℕ) (f : Entry → Entry) → i < length es → entry_in (change_at es i f) i ≡ f (entry_in es i)
changed [] i f h = absurd (omega arith)
changed (e ∷ es) zero f h = refl
changed (e ∷ es) (suc i) f h = changed es i f (omega arith)

module _ (text : List ℕ) (es : List Entry) (i place children after : ℕ) (seen : SeenNames) where
  abbrev f : Entry → Entry
  f = closed place children after

  abbrev shut : List Entry
  shut = change_at es i f

  member_was : (n k : ℕ) → IsMemberOf shut n k → IsMemberOf es n k
  member_was n k m = grind (
    arith,
    inside,
    length-change_at es i f,
    same_part (λ (e : Entry). e.role) es i f (λ e. refl) k,
    same_part (λ (e : Entry). e.up) es i f (λ e. refl) k,
  )

  label_was : (k : ℕ) → (entry_in shut k).label ≡ (entry_in es k).label
  label_was k = same_part (λ (e : Entry). e.label) es i f (λ e. refl) k

  kind_was : (k : ℕ) → (entry_in shut k).kind ≡ (entry_in es k).kind
  kind_was k = same_part (λ (e : Entry). e.kind) es i f (λ e. refl) k

  held_shut : (limit : ℕ) (os : List Open) → AreHeld text es seen limit os → AreHeld text shut seen limit os
  held_shut limit [] h = tt
  held_shut limit (o ∷ os) h = (one o.level h.0, held_shut (limit_under o.level o.entry) os h.1) where
    one : (level : Level) → IsHeld text es seen limit level o.entry (length os) → IsHeld text shut seen limit level o.entry (length os)
    one Root k = tt
    one (Inside shape) k = (k.0, k.1, kind_was o.entry ∙ k.2, λ u m j. subst (λ x. HasStamp seen.marks o.entry (length os) (stamp_at text x)) (sym (label_was m)) (k.3 u m (member_was o.entry m j)))

  more_room : (limit : ℕ) (os : List Open) → limit ≤ length es → AreHeld text shut seen limit os → AreHeld text shut seen (length shut) os
  more_room limit [] l h = tt
  more_room limit (o ∷ os) l h = grind (arith, length-change_at)

  pub check_shut : (o : Open) (os : List Open) (deep : ℕ) (shape : Shape) → o.level ≡ Inside shape → i ≡ o.entry → (shape ≡ Object → IsUnsuspected seen o.entry → children ≤ narrow)
      → DuplicateCheck text (record { entries = es; opens = o ∷ os; deep = deep }) seen → DuplicateCheck text (record { entries = shut; opens = os; deep = deep }) seen
  check_shut o os deep shape level at few checked = record {
    long = checked.long;
    apart = λ n u. record {
      plain = λ k m. subst (IsPlain text) (sym (label_was k)) ((checked.apart n u).plain k (member_was n k m));
      apart = λ j k l mj mk q. (checked.apart n u).apart j k l (member_was n j mj) (member_was n k mk) (ap (stamp_at text) (sym (label_was j)) ∙ q ∙ ap (stamp_at text) (label_was k));
    };
    few = λ n u. elim (cases_eq n i) [ inl q ↦ grind (arith, kind_was, counted) | inr q ↦ grind (arith, same_other) ];
    held = more_room o.entry os (let q = head.0 in omega arith) (held_shut o.entry os (subst (λ l. AreHeld text es seen (limit_under l o.entry) os) level checked.held.1));
    above = λ n k m. (let q = checked.above n k (member_was n k m) in let z = length-change_at es i f in omega (arith, q, z));
  } where
    head : IsHeld text es seen (length es) (Inside shape) o.entry (length os)
    head = subst (λ l. IsHeld text es seen (length es) l o.entry (length os)) level checked.held.0

    counted : (n : ℕ) → n ≡ i → (entry_in shut n).children ≡ children
    counted n q = ap (λ (e : Entry). e.children) (ap (entry_in shut) q ∙ changed es i f (let h = head.0 in omega (arith, h, at)))
