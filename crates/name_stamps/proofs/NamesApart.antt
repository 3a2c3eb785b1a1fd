-- Objects whose names have a stamp each by their bytes: none of their names comes again.
use Rattle.json_text.proofs.Names.{◌≡◌, ◌≢◌, ℕ, ◌+◌, ◌<◌, inl, inr, false, Bool, ◌||◌, List, length, get_or, refl, sym, ap, ◌∙◌, subst, arith, nat_eq}
use Rattle.json_text.proofs.Names.{list_any, cases_lt, nat_tests, get_or_past, Name, Members, NoMember, Member, IsObject, repeats, meanings, entry_in}
use Rattle.json_text.proofs.Names.{AreSuspects}
use Rattle.json_text.specs.Meaning.{meaning}
use Rattle.json_text.specs.Repeats.{hashes_repeat}
use Rattle.tape_cells.specs.Built.{Built}
use Rattle.json_text.specs.declared.tape.Entry.{Entry}
use Rattle.name_stamps.specs.declared.seen.SeenNames.{SeenNames}
use Rattle.name_stamps.specs.Stamps.{stamp_at, IsMemberOf, AreDistinct, DuplicateCheck}
use Rattle.json_text.proofs.Entries.{size_positive}
use Rattle.json_text.proofs.MembersLeft.{no_entry, Left, Next, next_left, all_left, given, given_is}
use Rattle.name_stamps.proofs.PlainStamps.{spelt_stamp, stamp_is}
use Rattle.json_text.proofs.Repeats.{hashes_apart}
use Rattle.tape_cells.proofs.WideObjects.{not_wide_by}

neither_is : (a b : Bool) → a ≡ false → b ≡ false → (a || b) ≡ false
neither_is a b e f = grind arith

module _ (text : List ℕ) (tape : List Entry) (n : ℕ) (a : AreDistinct text tape n) where
  member_next : (k end : ℕ) (left : Members) → Next text tape n k end left → IsMemberOf tape n k
  member_next k end left x = record { inside = x.inside; role = x.role; up = x.up_is }

  stamp_next : (k end : ℕ) (left : Members) (x : Next text tape n k end left) → stamp_at text (entry_in tape k).label ≡ spelt_stamp (meaning x.name.characters)
  stamp_next k end left x = stamp_is text (entry_in tape k).label x.name.source x.name.characters x.label x.lies x.string (a.plain k (member_next k end left x))

  -- the stamp of a member is none of those behind it
  none_behind : (left : Members) (k end : ℕ) → Left text tape n k end left → (j : ℕ) → j < k → IsMemberOf tape n j → list_any (λ y. nat_eq y (stamp_at text (entry_in tape j).label)) (given spelt_stamp left) ≡ false
  none_behind NoMember k end l j h m = refl
  none_behind (Member o v ms) k end l j h m =
      let z = size_positive v in let e = l.ends in let x = next_left text tape n k end (Member o v ms) l (omega arith) in let w = x.whole in
      let name : x.name ≡ o = cc in let others : x.others ≡ ms = cc in let d = a.apart j k h m (member_next k end (Member o v ms) x) in
      let s = stamp_next k end (Member o v ms) x ∙ ap (λ (y : Name). spelt_stamp (meaning y.characters)) name in
      neither_is _ _ (other (spelt_stamp (meaning o.characters)) (stamp_at text (entry_in tape j).label) (λ q. d (sym (s ∙ q))))
      (none_behind ms (get_or tape k no_entry).after end (subst (Left text tape n (get_or tape k no_entry).after end) others x.left) j (let t = x.later in omega (arith, t, h)) m)
    where
      other : (y z : ℕ) → y ≢ z → nat_eq y z ≡ false
      other y z d = grind (arith, nat_tests)

  none_twice : (left : Members) (k end : ℕ) → Left text tape n k end left → hashes_repeat (given spelt_stamp left) ≡ false
  none_twice NoMember k end l = refl
  none_twice (Member o v ms) k end l =
      let z = size_positive v in let e = l.ends in let x = next_left text tape n k end (Member o v ms) l (omega arith) in let w = x.whole in
      let name : x.name ≡ o = cc in let others : x.others ≡ ms = cc in
      let left = subst (Left text tape n (get_or tape k no_entry).after end) others x.left in
      let s = stamp_next k end (Member o v ms) x ∙ ap (λ (y : Name). spelt_stamp (meaning y.characters)) name in
      neither_is _ _ (subst (λ y. list_any (λ w. nat_eq w y) (given spelt_stamp ms) ≡ false) s (none_behind ms (get_or tape k no_entry).after end left k x.later (member_next k end (Member o v ms) x)))
      (none_twice ms (get_or tape k no_entry).after end left)

  pub names_apart : (ms : Members) → IsObject text tape n ms → repeats (meanings ms) ≡ false
  names_apart ms o = hashes_apart spelt_stamp (meanings ms) (sym (ap hashes_repeat (given_is spelt_stamp ms)) ∙ none_twice ms (n + 1) (get_or tape n no_entry).after (all_left text tape n ms o))

pub suspects_left : (text : List ℕ) (b : Built) (seen : SeenNames) → DuplicateCheck text b seen → AreSuspects text b.entries seen.suspects.items
suspects_left text b seen checked = record {
  narrow = λ n u w. elim (cases_lt n (length b.entries)) [ inl g ↦ grind (arith, not_wide_by) | inr g ↦ grind (arith, get_or_past) ];
  apart = λ n ms u o. names_apart text b.entries n (checked.apart n u) ms o;
}
