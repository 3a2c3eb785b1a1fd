-- The members of an object, from one entry to the next.
use Rattle.json_text.proofs.Names.{◌≡◌, ℕ, ◌+◌, ◌<◌, List, [], ◌∷◌, ◌++◌, length, map, get_or, refl, sym, ap, ◌∙◌, subst, arith, append_assoc}
use Rattle.json_text.proofs.Names.{length-append, get_or_at, get_or_default, Name, Tree, Obj, Members, NoMember, Member, IsString, size}
use Rattle.json_text.proofs.Names.{size_of_members, Named, extent, tape_of, tape_of_members, entry_of, meanings, IsObject}
use Rattle.json_text.specs.Meaning.{meaning}
use Rattle.json_text.specs.declared.tape.Entry.{Entry}
use Rattle.json_text.specs.declared.tape.Kind.TheVariants as kinds
use Rattle.json_text.specs.declared.tape.Role.TheVariants as roles
use Rattle.json_text.proofs.Fits.{Lies, FitMembers, text_fits, part_fits}
use Rattle.json_text.proofs.Numbers.{part_at, entry_at, entry_first}
use Rattle.json_text.proofs.Snoc.{length-tape}
use Rattle.json_text.proofs.Entries.{size_positive, role_is, label_is, up_is, after_is}

-- what an index past the end gives
abbrev pub no_entry : Entry
no_entry = record { kind = kinds.Null; role = roles.Whole; label = record { start = 0; len = 0 }; source = record { start = 0; len = 0 }; up = 0; children = 0; after = 0 }

pub same_entry : (tape : List Entry) (k : ℕ) → k < length tape → get_or tape k no_entry ≡ get_or tape k (get_or tape k no_entry)
same_entry tape k h = get_or_default tape k no_entry (get_or tape k no_entry) h

-- these members stand from entry k to the end
pub record Left (text : List ℕ) (tape : List Entry) (up k end : ℕ) (ms : Members) : Type 0 where
  pub front : List Entry
  pub back : List Entry
  pub is : tape ≡ front ++ (tape_of_members ms up k ++ back)
  pub long : length front ≡ k
  pub fits : FitMembers text ms
  pub ends : end ≡ k + size_of_members ms

-- all members of an object
pub all_left : (text : List ℕ) (tape : List Entry) (n : ℕ) (ms : Members) → IsObject text tape n ms → Left text tape n (n + 1) (get_or tape n no_entry).after ms
all_left text tape n ms o = let p = part_at o.is_at in let e = entry_of (Obj o.source ms) o.up o.label n in grind (
  arith,
  append_assoc p.front (e ∷ []) (tape_of_members ms n (n + 1) ++ p.back),
  length-append p.front (e ∷ []),
  part_fits o.is_at text (text_fits text o.tree o.is_text),
  entry_at tape no_entry o.stands o.is_at,
)

-- the first of those that are left
pub record Next (text : List ℕ) (tape : List Entry) (up k end : ℕ) (ms : Members) : Type 0 where
  pub name : Name
  pub others : Members
  pub inside : k < length tape
  pub value : Tree
  pub whole : ms ≡ Member name value others
  pub role : (get_or tape k no_entry).role ≡ roles.Member
  pub up_is : (get_or tape k no_entry).up ≡ up
  pub label : (get_or tape k no_entry).label ≡ extent name.source
  pub lies : Lies text name.source
  pub string : IsString name.source.bytes name.characters
  pub later : k < (get_or tape k no_entry).after
  pub past : (get_or tape k no_entry).after ≡ k + size value
  pub left : Left text tape up (get_or tape k no_entry).after end others

pub next_left : (text : List ℕ) (tape : List Entry) (up k end : ℕ) (ms : Members) → Left text tape up k end ms → k < end → Next text tape up k end ms
next_left text tape up k end NoMember l h = absurd (let e = l.ends in omega arith)
next_left text tape up k end (Member m v ms) l h = let lab = Named (extent m.source) in let own = tape_of v up lab k in
    let rest = tape_of_members ms up (k + size v) in let f = entry_first v up lab k in
    let whole : tape ≡ l.front ++ (own ++ (rest ++ l.back)) = l.is ∙ ap (λ x. l.front ++ x) (append_assoc own rest l.back) in
    let here : get_or tape k no_entry ≡ entry_of v up lab k =
    ap (λ x. get_or x k no_entry) (whole ∙ ap (λ x. l.front ++ (x ++ (rest ++ l.back))) f.1) ∙ get_or_at l.front (entry_of v up lab k) (f.0 ++ (rest ++ l.back)) no_entry k l.long in
    let next : (get_or tape k no_entry).after ≡ k + size v = ap (λ (x : Entry). x.after) here ∙ after_is v up lab k in let z = size_positive v in
    let n = length-tape v up lab k in record {
      name = m;
      others = ms;
      inside = (let a = ap length whole in let b = length-append l.front (own ++ (rest ++ l.back)) in let c = length-append own (rest ++ l.back) in let g = l.long in omega arith);
      value = v;
      whole = refl;
      role = ap (λ (x : Entry). x.role) here ∙ role_is v up lab k;
      up_is = ap (λ (x : Entry). x.up) here ∙ up_is v up lab k;
      label = ap (λ (x : Entry). x.label) here ∙ label_is v up lab k;
      lies = l.fits.0;
      string = l.fits.1;
      later = omega arith;
      past = next;
      left = subst (λ j. Left text tape up j end ms) (sym next) (record {
        front = l.front ++ own;
        back = l.back;
        is = whole ∙ sym (append_assoc l.front own (rest ++ l.back));
        long = (let a = length-append l.front own in let g = l.long in omega arith);
        fits = l.fits.3;
        ends = (let e = l.ends in omega arith);
      });
    }

module _ {A : Type 0} (each : List ℕ → A) where
  -- what each member's name gives
  abbrev pub given : Members → List A
  given NoMember = []
  given (Member n t ms) = each (meaning n.characters) ∷ given ms

  pub given_is : (ms : Members) → given ms ≡ map each (meanings ms)
  given_is NoMember = refl
  given_is (Member n t ms) = ap (λ xs. each (meaning n.characters) ∷ xs) (given_is ms)
