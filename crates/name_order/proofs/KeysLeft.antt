-- The members of an object that were collected, and those that are left.
use Rattle.json_text.proofs.Names.{◌≡◌, ℕ, ◌+◌, ◌<◌, ◌≤◌, Bool, ◌||◌, List, [], ◌∷◌, ◌++◌, length, map, get_or, refl, sym, ap, ◌∙◌, subst, arith}
use Rattle.json_text.proofs.Names.{append_assoc, append-nil, All, AllByRecursion, list_any, on, All-from_recursion, Name, Members, NoMember, Member}
use Rattle.json_text.proofs.Names.{size, entry_in, IsObject, meanings, repeats_by}
use Rattle.name_order.proofs.Names.{quoted_at, scalars_at, Keyed, key_name, keyed, name_at, Entry, no_entry, all_left, next_left}
use Rattle.json_text.specs.Meaning.{meaning}
use Rattle.json_strings.specs.Spelling.{IsQuoted}
use Rattle.json_text.proofs.Entries.{size_positive}
use Rattle.json_text.proofs.MembersLeft.{Left, Next}

-- what the members that were met give, and behind it what those that are left give, is what all give
module _ {A : Type 0} (f : Keyed → A) where
  abbrev pub IsGiven : List ℕ → List Entry → ℕ → ℕ → ℕ → List A → Type 0
  IsGiven text tape n k end met = (ms : Members) → IsObject text tape n ms → (left : Members) × Left text tape n k end left × (met ++ map f (keyed left k) ≡ map f (keyed ms (n + 1)))

  pub given_none : (text : List ℕ) (tape : List Entry) (n : ℕ) → IsGiven text tape n (n + 1) (get_or tape n no_entry).after []
  given_none text tape n ms o = (ms, all_left text tape n ms o, refl)

  pub given_more : (text : List ℕ) (tape : List Entry) (n k end : ℕ) (met : List A) (one : A) → k < end
      → ((ms : Members) → IsObject text tape n ms → (left : Members) → (x : Next text tape n k end left) → one ≡ f (record { number = k; name = meaning x.name.characters }))
      → IsGiven text tape n k end met → IsGiven text tape n (get_or tape k no_entry).after end (met ++ one ∷ [])
  given_more text tape n k end met one h same before ms o = let b = before ms o in let x = next_left text tape n k end b.0 b.1 h in (
    x.others,
    x.left,
    append_assoc met (one ∷ []) (map f (keyed x.others (get_or tape k no_entry).after)) ∙ ap (λ y. met ++ (y ∷ map f (keyed x.others (get_or tape k no_entry).after))) (same ms o b.0 x)
        ∙ ap (λ j. met ++ (f (record { number = k; name = meaning x.name.characters }) ∷ map f (keyed x.others j))) x.past
        ∙ ap (λ l. met ++ map f (keyed l k)) (sym x.whole) ∙ b.2,
  )

  pub given_all : (text : List ℕ) (tape : List Entry) (n k end : ℕ) (met : List A) → end ≤ k → IsGiven text tape n k end met → (ms : Members) → IsObject text tape n ms → met ≡ map f (keyed ms (n + 1))
  given_all text tape n k end met h before ms o = let b = before ms o in go b.0 b.1 b.2 where
    go : (left : Members) → Left text tape n k end left → met ++ map f (keyed left k) ≡ map f (keyed ms (n + 1)) → met ≡ map f (keyed ms (n + 1))
    go NoMember l e = sym (append-nil met) ∙ e
    go (Member m v others) l e = absurd (let z = size_positive v in let f = l.ends in omega arith)

pub key_is : (x : Keyed) (k : ℕ) (name : List ℕ) → x.number ≡ k → x.name ≡ name → x ≡ record { number = k; name = name }
key_is x k name e f = ap (λ n. record { number = n; name = x.name }) e ∙ ap (λ l. record { number = k; name = l }) f

-- a member's name stands where its entry says
pub record IsGood (text : List ℕ) (tape : List Entry) (x : Keyed) : Type 0 where
  pub inside : x.number < length tape
  pub quoted : IsQuoted text (entry_in tape x.number).label
  pub named : name_at text tape x.number ≡ x.name

good_member : (text : List ℕ) (tape : List Entry) (up k end : ℕ) (ms : Members) (x : Next text tape up k end ms) (m : Name) → x.name ≡ m → IsGood text tape (record { number = k; name = meaning m.characters })
good_member text tape up k end ms x m e = grind (
  arith,
  quoted_at text text _ x.name.source x.name.characters refl x.label x.lies x.string,
  scalars_at text text _ x.name.source x.name.characters refl x.label x.lies x.string,
)

good_left : (text : List ℕ) (tape : List Entry) (up k end : ℕ) (ms : Members) → Left text tape up k end ms → AllByRecursion (IsGood text tape) (keyed ms k)
good_left text tape up k end NoMember l = tt
good_left text tape up k end (Member m v ms) l =
    let z = size_positive v in let f = l.ends in let x = next_left text tape up k end (Member m v ms) l (omega arith) in let w = x.whole in
    let a : x.name ≡ m = cc in let b : x.value ≡ v = cc in let c : x.others ≡ ms = cc in
    (good_member text tape up k end (Member m v ms) x m a, good_left text tape up (k + size v) end ms (subst (λ j. Left text tape up j end ms) (x.past ∙ ap (λ t. k + size t) b) (subst (Left text tape up (get_or tape k no_entry).after end) c x.left)))

pub all_good : (text : List ℕ) (tape : List Entry) (n : ℕ) (ms : Members) → IsObject text tape n ms → All (IsGood text tape) (keyed ms (n + 1))
all_good text tape n ms o = All-from_recursion (IsGood text tape) (keyed ms (n + 1)) (good_left text tape n (n + 1) _ ms (all_left text tape n ms o))

-- names come again among the members where they do among the names
any_keyed : (same : List ℕ → List ℕ → Bool) (x : List ℕ) (ms : Members) (k : ℕ) → list_any (λ y. on key_name same y (record { number = 0; name = x })) (keyed ms k) ≡ list_any (λ y. same y x) (meanings ms)
any_keyed same x NoMember k = refl
any_keyed same x (Member m v ms) k = ap (λ b. same (meaning m.characters) x || b) (any_keyed same x ms (k + size v))

pub repeats_keyed : (same : List ℕ → List ℕ → Bool) (ms : Members) (k : ℕ) → repeats_by (on key_name same) (keyed ms k) ≡ repeats_by same (meanings ms)
repeats_keyed same NoMember k = refl
repeats_keyed same (Member m v ms) k = grind (arith, repeats_keyed same ms (k + size v), any_keyed)
