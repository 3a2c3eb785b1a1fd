-- Suspects by their numbers in order, and the objects between them.
use Rattle.json_text.proofs.Names.{◌≡◌, ℕ, ◌+◌, ◌<◌, ◌≤◌, inl, inr, false, List, [], length, get_or, refl, sym, ◌∙◌, subst, arith, Contains}
use Rattle.json_text.proofs.Names.{IsPermutation, IsSorted, nat_cmp, cases_lt, get_or_default, Members, IsJson, StandsForAll, repeats, meanings}
use Rattle.json_text.proofs.Names.{IsObject, IsWide, AreSuspects, entry_in, nothing_there}
use Rattle.name_order.proofs.Names.{members_in, AreKept, Entry}
use Rattle.name_order.specs.Orders.{Kept}
use Rattle.std.proofs.lemmas.List.Sorted.{Contains-permutation, IsNonDecreasingBy-from_sort}
use Rattle.name_order.proofs.TwinNames.{NoneBelow, too_few}
use Rattle.tape_cells.proofs.WideObjects.{not_wide_by}
use Rattle.name_order.proofs.Runs.{few_members}

-- below the first entry nothing is kept
pub kept_none : (factor : ℕ) (text : List ℕ) (tape : List Entry) (kept : Kept) → kept ≡ record { factor = factor; orders = [] } → AreKept text tape 0 kept
kept_none factor text tape kept e = subst (AreKept text tape 0) (sym e) (record { each = λ i d h. absurd (omega arith); all = λ n h w. absurd (omega arith) })

module _ (text : List ℕ) (tape : List Entry) where
  -- from the next one on, of the objects that are not among those from place i on none is wide, and none has two names that mean the same
  pub record AreLeft (numbers : List ℕ) (i next : ℕ) : Type 0 where
    pub narrow : (n : ℕ) → next ≤ n → ((j : ℕ) → i ≤ j → j < length numbers → get_or numbers j 0 ≡ n → ⊥) → IsWide (entry_in tape n) → ⊥
    pub apart : (n : ℕ) (ms : Members) → next ≤ n → ((j : ℕ) → i ≤ j → j < length numbers → get_or numbers j 0 ≡ n → ⊥) → IsObject text tape n ms → repeats (meanings ms) ≡ false

  module _ (suspects numbers : List ℕ) (are : AreSuspects text tape suspects) (moved : IsPermutation suspects numbers) where
    not_suspected : (n : ℕ) → ((j : ℕ) → 0 ≤ j → j < length numbers → get_or numbers j 0 ≡ n → ⊥) → Contains suspects n → ⊥
    not_suspected n none c = let (j, l, e) = Contains-permutation suspects numbers n moved c in none j (omega arith) l (get_or_default numbers j 0 n l ∙ e)

    -- at first, these are all
    pub left_all : AreLeft numbers 0 0
    left_all = record { narrow = λ n h none. are.narrow n (not_suspected n none); apart = λ n ms h none. are.apart n ms (not_suspected n none) }

  module _ (numbers : List ℕ) (i next : ℕ) (left : AreLeft numbers i next) where
    here_or_later : (n : ℕ) → (get_or numbers i 0 ≡ n → ⊥) → ((j : ℕ) → i + 1 ≤ j → j < length numbers → get_or numbers j 0 ≡ n → ⊥) → (j : ℕ) → i ≤ j → j < length numbers → get_or numbers j 0 ≡ n → ⊥
    here_or_later n not_here none j h l e = grind arith

    -- without one that was looked at
    pub left_behind : next ≤ get_or numbers i 0 → AreLeft numbers (i + 1) (get_or numbers i 0 + 1)
    left_behind ahead = record {
      narrow = λ n h none. left.narrow n (omega arith) (here_or_later n (λ e. omega arith) none);
      apart = λ n ms h none. left.apart n ms (omega arith) (here_or_later n (λ e. omega arith) none);
    }

    -- without one that is passed
    pub left_over : IsJson text → StandsForAll text tape → (next ≤ get_or numbers i 0 → members_in (entry_in tape (get_or numbers i 0)) ≤ 1) → AreLeft numbers (i + 1) next
    left_over json stands few = record {
      narrow = λ n h none w. left.narrow n h (here_or_later n (λ e. not_wide_by tape n (members_in (entry_in tape n)) refl (let f = few_at n h e in omega arith) w) none) w;
      apart = λ n ms h none o. elim (cases_lt 1 (members_in (entry_in tape n))) [
        | inl g ↦ left.apart n ms h (here_or_later n (λ e. let f = few_at n h e in omega arith) none) o
        | inr g ↦ too_few text tape json stands n nothing_there (few_members (entry_in tape n) (members_in (entry_in tape n)) refl g) ms o
      ];
    } where
      few_at : (n : ℕ) → next ≤ n → get_or numbers i 0 ≡ n → members_in (entry_in tape n) ≤ 1
      few_at n h e = subst (λ m. next ≤ m → members_in (entry_in tape m) ≤ 1) e few h

    module _ (to : ℕ) (ahead : next ≤ to) (later : (j : ℕ) → i ≤ j → j < length numbers → to ≤ get_or numbers j 0) where
      below : (n : ℕ) → n < to → (j : ℕ) → i ≤ j → j < length numbers → get_or numbers j 0 ≡ n → ⊥
      below n h j k l e = let f = later j k l in omega arith

      -- none of the objects before the next number of these has a name that comes again
      pub none_on : NoneBelow text tape next → NoneBelow text tape to
      none_on before n ms l o = elim (cases_lt n next) [ inl g ↦ before n ms g o | inr g ↦ left.apart n ms g (below n l) o ]

      -- and none of them keeps the order of its members
      pub kept_on : (kept : Kept) → AreKept text tape next kept → AreKept text tape to kept
      kept_on kept k = grind (arith, below)

-- what is sorted rises
pub later_is_more : (numbers : List ℕ) → IsSorted nat_cmp numbers → (i j : ℕ) → i ≤ j → j < length numbers → get_or numbers i 0 ≤ get_or numbers j 0
later_is_more numbers sorted i j h l = IsNonDecreasingBy-from_sort (λ n. n) numbers sorted i j 0 h l
