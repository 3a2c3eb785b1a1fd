-- What the names of an object mean, and whether one of them comes again.
use Rattle.std.specs.Prelude.{ℕ, Bool, false, ◌||◌, List, [], ◌∷◌, nat_eq}
use Rattle.std.specs.List.{list_any}
use Rattle.std.specs.Cmp.Lexicographic.{pointwise}
use Rattle.json_text.specs.Tree.{Source, Tree, Obj, Members, NoMember, Member}
use Rattle.json_text.specs.Meaning.{meaning}
use Rattle.json_text.specs.Grammar.{IsText}
use Rattle.json_text.specs.Tape.{Label, Top, Stands, IsAt}
use Rattle.json_text.specs.declared.tape.Entry.{Entry}

-- what the names mean, in order
abbrev pub meanings : Members → List (List ℕ)
meanings NoMember = []
meanings (Member n t ms) = meaning n.characters ∷ meanings ms

abbrev pub is_same : List ℕ → List ℕ → Bool
is_same x y = pointwise nat_eq x y

-- one of them is the same as one after it
abbrev pub repeats_by : {K : Type 0} → (K → K → Bool) → List K → Bool
repeats_by same [] = false
repeats_by same (x ∷ xs) = list_any (λ y. same y x) xs || repeats_by same xs

abbrev pub begins_by : {K : Type 0} → (K → K → Bool) → K → List K → Bool
begins_by same x [] = false
begins_by same x (y ∷ ys) = same x y

-- one of them is the same as the next one
abbrev pub repeats_next_by : {K : Type 0} → (K → K → Bool) → List K → Bool
repeats_next_by same [] = false
repeats_next_by same (x ∷ xs) = begins_by same x xs || repeats_next_by same xs

abbrev pub repeats : List (List ℕ) → Bool
repeats xs = repeats_by is_same xs

abbrev pub hashes_repeat : List ℕ → Bool
hashes_repeat xs = repeats_by nat_eq xs

-- the entry with the number n is that of an object with these members
pub record IsObject (text : List ℕ) (tape : List Entry) (n : ℕ) (ms : Members) : Type 0 where
  pub tree : Tree
  pub source : Source
  pub up : ℕ
  pub label : Label
  pub is_text : IsText text tree
  pub stands : Stands tape tree
  pub is_at : IsAt tree 0 Top 0 n up label (Obj source ms)
