-- Truths that are kept: one is read, one is kept, and there is room for more.
use Rattle.std.proofs.Common.{◌≡◌, ℕ, zero, suc, ◌+◌, ◌<◌, Bool, List, [], ◌∷◌, ◌++◌, length, get_or, slice_set, Option, Some, None, subst, arith}
use Rattle.std.specs.declared.alloc.Global.{Global}
use Rattle.std.specs.declared.vec.Vec.{Vec}
use Rattle.json_tape.specs.Document.{Doc}
use Rattle.tape_select.specs.Memo.{EachFrom, IsTruth, IsTruthKept, AreTruths, IsRow, AreRows}
use Rattle.query_plan.specs.Planned.{Claimed, Claims, look}

-- ---- Lists whose elements have numbers

module _ {X : Type 0} (P : ℕ → X → Type 0) where
  from_at : (k : ℕ) (xs : List X) (i : ℕ) (z : X) → i < length xs → EachFrom P k xs → P (k + i) (get_or xs i z)
  from_at k [] i z lt r = absurd (omega arith)
  from_at k (x ∷ xs) zero z lt r = let e : k + 0 ≡ k = omega arith in rw e r.0
  from_at k (x ∷ xs) (suc i) z lt r = let e : k + suc i ≡ suc k + i = omega arith in rw e (from_at (suc k) xs i z (omega arith) r.1)

  each_at : (xs : List X) (i : ℕ) (z : X) → i < length xs → EachFrom P 0 xs → P i (get_or xs i z)
  each_at xs i z lt r = let e : 0 + i ≡ i = omega arith in subst (λ j. P j (get_or xs i z)) e (from_at 0 xs i z lt r)

  from_set : (k : ℕ) (xs : List X) (i : ℕ) (x : X) → EachFrom P k xs → P (k + i) x → EachFrom P k (slice_set xs i x)
  from_set k [] i x r h = tt
  from_set k (y ∷ xs) zero x r h = let e : k + 0 ≡ k = omega arith in (rw e at h, r.1)
  from_set k (y ∷ xs) (suc i) x r h = let e : k + suc i ≡ suc k + i = omega arith in (r.0, from_set (suc k) xs i x r.1 (rw e at h))

  each_set : (xs : List X) (i : ℕ) (x : X) → EachFrom P 0 xs → P i x → EachFrom P 0 (slice_set xs i x)
  each_set xs i x r h = let e : 0 + i ≡ i = omega arith in from_set 0 xs i x r (rw e h)

  each_push : (k : ℕ) (xs : List X) (x : X) → ((i : ℕ) → P i x) → EachFrom P k xs → EachFrom P k (xs ++ x ∷ [])
  each_push k [] x h r = (h k, tt)
  each_push k (y ∷ xs) x h r = (r.0, each_push (suc k) xs x h r.1)

-- ---- A row

pub truth_at : (d : Doc) (c : Option Claimed) (xs : List (Option Bool)) (i : ℕ) (z : Option Bool) → i < length xs → AreTruths d c xs → IsTruthKept d c i (get_or xs i z)
truth_at d c xs i z lt r = each_at (IsTruthKept d c) xs i z lt r

pub truth_set : (d : Doc) (c : Option Claimed) (xs : List (Option Bool)) (i : ℕ) (held : Bool) → AreTruths d c xs → IsTruth d c i held → AreTruths d c (slice_set xs i (Some held))
truth_set d c xs i held r h = each_set (IsTruthKept d c) xs i (Some held) r h

pub truth_push : (d : Doc) (c : Option Claimed) (xs : List (Option Bool)) → AreTruths d c xs → AreTruths d c (xs ++ None ∷ [])
truth_push d c xs r = each_push (IsTruthKept d c) 0 xs None (λ i. tt) r

pub ruleset truths = (truth_at, truth_set, truth_push)

-- ---- All rows

pub row_at : (d : Doc) (table : Claims) (rows : List (Vec (Option Bool) Global)) (slot : ℕ) (z : Vec (Option Bool) Global) → slot < length rows → AreRows d table rows → AreTruths d (look table slot) (get_or rows slot z).items
row_at d table rows slot z lt r = each_at (IsRow d table) rows slot z lt r

pub row_set : (d : Doc) (table : Claims) (rows : List (Vec (Option Bool) Global)) (slot : ℕ) (row : Vec (Option Bool) Global) → AreRows d table rows → AreTruths d (look table slot) row.items → AreRows d table (slice_set rows slot row)
row_set d table rows slot row r h = each_set (IsRow d table) rows slot row r h

pub row_push : (d : Doc) (table : Claims) (rows : List (Vec (Option Bool) Global)) (row : Vec (Option Bool) Global) → row.items ≡ [] → AreRows d table rows → AreRows d table (rows ++ row ∷ [])
row_push d table rows row e r = each_push (IsRow d table) 0 rows row (λ i. rw e tt) r

pub ruleset rows = (row_at, row_set, row_push)
