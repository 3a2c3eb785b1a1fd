-- A query that passes texts one after the other: where it is, and what that comes to.
use Rattle.std.proofs.Common.{◌≡◌, ◌≤◌, ◌<◌, ◌+◌, ◌-◌, ℕ, zero, suc, List, [], ◌∷◌, ◌++◌, length, take, drop, Bool, true, false, cond, nat_lt, Option, Some, None, inl, inr, refl, sym, ap, ◌∙◌, subst, arith, length-append, length-drop, length-take, append_assoc}
use Rattle.std.proofs.lemmas.Bool.{cases_lt}
use Rattle.std.proofs.lemmas.Grind.{flat_map-append}
use Rattle.std.proofs.lemmas.List.{append-nil, drop-append-le, drop-drop, take-take}
use Rattle.std.proofs.lemmas.List.Sums.{sum_by-append, sum_by-cons}
use Rattle.std.proofs.Math.Seq.{drop-append_seam}
use Rattle.std.specs.Prelude.{MatchOption}
use Rattle.std.specs.declared.vec.Vec.{Vec}
use Rattle.std.specs.declared.alloc.Global.{Global}
use Rattle.json_tape.specs.Document.{Doc, tree_of}
use Rattle.path_grammar.specs.Tree.{Segments}
use Rattle.tape_select.specs.Budget.{budget}
use Rattle.tape_select.specs.Charge.{total_of, charge}
use Rattle.store_names.specs.Lengths.{payload_limit}
use Rattle.tenant_map.specs.Kept.{AreKept, texts}
use Rattle.tenant_map.specs.Listings.{number}
use Rattle.tenant_map.specs.declared.faults.StoreFault.{StoreFault}
use Rattle.tenant_map.specs.declared.faults.StoreFault.TheVariants as faults
use Rattle.tenant_store.specs.declared.walk.Reached.{Reached}
use Rattle.tenant_store.specs.declared.tasks.QueryTask.{QueryTask}
use Rattle.tenant_store.specs.Hits.{Hit, hits}
use Rattle.tenant_store.specs.Payloads.{Text, hit_bytes, hits_bytes, found_in, found_bytes, hit_count, payload, query_fault, IsFault, AnswersQuery, RefusesQuery}
use Rattle.tenant_store.specs.TextsRead.{text_read, texts_read}
use Rattle.tenant_store.specs.Steps.{Adds, AreSizes, FailsAt}
use Rattle.query_machine.specs.Evaluators.{query_in}
use Rattle.query_machine.specs.declared.evaluator.Evaluator.{Evaluator}
use Rattle.tenant_store.specs.declared.tasks.Progress.{Progress}
use Rattle.tenant_store.specs.declared.tasks.Progress.TheVariants.{Complete}
use Rattle.tenant_store.specs.Walks.{Charges, HasSpent, IsAt, IsOnWay, IsReady, IsStep, Passes, cut_in, documents_left, last_of, left_by}
use Rattle.tenant_store.proofs.Single.{OneTree, texts_once}
use Rattle.tenant_store.proofs.Walking.{all_read, length-hit, lt_false, lt_true, fault_over, fault_large, fault_next, no_fault_left}
use Rattle.tenant_store.proofs.FourBytes.{length-number}

-- ---- Texts that show no fault

first_within : (q : Segments) (spent size : ℕ) (t : Text) (ts : List Text) → query_fault q spent size (t ∷ ts) ≡ None → (spent + charge t.tree q ≤ budget) × (size + length (found_in q t) ≤ payload_limit)
first_within q spent size t ts h =
    elim (cases_lt budget (spent + charge t.tree q)) [
      | inl o ↦ let e : Some faults.Costly ≡ None = sym (fault_over q spent size t ts o) ∙ h in absurd cc
      | inr c ↦ elim (cases_lt payload_limit (size + length (found_in q t))) [
        | inl o ↦ let e : Some faults.ReplyTooLarge ≡ None = sym (fault_large q spent size t ts c o) ∙ h in absurd cc
        | inr l ↦ (c, l)
      ]
    ]

-- behind them the fault is that of the others
fault_behind : (q : Segments) (spent size : ℕ) (ts rest : List Text) → query_fault q spent size ts ≡ None
    → query_fault q spent size (ts ++ rest) ≡ query_fault q (spent + total_of (λ t. charge t.tree q) ts) (size + length (found_bytes q ts)) rest
fault_behind q spent size [] rest h =
    let a : spent ≡ spent + 0 = omega arith in
    let b : size ≡ size + 0 = omega arith in
    ap (λ k. query_fault q k size rest) a ∙ ap (λ k. query_fault q (spent + 0) k rest) b
fault_behind q spent size (t ∷ ts) rest h =
    let w = first_within q spent size t ts h in
    let charges = total_of (λ (u : Text). charge u.tree q) ts in
    let a : spent + charge t.tree q + charges ≡ spent + (charge t.tree q + charges) = omega arith in
    let b : size + length (found_in q t) + length (found_bytes q ts) ≡ size + length (found_bytes q (t ∷ ts)) = omega (arith, length-append (found_in q t) (found_bytes q ts)) in
    fault_next q spent size t (ts ++ rest) w.0 w.1
    ∙ fault_behind q (spent + charge t.tree q) (size + length (found_in q t)) ts rest (sym (fault_next q spent size t ts w.0 w.1) ∙ h)
    ∙ ap (λ k. query_fault q k (size + length (found_in q t) + length (found_bytes q ts)) rest) a
    ∙ ap (λ k. query_fault q (spent + (charge t.tree q + charges)) k rest) b

within_limit : (q : Segments) (spent size : ℕ) (ts : List Text) → query_fault q spent size ts ≡ None → size ≤ payload_limit → size + length (found_bytes q ts) ≤ payload_limit
within_limit q spent size [] h l = omega (arith, l)
within_limit q spent size (t ∷ ts) h l =
    let w = first_within q spent size t ts h in
    let others = within_limit q (spent + charge t.tree q) (size + length (found_in q t)) ts (sym (fault_next q spent size t ts w.0 w.1) ∙ h) w.1 in
    omega (arith, others, length-append (found_in q t) (found_bytes q ts))

-- ---- Counts and bytes

hits_long : (name : List ℕ) (hs : List Hit) → length hs ≤ length (hits_bytes name hs)
hits_long name [] = omega arith
hits_long name (h ∷ hs) = omega (arith, hits_long name hs, length-append (hit_bytes name h) (hits_bytes name hs), length-hit [] name h)

count_long : (q : Segments) (ts : List Text) → hit_count q ts ≤ length (found_bytes q ts)
count_long q [] = omega arith
count_long q (t ∷ ts) = omega (arith, count_long q ts, hits_long t.name (hits t.tree q), length-append (found_in q t) (found_bytes q ts), sum_by-cons (λ (u : Text). length (hits u.tree q)) t ts)

total_one : (q : Segments) (ts : List Text) (t : Text) → total_of (λ u. charge u.tree q) (ts ++ t ∷ []) ≡ total_of (λ u. charge u.tree q) ts + charge t.tree q
total_one q [] t = omega arith
total_one q (u ∷ ts) t = omega (arith, total_one q ts t)

count_one : (q : Segments) (ts : List Text) (t : Text) → hit_count q (ts ++ t ∷ []) ≡ hit_count q ts + length (hits t.tree q)
count_one q ts t = omega (arith, sum_by-append (λ (u : Text). length (hits u.tree q)) ts (t ∷ []), sum_by-cons (λ (u : Text). length (hits u.tree q)) t [])

found_one : (q : Segments) (ts : List Text) (t : Text) → found_bytes q (ts ++ t ∷ []) ≡ found_bytes q ts ++ found_in q t
found_one q ts t = flat_map-append (found_in q) ts (t ∷ []) ∙ ap (λ x. found_bytes q ts ++ x) (append-nil (found_in q t))

length-head : (x : List ℕ) → length (number 0 ++ x) ≡ 4 + length x
length-head x = length-append (number 0) x ∙ ap (λ k. k + length x) (length-number 0)

-- ---- Where a query is

pub sizes : (q : Segments) (texts rest : List Text) (place : Reached) (start : ℕ) (out : List ℕ) → Passes q texts rest place.units place.hits (drop start out) → start ≤ length out → AreSizes place start (length out)
sizes q texts rest place start out p s =
    let n : length (drop start out) ≡ 4 + length (found_bytes q p.passed) = ap (λ (x : List ℕ). length x) p.bytes ∙ length-head (found_bytes q p.passed) in
    let d : length (drop start out) ≡ length out - start = length-drop start out in
    let few = count_long q p.passed in
    let short = within_limit q 0 4 p.passed p.no_fault (omega arith) in
    record {
      budgeted = omega (arith, p.spent);
      long = omega (arith, n, d, s);
      few = omega (arith, n, d, s, few, p.counted);
      within = omega (arith, n, d, s, short);
    }

pub begins : (q : Segments) (texts : List Text) → Passes q texts texts budget 0 (number 0)
begins q texts = record {
  passed = [];
  all = refl;
  no_fault = no_fault_left q 0 4;
  spent = omega arith;
  counted = refl;
  bytes = sym (append-nil (number 0));
}

pub adds : (q : Segments) (texts rest : List Text) (t : Text) (place next : Reached) (start : ℕ) (before after : List ℕ) → Passes q texts (t ∷ rest) place.units place.hits (drop start before)
    → Adds q t place next before after → start ≤ length before → length after ≤ start + payload_limit → Passes q texts rest next.units next.hits (drop start after)
adds q texts rest t place next start before after p a s l =
    let b : length (drop start before) ≡ 4 + length (found_bytes q p.passed) = ap (λ (x : List ℕ). length x) p.bytes ∙ length-head (found_bytes q p.passed) in
    let d : length after ≡ length before + length (found_in q t) = ap (λ (x : List ℕ). length x) a.appended ∙ length-append before (found_in q t) in
    let due : 0 + total_of (λ (u : Text). charge u.tree q) p.passed + charge t.tree q ≤ budget = omega (arith, p.spent, a.spent) in
    let size : 4 + length (found_bytes q p.passed) + length (found_in q t) ≤ payload_limit = omega (arith, b, d, length-drop start before) in
    record {
      passed = p.passed ++ t ∷ [];
      all = p.all ∙ sym (append_assoc p.passed (t ∷ []) rest);
      no_fault = fault_behind q 0 4 p.passed (t ∷ []) p.no_fault ∙ fault_next q _ _ t [] due size ∙ no_fault_left q _ _;
      spent = omega (arith, p.spent, a.spent, total_one q p.passed t);
      counted = omega (arith, p.counted, a.counted, count_one q p.passed t);
      bytes = ap (λ (x : List ℕ). drop start x) a.appended ∙ drop-append-le start before (found_in q t) s ∙ ap (λ (x : List ℕ). x ++ found_in q t) p.bytes
          ∙ append_assoc (number 0) (found_bytes q p.passed) (found_in q t) ∙ ap (λ (x : List ℕ). number 0 ++ x) (sym (found_one q p.passed t));
    }

pub fails : (q : Segments) (texts rest : List Text) (t : Text) (units count start : ℕ) (before : List ℕ) (f : StoreFault) → Passes q texts (t ∷ rest) units count (drop start before)
    → start ≤ length before → FailsAt q t units start before f → IsFault (query_fault q 0 4 texts) f
fails q texts rest t units count start before faults.Costly p s h =
    let due : budget < 0 + total_of (λ (u : Text). charge u.tree q) p.passed + charge t.tree q = omega (arith, p.spent, h) in
    ap (λ ts. query_fault q 0 4 ts) p.all ∙ fault_behind q 0 4 p.passed (t ∷ rest) p.no_fault ∙ fault_over q _ _ t rest due
fails q texts rest t units count start before faults.ReplyTooLarge p s h =
    let b : length (drop start before) ≡ 4 + length (found_bytes q p.passed) = ap (λ (x : List ℕ). length x) p.bytes ∙ length-head (found_bytes q p.passed) in
    let due : 0 + total_of (λ (u : Text). charge u.tree q) p.passed + charge t.tree q ≤ budget = omega (arith, p.spent, h.0) in
    let size : payload_limit < 4 + length (found_bytes q p.passed) + length (found_in q t) = omega (arith, b, h.1, length-append before (found_in q t), length-drop start before) in
    ap (λ ts. query_fault q 0 4 ts) p.all ∙ fault_behind q 0 4 p.passed (t ∷ rest) p.no_fault ∙ fault_large q _ _ t rest due size
fails q texts rest t units count start before faults.NoMemory p s h = tt
fails q texts rest t units count start before _ p s h = absurd h

-- ---- A query that has no text left

none_left : (rest : List Text) (n : ℕ) → length rest ≡ n → n ≡ 0 → rest ≡ []
none_left [] n e z = refl
none_left (t ∷ ts) n e z = absurd (omega (arith, e, z))

all_passed : (q : Segments) (texts : List Text) (place : Reached) (written : List ℕ) (at : IsAt q texts place written) → place.documents ≡ 0 → texts ≡ at.passes.passed
all_passed q texts place written at z = at.passes.all ∙ ap (λ ts. at.passes.passed ++ ts) (none_left at.rest place.documents at.left z) ∙ append-nil at.passes.passed

pub answers_at : (q : Segments) (es : List (Vec ℕ Global × Doc)) (place : Reached) (written old new : List ℕ) → AreKept es → IsAt q (texts_read es) place written → place.documents ≡ 0
    → new ≡ old ++ (number place.hits ++ drop 4 written) → AnswersQuery q (texts es) old new
answers_at q es place written old new k at z w =
    let p = at.passes in
    let all = all_passed q (texts_read es) place written at z in
    let behind : drop 4 written ≡ found_bytes q p.passed = ap (λ (x : List ℕ). drop 4 x) p.bytes ∙ ap (λ k. drop k (number 0 ++ found_bytes q p.passed)) (sym (length-number 0)) ∙ drop-append_seam (number 0) (found_bytes q p.passed) in
    let bytes : number place.hits ++ drop 4 written ≡ payload q (texts_read es) =
    ap (λ (x : List ℕ). number place.hits ++ x) behind ∙ ap (λ k. number k ++ found_bytes q p.passed) p.counted ∙ sym (ap (λ ts. number (hit_count q ts) ++ found_bytes q ts) all) in
    record {
      texts = texts_read es;
      read = all_read es k;
      no_fault = ap (λ ts. query_fault q 0 4 ts) all ∙ p.no_fault;
      appended = w ∙ ap (λ (x : List ℕ). old ++ x) bytes;
    }

pub charges_at : (q : Segments) (es : List (Vec ℕ Global × Doc)) (place : Reached) (written : List ℕ) (units : ℕ) → AreKept es → IsAt q (texts_read es) place written → place.documents ≡ 0
    → units ≡ budget - place.units → Charges q (texts es) units
charges_at q es place written units k at z u =
    let all = all_passed q (texts_read es) place written at z in
    record {
      texts = texts_read es;
      read = all_read es k;
      sum = omega (arith, u, at.passes.spent, ap (λ ts. total_of (λ (t : Text). charge t.tree q) ts) all);
    }

-- the number is written over the four zeros
pub written_over : (old out new count : List ℕ) → take (length old) out ≡ old → new ≡ take (length old) out ++ (count ++ drop (length old + 4) out) → new ≡ old ++ (count ++ drop 4 (drop (length old) out))
written_over old out new count t w = w ∙ ap (λ (x : List ℕ). x ++ (count ++ drop (length old + 4) out)) t ∙ ap (λ (x : List ℕ). old ++ (count ++ x)) (sym (drop-drop 4 (length old) out))

-- ---- A query that pauses

pub on_way : (q : Segments) (es : List (Vec ℕ Global × Doc)) (place : Reached) (written : List ℕ) (e : Evaluator) (task : QueryTask) → AreKept es → IsAt q (texts_read es) place written → 1 ≤ place.documents → query_in e ≡ q
    → IsReady (last_of place.documents (texts es)) place.units e → task.evaluator ≡ e → task.place ≡ place → task.payload.items ≡ written → IsOnWay q (texts es) task
on_way q es place written e task k at s query ready v p w = record {
  texts = texts_read es;
  read = all_read es k;
  at = subst (λ x. IsAt q (texts_read es) task.place x) (sym w) (subst (λ x. IsAt q (texts_read es) x written) (sym p) at);
  some = subst (λ x. 1 ≤ x.documents) (sym p) s;
  query = ap query_in v ∙ query;
  ready = subst (λ x. IsReady (last_of x.documents (texts es)) x.units task.evaluator) (sym p) (subst (λ x. IsReady (last_of place.documents (texts es)) place.units x) (sym v) ready);
}

pub on_read : OneTree → (q : Segments) (es : List (Vec ℕ Global × Doc)) (task : QueryTask) → AreKept es → IsOnWay q (texts es) task → IsAt q (texts_read es) task.place task.payload.items
on_read one q es task k w = subst (λ ts. IsAt q ts task.place task.payload.items) (texts_once one (texts es) w.texts (texts_read es) w.read (all_read es k)) w.at

pub step_read : (q : Segments) (es : List (Vec ℕ Global × Doc)) (units documents begun left : ℕ) (to : Progress) → AreKept es
    → documents_left to ≡ length (left_by q (units + begun) (last_of documents (texts_read es))) + cut_in to → HasSpent units left to → IsStep q (texts es) units documents begun left to
step_read q es units documents begun left to k l s = record { texts = texts_read es; read = all_read es k; passed = l; spent = s }

pub step_of_none : (q : Segments) (units documents begun left charge : ℕ) → IsStep q [] units documents begun left (Complete charge)
unfolding left_by
step_of_none q units documents begun left charge =
    record { texts = []; read = tt; passed = sym (ap (λ ts. length (left_by q (units + begun) ts) + 0) (drop_none (0 - documents))); spent = tt }
  where
    drop_none : (n : ℕ) → drop {A = Text} n [] ≡ []
    drop_none zero = refl
    drop_none (suc n) = refl

pub refuses_read : (q : Segments) (es : List (Vec ℕ Global × Doc)) (f : StoreFault) → AreKept es → IsFault (query_fault q 0 4 (texts_read es)) f → RefusesQuery q (texts es) f
refuses_read q es f k h = record { texts = texts_read es; read = all_read es k; first = h }

pub refuses_memory : (q : Segments) (es : List (Vec ℕ Global × Doc)) (f : StoreFault) → AreKept es → f ≡ faults.NoMemory → RefusesQuery q (texts es) f
refuses_memory q es f k e = refuses_read q es f k (subst (λ g. IsFault (query_fault q 0 4 (texts_read es)) g) (sym e) tt)

-- ---- The documents that are left

pub length-read : (es : List (Vec ℕ Global × Doc)) → length (texts_read es) ≡ length es
length-read [] = refl
length-read (e ∷ es) = ap suc (length-read es)

pub length-texts : (es : List (Vec ℕ Global × Doc)) → length (texts es) ≡ length es
length-texts [] = refl
length-texts (e ∷ es) = ap suc (length-texts es)

drop-read : (k : ℕ) (es : List (Vec ℕ Global × Doc)) → texts_read (drop k es) ≡ drop k (texts_read es)
drop-read zero es = refl
drop-read (suc k) [] = refl
drop-read (suc k) (e ∷ es) = drop-read k es

kept_behind : (k : ℕ) (es : List (Vec ℕ Global × Doc)) → AreKept es → AreKept (drop k es)
kept_behind zero es a = a
kept_behind (suc k) [] a = tt
kept_behind (suc k) (e ∷ es) a = kept_behind k es a.1

pub kept_last : (n : ℕ) (es last : List (Vec ℕ Global × Doc)) → last ≡ last_of n es → AreKept es → AreKept last
kept_last n es last l a = subst AreKept (sym l) (kept_behind (length es - n) es a)

pub length-last : (n : ℕ) (es last : List (Vec ℕ Global × Doc)) → last ≡ last_of n es → n ≤ length es → length last ≡ n
length-last n es last l f = omega (arith, ap (λ (ds : List (Vec ℕ Global × Doc)). length ds) l, length-drop (length es - n) es, f)

pub last_read : (n : ℕ) (es last : List (Vec ℕ Global × Doc)) → last ≡ last_of n es → texts_read last ≡ last_of n (texts_read es)
last_read n es last l = ap (λ ds. texts_read ds) l ∙ drop-read (length es - n) es ∙ ap (λ k. drop (k - n) (texts_read es)) (sym (length-read es))

drop-texts : (k : ℕ) (es : List (Vec ℕ Global × Doc)) → texts (drop k es) ≡ drop k (texts es)
drop-texts zero es = refl
drop-texts (suc k) [] = refl
drop-texts (suc k) (e ∷ es) = drop-texts k es

pub last_texts : (n : ℕ) (es last : List (Vec ℕ Global × Doc)) → last ≡ last_of n es → texts last ≡ last_of n (texts es)
last_texts n es last l = ap (λ ds. texts ds) l ∙ drop-texts (length es - n) es ∙ ap (λ k. drop (k - n) (texts es)) (sym (length-texts es))

pub last_all : (n : ℕ) (ts : List Text) → n ≡ length ts → last_of n ts ≡ ts
last_all n ts e = let z : length ts - n ≡ 0 = omega (arith, e) in ap (λ k. drop k ts) z

pub step_begun : (q : Segments) (es : List (Vec ℕ Global × Doc)) (units : ℕ) (to : Progress) → AreKept es → documents_left to ≡ length (left_by q units (texts_read es)) + cut_in to → HasSpent units budget to
    → IsStep q (texts es) units (length (texts es)) 0 budget to
step_begun q es units to k l s =
    let all = last_all (length (texts es)) (texts_read es) (length-texts es ∙ sym (length-read es)) in
    let same : units ≡ units + 0 = omega arith in
    step_read q es units (length (texts es)) 0 budget to k (l ∙ ap (λ us. length (left_by q units us) + cut_in to) (sym all) ∙ ap (λ n. length (left_by q n (last_of (length (texts es)) (texts_read es))) + cut_in to) same) s

pub few_left : (q : Segments) (es : List (Vec ℕ Global × Doc)) (place : Reached) (written : List ℕ) → IsAt q (texts_read es) place written → place.documents ≤ length es
few_left q es place written at =
    let n : length (texts_read es) ≡ length at.passes.passed + length at.rest = ap (λ (ts : List Text). length ts) at.passes.all ∙ length-append at.passes.passed at.rest in
    omega (arith, n, at.left, length-read es)

pub goes_on : (q : Segments) (es last : List (Vec ℕ Global × Doc)) (place : Reached) (written : List ℕ) → last ≡ last_of place.documents es → IsAt q (texts_read es) place written
    → Passes q (texts_read es) (texts_read last) place.units place.hits written
goes_on q es last place written l at =
    let p = at.passes in
    let n : length (texts_read es) ≡ length p.passed + length at.rest = ap (λ (ts : List Text). length ts) p.all ∙ length-append p.passed at.rest in
    let k : length p.passed ≡ length (texts_read es) - place.documents = omega (arith, n, at.left) in
    let e : at.rest ≡ texts_read last = sym (drop-append_seam p.passed at.rest) ∙ sym (ap (λ ts. drop (length p.passed) ts) p.all) ∙ ap (λ i. drop i (texts_read es)) k ∙ sym (last_read place.documents es last l) in
    subst (λ r. Passes q (texts_read es) r place.units place.hits written) e p

pub at_last : (q : Segments) (es last : List (Vec ℕ Global × Doc)) (place : Reached) (written : List ℕ) → place.documents ≡ length last → Passes q (texts_read es) (texts_read last) place.units place.hits written
    → IsAt q (texts_read es) place written
at_last q es last place written n p = record { rest = texts_read last; left = length-read last ∙ sym n; passes = p }

pub begins_at : (q : Segments) (es : List (Vec ℕ Global × Doc)) (place : Reached) (start : ℕ) (old out zeros : List ℕ) → start ≡ length old → out ≡ old ++ zeros → zeros ≡ number 0
    → place.documents ≡ length es → place.units ≡ budget → place.hits ≡ 0 → IsAt q (texts_read es) place (drop start out)
begins_at q es place start old out zeros s o z d u h =
    let w : drop start out ≡ number 0 = ap (λ k. drop k out) s ∙ ap (λ (x : List ℕ). drop (length old) x) o ∙ drop-append_seam old zeros ∙ z in
    let ts = texts_read es in
    record {
      rest = ts;
      left = length-read es ∙ sym d;
      passes = subst (λ x. Passes q ts ts place.units place.hits x) (sym w) (subst (λ k. Passes q ts ts k place.hits (number 0)) (sym u) (subst (λ k. Passes q ts ts budget k (number 0)) (sym h) (begins q ts)));
    }

-- ---- A turn of the loop over them

tail_drop : {X : Type 0} (i : ℕ) (xs t : List X) (x : X) → drop i xs ≡ x ∷ t → drop (suc i) xs ≡ t
tail_drop zero [] t x h = absurd (cc)
tail_drop zero (y ∷ ys) t x h = cc
tail_drop (suc i) [] t x h = absurd (cc)
tail_drop (suc i) (y ∷ ys) t x h = tail_drop i ys t x h

-- a call of an iterator's `next`, whatever it gave
pub next_left : {A X : Type 0} (shows : A → X) (i : ℕ) (xs s t : List X) (r : Option A) → s ≡ drop i xs → MatchOption r ((s ≡ []) × (t ≡ [])) (λ x. s ≡ shows x ∷ t) → t ≡ drop (i + 1) xs
next_left shows i xs s t None e h = let k : suc i ≡ i + 1 = omega arith in h.1 ∙ sym (none_drop i xs (sym e ∙ h.0)) ∙ ap (λ j. drop j xs) k
  where
    none_drop : {X : Type 0} (i : ℕ) (xs : List X) → drop i xs ≡ [] → drop (suc i) xs ≡ []
    none_drop zero [] h = refl
    none_drop zero (y ∷ ys) h = absurd (cc)
    none_drop (suc i) [] h = refl
    none_drop (suc i) (y ∷ ys) h = none_drop i ys h
next_left shows i xs s t (Some x) e h = let k : suc i ≡ i + 1 = omega arith in sym (tail_drop i xs t (shows x) (sym e ∙ h)) ∙ ap (λ j. drop j xs) k

-- what a step behind the first of the last ones has left
pub last_next : (n m : ℕ) (es it rest : List (Vec ℕ Global × Doc)) (e : Vec ℕ Global × Doc) → it ≡ last_of n es → n ≡ length it → it ≡ e ∷ rest → m + 1 ≡ n → rest ≡ last_of m es
last_next n m es it rest e l c i k =
    let len : length it ≡ length es - (length es - n) = ap (λ (ds : List (Vec ℕ Global × Doc)). length ds) l ∙ length-drop (length es - n) es in
    let next : suc (length es - n) ≡ length es - m = omega (arith, len, c, k) in
    sym (tail_drop (length es - n) es rest e (sym l ∙ i)) ∙ ap (λ j. drop j es) next

pub adds_next : (q : Segments) (es it rest : List (Vec ℕ Global × Doc)) (e : Vec ℕ Global × Doc) (name : List ℕ) (place next : Reached) (start : ℕ) (before after : List ℕ) → it ≡ e ∷ rest → name ≡ e.0.items
    → Passes q (texts_read es) (texts_read it) place.units place.hits (drop start before) → Adds q (text_read name e.1) place next before after → AreSizes place start (length before) → AreSizes next start (length after)
    → Passes q (texts_read es) (texts_read rest) next.units next.hits (drop start after)
adds_next q es it rest e name place next start before after i n p a s l =
    adds q (texts_read es) (texts_read rest) (text_read e.0.items e.1) place next start before after (subst (λ ds. Passes q (texts_read es) (texts_read ds) place.units place.hits (drop start before)) i p)
    (subst (λ k. Adds q (text_read k e.1) place next before after) n a) (omega (arith, s.long)) l.within

pub fails_next : (q : Segments) (es it rest : List (Vec ℕ Global × Doc)) (e : Vec ℕ Global × Doc) (name : List ℕ) (place : Reached) (start : ℕ) (before : List ℕ) (f : StoreFault) → it ≡ e ∷ rest → name ≡ e.0.items
    → Passes q (texts_read es) (texts_read it) place.units place.hits (drop start before) → AreSizes place start (length before) → FailsAt q (text_read name e.1) place.units start before f → IsFault (query_fault q 0 4 (texts_read es)) f
fails_next q es it rest e name place start before f i n p s h =
    fails q (texts_read es) (texts_read rest) (text_read e.0.items e.1) place.units place.hits start before f (subst (λ ds. Passes q (texts_read es) (texts_read ds) place.units place.hits (drop start before)) i p) (omega (arith, s.long))
    (subst (λ k. FailsAt q (text_read k e.1) place.units start before f) n h)

-- what stands in front of the payload
pub front_kept : (start : ℕ) (before after front : List ℕ) → start ≤ length before → take (length before) after ≡ before → take start before ≡ front → take start after ≡ front
front_kept start before after front s k f = sym (take-take start (length before) after s) ∙ ap (λ (x : List ℕ). take start x) k ∙ f

pub longer : (before after : List ℕ) → take (length before) after ≡ before → length before ≤ length after
longer before after k = omega (arith, ap (λ (x : List ℕ). length x) k, length-take (length before) after)

-- ---- What a step leaves

left_with : (q : Segments) (units : ℕ) (t : Text) (ts : List Text) (b : Bool) → nat_lt units (charge t.tree q) ≡ b → left_by q units (t ∷ ts) ≡ cond b ts (left_by q (units - charge t.tree q) ts)
unfolding left_by
left_with q units t ts b h = ap (λ a. cond a ts (left_by q (units - charge t.tree q) ts)) h

pub step_ends : (q : Segments) (it rest : List (Vec ℕ Global × Doc)) (e : Vec ℕ Global × Doc) (more spent : ℕ) (all : List Text) → it ≡ e ∷ rest → spent ≡ charge (tree_of e.1) q → left_by q more (texts_read it) ≡ all
    → more < spent → texts_read rest ≡ all
step_ends q it rest e more spent all i c l s =
    sym (left_with q more (text_read e.0.items e.1) (texts_read rest) true (lt_true _ _ (omega (arith, c, s)))) ∙ ap (λ ds. left_by q more (texts_read ds)) (sym i) ∙ l

pub step_goes : (q : Segments) (it rest : List (Vec ℕ Global × Doc)) (e : Vec ℕ Global × Doc) (more spent : ℕ) (all : List Text) → it ≡ e ∷ rest → spent ≡ charge (tree_of e.1) q → left_by q more (texts_read it) ≡ all
    → spent ≤ more → left_by q (more - spent) (texts_read rest) ≡ all
step_goes q it rest e more spent all i c l s =
    ap (λ k. left_by q (more - k) (texts_read rest)) c ∙ sym (left_with q more (text_read e.0.items e.1) (texts_read rest) false (lt_false _ _ (omega (arith, c, s)))) ∙ ap (λ ds. left_by q more (texts_read ds)) (sym i) ∙ l

pub step_none : (q : Segments) (it : List (Vec ℕ Global × Doc)) (more : ℕ) (all : List Text) → it ≡ [] → left_by q more (texts_read it) ≡ all → all ≡ []
unfolding left_by
step_none q it more all i l = sym l ∙ ap (λ ds. left_by q more (texts_read ds)) i
