-- Items one behind the other, read in a loop.
use Rattle.std.proofs.Common.{◌≡◌, ◌≢◌, ◌==◌, false, ℕ, zero, suc, ◌+◌, ◌-◌, ◌<◌, ◌^◌, List, [], ◌∷◌, ◌++◌, length, Option, Some, None, sym, ap, ◌∙◌, subst, refl, arith, length-append, append_assoc, append-nil}
use Rattle.std.specs.Prelude.{option_and_then, flat_map}
use Rattle.std.specs.List.{All, AllByRecursion}
use Rattle.std.proofs.lemmas.List.Elements.{recursion_from_All, All-nil, All-push}
use Rattle.tenant_map.specs.Listings.{number}
use Rattle.client_frames.specs.Readings.{items_at, behind, number_at}
use Rattle.client_frames.proofs.Back.{number_back}

-- the items read are the first, and what is left is read as what came is
pub record HasRead {A : Type 0} (item : List ℕ → Option (A × List ℕ)) (written : A → List ℕ) (Good : A → Type 0) (start : List ℕ) (count left : ℕ) (read : List A) (rest : List ℕ) : Type 0 where
  pub total : length read + left ≡ count
  pub whole : start ≡ flat_map written read ++ rest
  pub good : All Good read
  pub same : behind read (items_at item left rest) ≡ items_at item count start

behind_nothing : {A : Type 0} (o : Option (List A × List ℕ)) → behind [] o ≡ o
behind_nothing None = refl
behind_nothing (Some l) = refl

pub read_none : {A : Type 0} (item : List ℕ → Option (A × List ℕ)) (written : A → List ℕ) (Good : A → Type 0) (start : List ℕ) (count : ℕ) → HasRead item written Good start count count [] start
read_none item written Good start count = record { total = omega arith; whole = refl; good = All-nil Good; same = behind_nothing (items_at item count start) }

one_behind : {A : Type 0} (read : List A) (x : A) (o : Option (List A × List ℕ)) → behind read (option_and_then (λ (later : List A × List ℕ). Some (x ∷ later.0, later.1)) o) ≡ behind (read ++ x ∷ []) o
one_behind read x None = refl
one_behind read x (Some l) = ap (λ xs. Some (xs, l.1)) (sym (append_assoc read (x ∷ []) l.0))

items_step : {A : Type 0} (item : List ℕ → Option (A × List ℕ)) (k : ℕ) (rest : List ℕ) (x : A) (more : List ℕ) → item rest ≡ Some (x, more)
    → items_at item (suc k) rest ≡ option_and_then (λ (later : List A × List ℕ). Some (x ∷ later.0, later.1)) (items_at item k more)
unfolding items_at
items_step {A} item k rest x more e = ap (λ o. option_and_then (λ (first : A × List ℕ). option_and_then (λ (later : List A × List ℕ). Some (first.0 ∷ later.0, later.1)) (items_at item k first.1)) o) e

items_stop : {A : Type 0} (item : List ℕ → Option (A × List ℕ)) (k : ℕ) (rest : List ℕ) → item rest ≡ None → items_at item (suc k) rest ≡ None
unfolding items_at
items_stop {A} item k rest e = ap (λ o. option_and_then (λ (first : A × List ℕ). option_and_then (λ (later : List A × List ℕ). Some (first.0 ∷ later.0, later.1)) (items_at item k first.1)) o) e

items_end : {A : Type 0} (item : List ℕ → Option (A × List ℕ)) (rest : List ℕ) → items_at item 0 rest ≡ Some ([], rest)
unfolding items_at
items_end item rest = refl

push_written : {A : Type 0} (written : A → List ℕ) (read : List A) (x : A) (more : List ℕ) → flat_map written read ++ (written x ++ more) ≡ flat_map written (read ++ x ∷ []) ++ more
push_written written [] x more = ap (λ w. w ++ more) (sym (append-nil (written x)))
push_written written (y ∷ read) x more =
    append_assoc (written y) (flat_map written read) (written x ++ more) ∙ ap (λ w. written y ++ w) (push_written written read x more)
    ∙ sym (append_assoc (written y) (flat_map written (read ++ x ∷ [])) more)

read_step : {A : Type 0} (item : List ℕ → Option (A × List ℕ)) (written : A → List ℕ) (Good : A → Type 0) (start : List ℕ) (count k : ℕ) (read : List A) (rest : List ℕ) (x : A) (more : List ℕ)
    → HasRead item written Good start count (suc k) read rest → item rest ≡ Some (x, more) → rest ≡ written x ++ more → Good x → HasRead item written Good start count k (read ++ x ∷ []) more
read_step item written Good start count k read rest x more h e w g = record {
  total = let total = h.total in omega (arith, length-append read (x ∷ []), total);
  whole = h.whole ∙ ap (λ r. flat_map written read ++ r) w ∙ push_written written read x more;
  good = All-push Good read x h.good g;
  same = sym (one_behind read x (items_at item k more)) ∙ ap (behind read) (sym (items_step item k rest x more e)) ∙ h.same;
}

-- one item more
pub read_more : {A : Type 0} (item : List ℕ → Option (A × List ℕ)) (written : A → List ℕ) (Good : A → Type 0) (start : List ℕ) (count left : ℕ) (read : List A) (rest : List ℕ) (x : A) (more : List ℕ)
    → 0 < left → HasRead item written Good start count left read rest → item rest ≡ Some (x, more) → rest ≡ written x ++ more → Good x → HasRead item written Good start count (left - 1) (read ++ x ∷ []) more
read_more item written Good start count left read rest x more some h e w g =
    let one : left ≡ suc (left - 1) = omega (arith, some) in
    read_step item written Good start count (left - 1) read rest x more (subst (λ n. HasRead item written Good start count n read rest) one h) e w g

-- no item where one more is wanted
pub read_stopped : {A : Type 0} (item : List ℕ → Option (A × List ℕ)) (written : A → List ℕ) (Good : A → Type 0) (start : List ℕ) (count left : ℕ) (read : List A) (rest : List ℕ)
    → 0 < left → HasRead item written Good start count left read rest → item rest ≡ None → items_at item count start ≡ None
read_stopped item written Good start count left read rest some h e =
    let one : left ≡ suc (left - 1) = omega (arith, some) in
    sym h.same ∙ ap (λ n. behind read (items_at item n rest)) one ∙ ap (behind read) (items_stop item (left - 1) rest e)

-- all items are read
pub read_ended : {A : Type 0} (item : List ℕ → Option (A × List ℕ)) (written : A → List ℕ) (Good : A → Type 0) (start : List ℕ) (count left : ℕ) (read : List A) (rest : List ℕ)
    → left ≡ 0 → HasRead item written Good start count left read rest → items_at item count start ≡ Some (read ++ [], rest)
read_ended item written Good start count left read rest none h =
    sym h.same ∙ ap (λ n. behind read (items_at item n rest)) none ∙ ap (behind read) (items_end item rest)

items_back : {A : Type 0} (item : List ℕ → Option (A × List ℕ)) (written : A → List ℕ) (Good : A → Type 0) → ((x : A) (more : List ℕ) → Good x → item (written x ++ more) ≡ Some (x, more))
    → (xs : List A) (more : List ℕ) → AllByRecursion Good xs → items_at item (length xs) (flat_map written xs ++ more) ≡ Some (xs, more)
items_back item written Good back [] more all = items_end item more
items_back {A} item written Good back (x ∷ xs) more all =
    ap (items_at item (suc (length xs))) (append_assoc (written x) (flat_map written xs) more)
    ∙ items_step item (length xs) (written x ++ (flat_map written xs ++ more)) x (flat_map written xs ++ more) (back x (flat_map written xs ++ more) all.0)
    ∙ ap (λ o. option_and_then (λ (later : List A × List ℕ). Some (x ∷ later.0, later.1)) o) (items_back item written Good back xs more all.1)

-- what a payload of these items is read as
payload_back : {A : Type 0} (item : List ℕ → Option (A × List ℕ)) (written : A → List ℕ) (Good : A → Type 0) → ((x : A) (more : List ℕ) → Good x → item (written x ++ more) ≡ Some (x, more))
    → (payload : List ℕ) (count : ℕ) (start : List ℕ) → number_at payload ≡ Some (count, start) → (xs : List A) → length xs < 2 ^ 32 → All Good xs → payload ≡ number (length xs) ++ flat_map written xs
    → items_at item count start ≡ Some (xs, [])
payload_back item written Good back payload count start n xs few all e =
    let head : number_at payload ≡ Some (length xs, flat_map written xs) = ap number_at e ∙ number_back (length xs) (flat_map written xs) few in
    let both : ◌≡◌ {A = ℕ × List ℕ} (count, start) (length xs, flat_map written xs) = cc in
    let c : count ≡ length xs = ap (λ (p : ℕ × List ℕ). p.0) both in
    let s : start ≡ flat_map written xs = ap (λ (p : ℕ × List ℕ). p.1) both in
    ap (λ k. items_at item k start) c ∙ ap (items_at item (length xs)) (s ∙ sym (append-nil (flat_map written xs)))
    ∙ items_back item written Good back xs [] (recursion_from_All Good xs all)

-- fewer bytes than a number has
pub no_number : {A : Type 0} (written : A → List ℕ) (payload : List ℕ) → number_at payload ≡ None → (xs : List A) → length xs < 2 ^ 32 → payload ≢ number (length xs) ++ flat_map written xs
no_number written payload n xs few e =
    let head : number_at payload ≡ Some (length xs, flat_map written xs) = ap number_at e ∙ number_back (length xs) (flat_map written xs) few in
    absurd cc

-- items that are none
pub no_items : {A : Type 0} (item : List ℕ → Option (A × List ℕ)) (written : A → List ℕ) (Good : A → Type 0) → ((x : A) (more : List ℕ) → Good x → item (written x ++ more) ≡ Some (x, more))
    → (payload : List ℕ) (count : ℕ) (start : List ℕ) → number_at payload ≡ Some (count, start) → items_at item count start ≡ None → (xs : List A) → length xs < 2 ^ 32 → All Good xs → payload ≢ number (length xs) ++ flat_map written xs
no_items item written Good back payload count start n none xs few all e =
    let some = payload_back item written Good back payload count start n xs few all e in
    absurd cc

-- bytes behind the items
pub more_than_items : {A : Type 0} (item : List ℕ → Option (A × List ℕ)) (written : A → List ℕ) (Good : A → Type 0) → ((x : A) (more : List ℕ) → Good x → item (written x ++ more) ≡ Some (x, more))
    → (payload : List ℕ) (count : ℕ) (start : List ℕ) → number_at payload ≡ Some (count, start) → (read : List A) (rest : List ℕ) → 0 < length rest → items_at item count start ≡ Some (read, rest)
    → (xs : List A) → length xs < 2 ^ 32 → All Good xs → payload ≢ number (length xs) ++ flat_map written xs
more_than_items {A} item written Good back payload count start n read rest long read_as xs few all e =
    let some = payload_back item written Good back payload count start n xs few all e in
    let both : ◌≡◌ {A = List A × List ℕ} (read, rest) (xs, []) = cc in
    let none : rest ≡ [] = ap (λ (p : List A × List ℕ). p.1) both in
    absurd (omega (arith, ap length none, long))

-- the payload of the items that were read
pub whole_payload : {A : Type 0} (item : List ℕ → Option (A × List ℕ)) (written : A → List ℕ) (Good : A → Type 0) (payload start : List ℕ) (count left : ℕ) (read : List A) (rest : List ℕ)
    → HasRead item written Good start count left read rest → payload ≡ number count ++ start → left ≡ 0 → length rest ≡ 0 → payload ≡ number (length read) ++ flat_map written read
whole_payload item written Good payload start count left read rest h p none empty =
    let c : count ≡ length read = let total = h.total in omega (arith, total, none) in
    let r : rest ≡ [] = length_nil rest empty in
    let s : start ≡ flat_map written read = h.whole ∙ ap (λ x. flat_map written read ++ x) r ∙ append-nil (flat_map written read) in
    p ∙ ap (λ k. number k ++ start) c ∙ ap (λ x. number (length read) ++ x) s
  where
    length_nil : (xs : List ℕ) → length xs ≡ 0 → xs ≡ []
    length_nil [] e = refl
    length_nil (x ∷ xs) e = absurd (omega (arith, e))

pub not_empty : (n : ℕ) → false ≡ (n == 0) → 0 < n
not_empty zero e = absurd cc
not_empty (suc n) e = omega arith
