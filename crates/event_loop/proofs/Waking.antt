-- Nobody is forgotten in a round.
use Rattle.std.proofs.Common.{◌≡◌, ◌<◌, ◌≤◌, ◌+◌, ℕ, false, List, [], ◌∷◌, length, drop, get_or, add-one, append-nil, sym, ap, ◌∙◌, subst}
use Rattle.std.specs.Prelude.{IsTrue}
use Rattle.std.proofs.Math.Seq.{drop-cons}
use Rattle.due_list.specs.declared.due.Due.{Due}
use Rattle.open_connections.specs.declared.open.Open.{Open}
use Rattle.open_connections.specs.Woken.{Within, Listed, Awake, Hands, IsWoken, Passes, Recalls, StaysWoken, is_so}
use Rattle.event_loop.proofs.Serving.{none_dropped}

pub woken_still : {S C T : Type 0} (more : List Due) (a b : Open S C T) → IsWoken more a → StaysWoken a b → IsWoken more b
woken_still more a b h k = λ key. (k (Within key) (h key).0, k (Listed false key more) (h key).1, k (Awake false key) (h key).2)

pub same_woken : {S C T : Type 0} (a b : Open S C T) → b ≡ a → StaysWoken a b
same_woken {S} {C} {T} a b e = λ fact h. subst (λ (x : Open S C T). IsTrue (is_so fact x)) (sym e) h

pub woken_again : {S C T : Type 0} (more : List Due) (a b : Open S C T) → IsWoken more a → Recalls a b → IsWoken more b
woken_again more a b h k = woken_still more a b h (k (λ key. (h key).0))

-- all are handed out
pub woken_out : {S C T : Type 0} (list : List Due) (a b : Open S C T) → IsWoken [] a → Hands list a b → IsWoken list b
woken_out {S} {C} {T} list a b h k = λ key. (k (Within key) (h key).0, subst (λ (x : List Due). IsTrue (is_so (Listed false key x) b)) (append-nil list) (k (Listed false key []) (h key).1), k (Awake false key) (h key).2)

-- one is served
pub woken_on : {S C T : Type 0} (all : List Due) (i : ℕ) (due : Due) (a b : Open S C T) → i < length all → IsWoken (drop i all) a → Passes (get_or all i due) a b → IsWoken (drop (i + 1) all) b
woken_on {S} {C} {T} all i due a b l h k =
    let more : drop i all ≡ get_or all i due ∷ drop (i + 1) all = drop-cons all i due l ∙ ap (λ (n : ℕ). get_or all i due ∷ drop n all) (sym (add-one i)) in
    λ key. (
      k (Within key) (h key).0,
      k (Listed false key (drop (i + 1) all)) (subst (λ (x : List Due). IsTrue (is_so (Listed false key x) a)) more (h key).1),
      k (Awake false key) (h key).2,
    )

-- all are
pub none_left : {S C T : Type 0} (all : List Due) (i : ℕ) (a : Open S C T) → length all ≤ i → IsWoken (drop i all) a → IsWoken [] a
none_left {S} {C} {T} all i a l h = subst (λ (x : List Due). IsWoken x a) (none_dropped all i l) h
