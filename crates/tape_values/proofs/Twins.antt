-- The search for a member with this one's name and an equal value, from somewhere on and then from the first.
use Rattle.std.proofs.Common.{inl, inr, ◌≡◌, ℕ, zero, suc, ◌+◌, ◌-◌, ◌<◌, ◌≤◌, Bool, true, false, ◌||◌, List, [], ◌∷◌, ◌++◌, length, take, Option, Some, None, refl, sym, ap, ◌∙◌, arith, append_assoc, length-append}
use Rattle.std.proofs.lemmas.Bool.{cases_Bool}
use Rattle.std.specs.Option.{option_or}
use Rattle.std.specs.Prelude.{IfSome, MatchOption}
use Rattle.json_tape.specs.Nodes.{Node, first_where}
use Rattle.json_tape.specs.Document.{Doc, node_at, later, following, single}
use Rattle.json_text.specs.declared.tape.NodeId.{NodeId}
use Rattle.tape_values.specs.Pairs.{are_twins, has_twin, IsEnd, IsAmong}

or_false : (a : Bool) → a || false ≡ a
or_false true = refl
or_false false = refl

or_true : (a : Bool) → a || true ≡ true
or_true true = refl
or_true false = refl

or_assoc : (a b c : Bool) → a || (b || c) ≡ (a || b) || c
or_assoc true b c = refl
or_assoc false b c = refl

or_comm : (a b : Bool) → a || b ≡ b || a
or_comm true b = sym (or_true b)
or_comm false b = sym (or_false b)

among_both : (m : Node) (ns os : List Node) → has_twin m (ns ++ os) ≡ has_twin m ns || has_twin m os
among_both m [] os = refl
among_both m (n ∷ ns) os = ap (λ b. are_twins m n || b) (among_both m ns os) ∙ or_assoc (are_twins m n) (has_twin m ns) (has_twin m os)

take_all : (ns os : List Node) → take (length ns) (ns ++ os) ≡ ns
take_all [] os = refl
take_all (n ∷ ns) os = ap (λ xs. n ∷ xs) (take_all ns os)

take_past : (k : ℕ) (ns os : List Node) → take (length ns + k) (ns ++ os) ≡ ns ++ take k os
take_past k [] os = let e : 0 + k ≡ k = omega arith in rw e refl
take_past k (n ∷ ns) os = let e : suc (length ns) + k ≡ suc (length ns + k) = omega arith in rw e (ap (λ xs. n ∷ xs) (take_past k ns os))

take_within : (k : ℕ) (ns os : List Node) → k ≤ length ns → take k (ns ++ os) ≡ take k ns
take_within zero ns os h = refl
take_within (suc k) [] os h = absurd (omega arith)
take_within (suc k) (n ∷ ns) os h = ap (λ xs. n ∷ xs) (take_within k ns os (omega arith))

-- going round once meets each
pub round_all : (m : Node) (whole part : List Node) → IsEnd whole part → has_twin m (take (length whole) (part ++ whole)) ≡ has_twin m whole
round_all m whole part e =
    let f = e.front in
    let n : length whole ≡ length part + length f = omega (arith, ap (λ (xs : List Node). length xs) e.parts, length-append f part) in
    let w : take (length f) whole ≡ f = rw e.parts (take_all f part) in
    rw (n, take_past (length f) part whole, w, among_both m part f) (or_comm (has_twin m part) (has_twin m f) ∙ sym (among_both m f part) ∙ ap (λ xs. has_twin m xs) (sym e.parts))

-- one that is none is passed
pub round_more : (d : Doc) (m : Node) (next first : Option NodeId) (o : NodeId) (total i : ℕ) → option_or next first ≡ Some o → total ≡ length (following d first) → i < total
    → are_twins m (node_at d o.0) ≡ false
    → has_twin m (take (total - (i + 1)) (later d o.0 ++ following d first)) ≡ has_twin m (take (total - i) (following d next ++ following d first))
round_more d m None None o total i e l h t = cc
round_more d m None (Some p) o total i e l h t =
    let s : total - i ≡ suc (total - (i + 1)) = omega arith in
    let q : p ≡ o = cc in
    let k : total - (i + 1) ≤ length (later d o.0) = rw (← q) (omega arith) in
    let u : are_twins m (node_at d p.0) ≡ false = rw q t in
    let v : total - (i + 1) ≤ length (later d p.0) = rw q k in
    rw (s, ← q, take_within (total - (i + 1)) (later d p.0) (following d (Some p)) v, u) refl
round_more d m (Some n) first o total i e l h t =
    let s : total - i ≡ suc (total - (i + 1)) = omega arith in
    let q : n ≡ o = cc in
    rw (s, q, t) refl

-- one that is found
there : (m : Node) (ns : List Node) (n : Node) (rest : List Node) → IsEnd ns (n ∷ rest) → are_twins m n ≡ true → has_twin m ns ≡ true
there m ns n rest e t = rw (e.parts, among_both m e.front (n ∷ rest), t) (or_true (has_twin m e.front))

pub found_there : (d : Doc) (m : Node) (whole : List Node) (o : NodeId) → IsEnd whole (following d (Some o)) → are_twins m (node_at d o.0) ≡ true → has_twin m whole ≡ true
found_there d m whole o e t = there m whole (node_at d o.0) (later d o.0) e t

-- the first for which a test holds is one of the list
pub among_first : (d : Doc) (p : Node → Bool) (ns : List Node) (r : Option NodeId) → single d r ≡ first_where p ns → IfSome r (λ o. IsAmong ns (node_at d o.0))
among_first d p ns None e = tt
among_first d p [] (Some o) e = absurd (cc)
among_first d p (n ∷ ns) (Some o) e = elim (cases_Bool (p n)) [
  | inl q ↦ let f : first_where p (n ∷ ns) ≡ n ∷ [] = rw q refl in let s : node_at d o.0 ≡ n = cc in (ns, record { front = []; parts = rw s refl })
  | inr q ↦
      let f : first_where p (n ∷ ns) ≡ first_where p ns = rw q refl in
      let r = among_first d p ns (Some o) (e ∙ f) in
      (r.0, record { front = n ∷ r.1.front; parts = ap (λ xs. n ∷ xs) r.1.parts })
]

pub guess_there : (d : Doc) (m : Node) (ns cs : List Node) (r : Option NodeId) (b : Bool) → ns ≡ cs → IfSome r (λ o. IsAmong cs (node_at d o.0))
    → MatchOption r (b ≡ false) (λ o. b ≡ are_twins m (node_at d o.0)) → b ≡ true → has_twin m ns ≡ true
guess_there d m ns cs None b e a h t = absurd (cc)
guess_there d m ns cs (Some o) b e a h t = rw e (there m cs (node_at d o.0) a.0 a.1 (sym h ∙ t))

pub guess_unlike : (d : Doc) (m : Node) (r : Option NodeId) (b : Bool) → MatchOption r (b ≡ false) (λ o. b ≡ are_twins m (node_at d o.0)) → b ≡ false
    → IfSome r (λ u. are_twins m (node_at d u.0) ≡ false)
guess_unlike d m None b h t = tt
guess_unlike d m (Some o) b h t = sym h ∙ t

pub end_itself : (ns : List Node) → IsEnd ns ns
end_itself ns = record { front = []; parts = refl }

append_nil : (xs : List Node) → xs ++ [] ≡ xs
append_nil [] = refl
append_nil (x ∷ xs) = ap (λ ys. x ∷ ys) (append_nil xs)

pub end_later : (d : Doc) (whole : List Node) (o : NodeId) → IsEnd whole (following d (Some o)) → IsEnd whole (later d o.0)
end_later d whole o e = record { front = e.front ++ node_at d o.0 ∷ []; parts = e.parts ∙ sym (append_assoc e.front (node_at d o.0 ∷ []) (later d o.0)) }

-- where the search goes on
pub end_or : (d : Doc) (next first : Option NodeId) (o : NodeId) → option_or next first ≡ Some o → IsEnd (following d first) (following d next) → IsEnd (following d first) (following d (Some o))
end_or d None None o e h = absurd (cc)
end_or d None (Some p) o e h = let q : p ≡ o = cc in rw q (end_itself (following d (Some o)))
end_or d (Some n) first o e h = let q : n ≡ o = cc in rw (← q) h

pub ruleset ends = (end_itself)

pub ruleset found = (among_first)

pub ruleset guessing = (guess_there, guess_unlike, end_later)

pub ruleset searching = (round_all, round_more, found_there, end_or, end_later)
