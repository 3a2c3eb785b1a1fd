-- Reading one after the other, as a loop does: for any reader, and any place where the next begins.
use Rattle.std.proofs.Common.{◌≡◌, ℕ, suc, ◌-◌, ◌+◌, ◌≤◌, ◌<◌, List, [], ◌∷◌, ◌++◌, length, Option, Some, None, refl, sym, ap, ◌∙◌, append_assoc, arith}
use Rattle.std.proofs.lemmas.List.{append-nil}
use Rattle.path_grammar.specs.Characters.{Text}
use Rattle.path_grammar.specs.Reading.{◌>>=◌, Fails, Reader, go_on, repeat_at, list_at, put_front}
use Rattle.path_grammar.specs.declared.fault.ParseFault.{ParseFault}
use Rattle.path_grammar.specs.declared.fault.ParseFault.TheVariants.{QueryTooLong, NotWellFormed, Memory}
use Rattle.path_grammar.proofs.Read.{found}

module _ {X : Type 0} (next : Text → Option Text) (one : Reader X) (front : List X) (count i : ℕ) (t : Text) (total : Option (List X × Text)) (so_far : put_front front (repeat_at next one (count - i) t) ≡ total) where
  regroup : (x : X) (read : Option (List X × Text)) → put_front front (read >>= λ r. Some (x ∷ r.0, r.1)) ≡ put_front (front ++ x ∷ []) read
  regroup x (Some r) = ap (λ (xs : List X). Some (xs, r.1)) (simp append_assoc)
  regroup x None = refl

  pub goes_on : (u after : Text) (x : X) → i < count → next t ≡ Some u → one u ≡ found x after → put_front (front ++ x ∷ []) (repeat_at next one (count - (i + 1)) after) ≡ total
  unfolding repeat_at go_on
  goes_on u after x lt n h =
      let k : count - i ≡ suc (count - (i + 1)) = omega arith in
      let step : put_front front (repeat_at next one (count - i) t) ≡ put_front (front ++ x ∷ []) (repeat_at next one (count - (i + 1)) after) = rw (k, n, h) (regroup x (repeat_at next one (count - (i + 1)) after)) in
      sym step ∙ so_far

  pub fails : (e : ParseFault) (u : Text) → i < count → next t ≡ Some u → Fails e (one u) → Fails e total
  unfolding repeat_at go_on
  fails Memory u lt n h = tt
  fails QueryTooLong u lt n h = h
  fails NotWellFormed u lt n h =
      let k : count - i ≡ suc (count - (i + 1)) = omega arith in
      let step : put_front front (repeat_at next one (count - i) t) ≡ None = rw (k, n, h) refl in
      sym so_far ∙ step

  pub stops : i < count → next t ≡ None → total ≡ found front t
  unfolding repeat_at go_on
  stops lt n =
      let k : count - i ≡ suc (count - (i + 1)) = omega arith in
      let step : put_front front (repeat_at next one (count - i) t) ≡ found front t = rw (k, n) (ap (λ (xs : List X). found xs t) (append-nil front)) in
      sym so_far ∙ step

  pub is_done : count ≤ i → total ≡ found front t
  unfolding repeat_at
  is_done le =
      let k : count - i ≡ 0 = omega arith in
      let step : put_front front (repeat_at next one (count - i) t) ≡ found front t = rw k (ap (λ (xs : List X). found xs t) (append-nil front)) in
      sym so_far ∙ step

pub front_nil : {X : Type 0} (read : Option (List X × Text)) → put_front [] read ≡ read
front_nil (Some r) = refl
front_nil None = refl

-- ---- lists of which the first is read before the others

module _ {X : Type 0} (next : Text → Option Text) (one : Reader X) (t : Text) where
  pub first_read : (after : Text) (x : X) → one t ≡ found x after → put_front (x ∷ []) (repeat_at next one (length t) after) ≡ list_at next one t
  unfolding list_at
  first_read after x h = rw h refl

  pub first_fails : (e : ParseFault) → Fails e (one t) → Fails e (list_at next one t)
  unfolding list_at
  first_fails Memory h = tt
  first_fails QueryTooLong h = h
  first_fails NotWellFormed h = rw h refl
