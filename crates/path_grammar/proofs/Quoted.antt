-- Reading the characters of a text in quotes, as a loop does.
use Rattle.std.proofs.Common.{◌≡◌, ℕ, suc, ◌-◌, ◌+◌, ◌≤◌, ◌<◌, List, [], ◌∷◌, ◌++◌, Option, Some, None, refl, sym, ap, ◌∙◌, append_assoc, arith}
use Rattle.std.proofs.lemmas.List.{append-nil}
use Rattle.path_grammar.specs.Characters.{Text}
use Rattle.path_grammar.specs.Reading.{◌>>=◌, Fails, behind, put_front}
use Rattle.path_grammar.specs.ReadingStrings.{character_at, inside_step, inside_at}
use Rattle.path_grammar.specs.declared.fault.ParseFault.{ParseFault}
use Rattle.path_grammar.specs.declared.fault.ParseFault.TheVariants.{QueryTooLong, NotWellFormed, Memory}
use Rattle.path_grammar.proofs.Read.{found}

module _ (quote other : ℕ) (front : List ℕ) (count i : ℕ) (t : Text) (total : Option (List ℕ × Text)) (so_far : put_front front (inside_at quote other (count - i) t) ≡ total) where
  regroup : (x : ℕ) (read : Option (List ℕ × Text)) → put_front front (read >>= λ r. Some (x ∷ r.0, r.1)) ≡ put_front (front ++ x ∷ []) read
  regroup x (Some r) = ap (λ (xs : List ℕ). Some (xs, r.1)) (simp append_assoc)
  regroup x None = refl

  pub closes : (u : Text) → i < count → behind quote t ≡ Some u → total ≡ found front u
  unfolding inside_at inside_step
  closes u lt n =
      let k : count - i ≡ suc (count - (i + 1)) = omega arith in
      let step : put_front front (inside_at quote other (count - i) t) ≡ found front u = rw (k, n) (ap (λ (xs : List ℕ). found xs u) (append-nil front)) in
      sym so_far ∙ step

  pub goes_on : (after : Text) (x : ℕ) → i < count → behind quote t ≡ None → character_at quote other t ≡ found x after → put_front (front ++ x ∷ []) (inside_at quote other (count - (i + 1)) after) ≡ total
  unfolding inside_at inside_step
  goes_on after x lt n h =
      let k : count - i ≡ suc (count - (i + 1)) = omega arith in
      let step : put_front front (inside_at quote other (count - i) t) ≡ put_front (front ++ x ∷ []) (inside_at quote other (count - (i + 1)) after) = rw (k, n, h) (regroup x (inside_at quote other (count - (i + 1)) after)) in
      sym step ∙ so_far

  pub fails : (e : ParseFault) → i < count → behind quote t ≡ None → Fails e (character_at quote other t) → Fails e total
  unfolding inside_at inside_step
  fails Memory lt n h = tt
  fails QueryTooLong lt n h = h
  fails NotWellFormed lt n h =
      let k : count - i ≡ suc (count - (i + 1)) = omega arith in
      let step : put_front front (inside_at quote other (count - i) t) ≡ None = rw (k, n, h) refl in
      sym so_far ∙ step

  pub is_open : count ≤ i → total ≡ None
  unfolding inside_at
  is_open le =
      let k : count - i ≡ 0 = omega arith in
      let step : put_front front (inside_at quote other (count - i) t) ≡ None = rw k refl in
      sym so_far ∙ step
