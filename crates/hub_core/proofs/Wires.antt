-- What the streams show of acts.
use Rattle.std.proofs.Common.{◌≡◌, ℕ, List, [], ◌∷◌, ◌++◌, sym, ap, ◌∙◌, subst, refl, Option, Some, None, inl, inr, append_assoc}
use Rattle.std.specs.Prelude.{◌==◌}
use Rattle.std.proofs.lemmas.List.{append-nil}
use Rattle.std.proofs.lemmas.Bool.{cases_Bool, eqb-true, eqb-false}
use Rattle.std.proofs.lemmas.Bool.Decides.{Decides-eqb}
use Rattle.outbox.specs.Lines.{Line, fresh, run, read_at, sent_at, read, sent}
use Rattle.outbox.specs.Traffic.{Traffic, IsUnused, moved}
use Rattle.hub_core.specs.Acts.{Act, Opened, Turned, Closed, Drained, changed, lines_after, all_lines_after, events_of, IsKept}
use Rattle.hub_core.specs.Wires.{AllMove, ShowsAll, WiresShow}
use Rattle.hub_core.proofs.Serving.{picked, gathered_own, gathered_other, line_kept}

moved_none : (w : Option Traffic) → w ≡ moved [] [] w
moved_none None = refl
moved_none (Some t) = ap (λ (xs : List ℕ). Some (record { read = xs; written = t.written })) (sym (append-nil t.read)) ∙ ap (λ (xs : List ℕ). Some (record { read = t.read ++ []; written = xs })) (sym (append-nil t.written))

moved_twice : (w : Option Traffic) (p q s t : List ℕ) → moved q t (moved p s w) ≡ moved (p ++ q) (s ++ t) w
moved_twice None p q s t = refl
moved_twice (Some o) p q s t = ap (λ (xs : List ℕ). Some (record { read = xs; written = (o.written ++ s) ++ t })) (append_assoc o.read p q) ∙ ap (λ (xs : List ℕ). Some (record { read = o.read ++ (p ++ q); written = xs })) (append_assoc o.written s t)

-- what moved on the stream of a connection that is kept
own_moves : (lines : ℕ → Line) (acts : List Act) (old new : ℕ → Option Traffic) → AllMove lines acts old new → (q : ℕ) → IsKept q acts → new q ≡ moved (read (lines q) (events_of q acts)) (sent (lines q) (events_of q acts)) (old q)
own_moves lines [] old new m q k = m q ∙ moved_none (old q)
own_moves lines (Opened conn ∷ acts) old new m q k =
    let next : ℕ → Line = changed lines conn fresh in
    own_moves next acts m.0 new m.2 q k.1
    ∙ ap (λ (w : Option Traffic). moved (read (next q) (events_of q acts)) (sent (next q) (events_of q acts)) w) (m.1.1 q k.0)
    ∙ ap (λ (l : Line). moved (read l (events_of q acts)) (sent l (events_of q acts)) (old q)) (line_kept lines conn fresh q k.0)
own_moves lines (Turned conn es ∷ acts) old new m q k = elim (cases_Bool (q == conn)) [
  | inl e ↦
      let c : q ≡ conn = eqb-true q conn e in
      let next : Line = changed lines conn (run (lines conn) es) q in
      let was : List ℕ = read (lines conn) es in
      let put : List ℕ = sent (lines conn) es in
      own_moves (lines_after lines (Turned conn es)) acts m.0 new m.2 q k.1
      ∙ ap (λ (w : Option Traffic). moved (read next (events_of q acts)) (sent next (events_of q acts)) w) (ap m.0 c ∙ m.1.0 ∙ ap (λ (x : ℕ). moved was put (old x)) (sym c))
      ∙ moved_twice (old q) was (read next (events_of q acts)) put (sent next (events_of q acts))
      ∙ ap (λ (xs : List ℕ). moved xs (put ++ sent next (events_of q acts)) (old q)) (sym (gathered_own read_at lines q conn es (events_of q acts) e))
      ∙ ap (λ (xs : List ℕ). moved (read (lines q) (events_of q (Turned conn es ∷ acts))) xs (old q)) (sym (gathered_own sent_at lines q conn es (events_of q acts) e))
  | inr e ↦
      let next : Line = changed lines conn (run (lines conn) es) q in
      own_moves (lines_after lines (Turned conn es)) acts m.0 new m.2 q k.1
      ∙ ap (λ (w : Option Traffic). moved (read next (events_of q acts)) (sent next (events_of q acts)) w) (m.1.1 q (eqb-false q conn e))
      ∙ ap (λ (xs : List ℕ). moved xs (sent next (events_of q acts)) (old q)) (sym (gathered_other read_at lines q conn es (events_of q acts) e))
      ∙ ap (λ (xs : List ℕ). moved (read (lines q) (events_of q (Turned conn es ∷ acts))) xs (old q)) (sym (gathered_other sent_at lines q conn es (events_of q acts) e))
]
own_moves lines (Closed conn ∷ acts) old new m q k =
    own_moves lines acts m.0 new m.2 q k.1 ∙ ap (λ (w : Option Traffic). moved (read (lines q) (events_of q acts)) (sent (lines q) (events_of q acts)) w) (m.1 q k.0)
own_moves lines (Drained conn ∷ acts) old new m q k =
    own_moves lines acts m.0 new m.2 q k.1 ∙ ap (λ (w : Option Traffic). moved (read (lines q) (events_of q acts)) (sent (lines q) (events_of q acts)) w) (m.1 q k.0)

-- acts before and behind
moves_apart : (lines : ℕ → Line) (xs ys : List Act) (old new : ℕ → Option Traffic) → AllMove lines (xs ++ ys) old new → (now : ℕ → Option Traffic) × AllMove lines xs old now × AllMove (all_lines_after lines xs) ys now new
moves_apart lines [] ys old new m = (old, (λ q. refl), m)
moves_apart lines (x ∷ xs) ys old new m = let r = moves_apart (lines_after lines x) xs ys m.0 new m.2 in (r.0, (m.0, m.1, r.1), r.2)

same_some : (x y : Traffic) → Some x ≡ Some y → x ≡ y
same_some x y e = cc

-- from where nothing had moved
since_opened : (was now : Option Traffic) (p s : List ℕ) → IsUnused was → now ≡ moved p s was → (t : Traffic) → now ≡ Some t → (t.read ≡ p) × (t.written ≡ s)
since_opened None now p s u e t is = absurd (none_is_some t (sym e ∙ is))
  where
    none_is_some : (x : Traffic) → None ≡ Some x → ⊥
    none_is_some x h = absurd cc
since_opened (Some o) now p s u e t is =
    let h : record { read = o.read ++ p; written = o.written ++ s } ≡ t = same_some (record { read = o.read ++ p; written = o.written ++ s }) t (sym e ∙ is) in
    (ap (λ (x : Traffic). x.read) (sym h) ∙ ap (λ (xs : List ℕ). xs ++ p) u.0, ap (λ (x : Traffic). x.written) (sym h) ∙ ap (λ (xs : List ℕ). xs ++ s) u.1)

shows_here : (lines : ℕ → Line) (q : ℕ) (before mid : List Act) (old now : ℕ → Option Traffic) → AllMove lines (before ++ (Opened q ∷ mid)) old now → IsKept q mid → ShowsAll (now q) q mid
shows_here lines q before mid old now m k =
    let r = moves_apart lines before (Opened q ∷ mid) old now m in
    let opened : ℕ → Line = lines_after (all_lines_after lines before) (Opened q) in
    let start : ℕ → Option Traffic = r.2.0 in
    let line : opened q ≡ fresh = picked (q == q) fresh (all_lines_after lines before q) ((Decides-eqb q q).1 refl) in
    let e : now q ≡ moved (read fresh (events_of q mid)) (sent fresh (events_of q mid)) (start q) =
    own_moves opened mid start now r.2.2 q k ∙ ap (λ (l : Line). moved (read l (events_of q mid)) (sent l (events_of q mid)) (start q)) line in
    since_opened (start q) (now q) (read fresh (events_of q mid)) (sent fresh (events_of q mid)) r.2.1.0 e

pub moment : WiresShow
moment lines acts old new m q before mid behind e k =
    let assoc : (before ++ (Opened q ∷ mid)) ++ behind ≡ before ++ (Opened q ∷ mid ++ behind) = append_assoc before (Opened q ∷ mid) behind in
    let same : acts ≡ (before ++ (Opened q ∷ mid)) ++ behind = e ∙ sym assoc in
    let r = moves_apart lines (before ++ (Opened q ∷ mid)) behind old new (subst (λ (xs : List Act). AllMove lines xs old new) same m) in
    record { now = r.0; came = r.1; left = r.2; shows = shows_here lines q before mid old r.0 r.1 k }
