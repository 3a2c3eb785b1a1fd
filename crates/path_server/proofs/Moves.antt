-- What moves on a wire in a turn, and in one after another.
use Rattle.std.proofs.Common.{◌≡◌, ℕ, List, [], ◌∷◌, ◌++◌, Option, Some, None, map, ap, sym, subst, ◌∙◌, refl, append_assoc}
use Rattle.std.proofs.lemmas.List.{append-nil}
use Rattle.path_hub.specs.Into.{joined}
use Rattle.path_hub.specs.Wires.{Move, Gave, Took, Traffic, Moved, read_in, written_in}

pub moved_none : (a : Option Traffic) → Moved a [] a
moved_none None = refl
moved_none (Some t) = sym (append-nil t.moves)

pub moved_trans : (a b c : Option Traffic) (xs ys : List Move) → Moved a xs b → Moved b ys c → Moved a (xs ++ ys) c
moved_trans None b c xs ys p q = subst (λ (x : Option Traffic). Moved x ys c) p q
moved_trans (Some t) None c xs ys p q = absurd p
moved_trans (Some t) (Some u) None xs ys p q = absurd q
moved_trans (Some t) (Some u) (Some v) xs ys p q = q ∙ ap (λ ms. ms ++ ys) p ∙ append_assoc t.moves xs ys

pub read_on : (xs ys : List Move) → read_in (xs ++ ys) ≡ read_in xs ++ read_in ys
read_on [] ys = refl
read_on (Gave p ∷ xs) ys = ap (λ s. p ++ s) (read_on xs ys) ∙ sym (append_assoc p (read_in xs) (read_in ys))
read_on (Took p ∷ xs) ys = read_on xs ys

pub written_on : (xs ys : List Move) → written_in (xs ++ ys) ≡ written_in xs ++ written_in ys
written_on [] ys = refl
written_on (Gave p ∷ xs) ys = written_on xs ys
written_on (Took p ∷ xs) ys = ap (λ s. p ++ s) (written_on xs ys) ∙ sym (append_assoc p (written_in xs) (written_in ys))

read_gave : (cs : List (List ℕ)) → read_in (map Gave cs) ≡ joined cs
read_gave [] = refl
read_gave (c ∷ cs) = ap (λ s. c ++ s) (read_gave cs)

read_took : (ps : List (List ℕ)) (ms : List Move) → read_in (map Took ps ++ ms) ≡ read_in ms
read_took [] ms = refl
read_took (p ∷ ps) ms = read_took ps ms

written_gave : (cs : List (List ℕ)) → written_in (map Gave cs) ≡ []
written_gave [] = refl
written_gave (c ∷ cs) = written_gave cs

written_took : (ps : List (List ℕ)) → written_in (map Took ps) ≡ joined ps
written_took [] = refl
written_took (p ∷ ps) = ap (λ s. p ++ s) (written_took ps)

-- of a turn, or a part of one
pub turn_read : (ps cs : List (List ℕ)) → read_in (map Took ps ++ map Gave cs) ≡ joined cs
turn_read ps cs = read_took ps (map Gave cs) ∙ read_gave cs

pub turn_written : (ps cs : List (List ℕ)) → written_in (map Took ps ++ map Gave cs) ≡ joined ps
turn_written ps cs = written_on (map Took ps) (map Gave cs) ∙ ap (λ s. written_in (map Took ps) ++ s) (written_gave cs) ∙ append-nil (written_in (map Took ps)) ∙ written_took ps
