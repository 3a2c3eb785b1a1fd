-- What moves on a wire, one move after another.
use Rattle.std.proofs.Common.{◌≡◌, ℕ, List, [], ◌∷◌, ◌++◌, length, map, sym, ap, ◌∙◌, subst, refl, Option, Some, None, suc}
use Rattle.std.proofs.lemmas.List.{append-nil, append_assoc, length-map}
use Rattle.tenant_map.specs.Tenancy.{Tenancy}
use Rattle.path_hub.specs.Items.{Item}
use Rattle.path_hub.specs.Runs.{Sent, Run}
use Rattle.path_hub.specs.Into.{joined, sent}
use Rattle.path_hub.specs.Wires.{Move, Gave, Took, Traffic, Moved, read_in, written_in}
use Rattle.path_hub.specs.Serving.{IsPaced, IsUpTo, items_in}

pub moved_none : (a : Option Traffic) → Moved a [] a
moved_none None = refl
moved_none (Some t) = sym (append-nil t.moves)

pub moved_trans : (a b c : Option Traffic) (xs ys : List Move) → Moved a xs b → Moved b ys c → Moved a (xs ++ ys) c
moved_trans None b c xs ys p q = subst (λ (x : Option Traffic). Moved x ys c) p q
moved_trans (Some t) None c xs ys p q = absurd p
moved_trans (Some t) (Some u) None xs ys p q = absurd q
moved_trans (Some t) (Some u) (Some v) xs ys p q = q ∙ ap (λ ms. ms ++ ys) p ∙ append_assoc t.moves xs ys

pub read_in-append : (xs ys : List Move) → read_in (xs ++ ys) ≡ read_in xs ++ read_in ys
read_in-append [] ys = refl
read_in-append (Gave p ∷ xs) ys = ap (λ s. p ++ s) (read_in-append xs ys) ∙ sym (append_assoc p (read_in xs) (read_in ys))
read_in-append (Took p ∷ xs) ys = read_in-append xs ys

pub written_in-append : (xs ys : List Move) → written_in (xs ++ ys) ≡ written_in xs ++ written_in ys
written_in-append [] ys = refl
written_in-append (Gave p ∷ xs) ys = written_in-append xs ys
written_in-append (Took p ∷ xs) ys = ap (λ s. p ++ s) (written_in-append xs ys) ∙ sym (append_assoc p (written_in xs) (written_in ys))

pub read_in-took : (ps : List (List ℕ)) → read_in (map Took ps) ≡ []
read_in-took [] = refl
read_in-took (p ∷ ps) = read_in-took ps

pub written_in-took : (ps : List (List ℕ)) → written_in (map Took ps) ≡ joined ps
written_in-took [] = refl
written_in-took (p ∷ ps) = ap (λ s. p ++ s) (written_in-took ps)

pub joined-append : (xs ys : List (List ℕ)) → joined (xs ++ ys) ≡ joined xs ++ joined ys
joined-append [] ys = refl
joined-append (x ∷ xs) ys = ap (λ s. x ++ s) (joined-append xs ys) ∙ sym (append_assoc x (joined xs) (joined ys))

-- replies later do not change what was paced
pub up_to_more : (conn : ℕ) (fs gs : List (List ℕ)) (s w : List ℕ) → IsUpTo conn fs s w → IsUpTo conn (fs ++ gs) s w
up_to_more conn fs gs s w u = record { mine = u.mine; later = u.later ++ gs; frames_are = ap (λ x. x ++ gs) u.frames_are ∙ append_assoc u.mine u.later gs; one_each = u.one_each; written_is = u.written_is }

pub paced_more : (conn : ℕ) (fs gs : List (List ℕ)) (s w : List ℕ) (ms : List Move) → IsPaced conn fs s w ms → IsPaced conn (fs ++ gs) s w ms
paced_more conn fs gs s w [] p = tt
paced_more conn fs gs s w (Gave x ∷ ms) p = (up_to_more conn fs gs s w p.0, p.1, paced_more conn fs gs (s ++ x) w ms p.2)
paced_more conn fs gs s w (Took x ∷ ms) p = paced_more conn fs gs s (w ++ x) ms p

pub paced-append : (conn : ℕ) (fs : List (List ℕ)) (s w : List ℕ) (ms ns : List Move) → IsPaced conn fs s w ms → IsPaced conn fs (s ++ read_in ms) (w ++ written_in ms) ns → IsPaced conn fs s w (ms ++ ns)
paced-append conn fs s w [] ns p q = subst (λ x. IsPaced conn fs x w ns) (append-nil s) (subst (λ x. IsPaced conn fs (s ++ []) x ns) (append-nil w) q)
paced-append conn fs s w (Gave x ∷ ms) ns p q = (p.0, p.1, paced-append conn fs (s ++ x) w ms ns p.2 (subst (λ y. IsPaced conn fs y (w ++ written_in ms) ns) (sym (append_assoc s x (read_in ms))) q))
paced-append conn fs s w (Took x ∷ ms) ns p q = paced-append conn fs s (w ++ x) ms ns p (subst (λ y. IsPaced conn fs (s ++ read_in ms) y ns) (sym (append_assoc w x (written_in ms))) q)

pub paced_took : (conn : ℕ) (fs : List (List ℕ)) (s w : List ℕ) (ps : List (List ℕ)) → IsPaced conn fs s w (map Took ps)
paced_took conn fs s w [] = tt
paced_took conn fs s w (p ∷ ps) = paced_took conn fs s (w ++ p) ps

pub run_length : (is : List Item) (ts : List Sent) (os os' : Tenancy) → Run os is ts os' → length is ≡ length ts
run_length [] [] os os' r = refl
run_length [] (t ∷ ts) os os' r = absurd r
run_length (i ∷ is) [] os os' r = absurd r
run_length (i ∷ is) (t ∷ ts) os os' r = ap suc (run_length is ts r.0 os' r.3)

pub up_to_all : (conn : ℕ) (fs : List (List ℕ)) (s w : List ℕ) (os os' : Tenancy) → Run os (items_in conn s) (map (sent conn) fs) os' → w ≡ joined fs → IsUpTo conn fs s w
up_to_all conn fs s w os os' r e = record {
  mine = fs;
  later = [];
  frames_are = sym (append-nil fs);
  one_each = sym (run_length (items_in conn s) (map (sent conn) fs) os os' r ∙ length-map fs (sent conn));
  written_is = e;
}
