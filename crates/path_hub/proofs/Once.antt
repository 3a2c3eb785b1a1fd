-- Equal bytes get equal replies.
use Rattle.std.proofs.Common.{◌≡◌, ℕ, false, List, [], ◌∷◌, ◌++◌, map, sym, ap, ◌∙◌, subst, refl, Option, Some, None}
use Rattle.std.proofs.lemmas.List.{append-nil}
use Rattle.tenant_map.specs.Tenancy.{Tenancy}
use Rattle.request_replies.specs.Answers.{is_no_memory}
use Rattle.request_replies.specs.Tenants.{BodiesAreServedOnce}
use Rattle.std.proofs.lemmas.Bool.{MatchBool-at_false}
use Rattle.path_hub.specs.Items.{Item}
use Rattle.path_hub.specs.Runs.{Run, StepItem}
use Rattle.path_hub.specs.Into.{sent, joined}
use Rattle.path_hub.specs.Laws.{IsPlain, IsReplied}
use Rattle.path_hub.specs.declared.wire.ConnEnd.TheVariants.{Done}
use Rattle.path_hub.specs.HubState.{HubState}
use Rattle.path_hub.specs.Wires.{Move, Meaning, Traffic, Moved, read_in, written_in}
use Rattle.path_hub.specs.Serving.{ServesConnection, Ends, items_in}

step_once : (w : BodiesAreServedOnce) (o : Option (List ℕ)) (os : Tenancy) (f g : List ℕ) (a c : Tenancy) → is_no_memory f ≡ false → is_no_memory g ≡ false → StepItem os o f a → StepItem os o g c → (f ≡ g) × (a ≡ c)
step_once w None os f g a c p q x y = (x.0 ∙ sym y.0, x.1 ∙ sym y.1)
step_once w (Some b) os f g a c p q x y = w os b f g a c (MatchBool-at_false _ _ p x) (MatchBool-at_false _ _ q y)

run_once : (w : BodiesAreServedOnce) (conn : ℕ) (is : List Item) (fs gs : List (List ℕ)) (os a c : Tenancy) → IsPlain fs → IsPlain gs → Run os is (map (sent conn) fs) a → Run os is (map (sent conn) gs) c → (fs ≡ gs) × (a ≡ c)
run_once w conn [] [] [] os a c p q x y = (refl, x ∙ sym y)
run_once w conn [] [] (g ∷ gs) os a c p q x y = absurd y
run_once w conn [] (f ∷ fs) gs os a c p q x y = absurd x
run_once w conn (i ∷ is) [] gs os a c p q x y = absurd x
run_once w conn (i ∷ is) (f ∷ fs) [] os a c p q x y = absurd y
run_once w conn (i ∷ is) (f ∷ fs) (g ∷ gs) os a c p q x y =
    let e = step_once w i.body os f g x.0 y.0 p.0 q.0 x.2 y.2 in
    let r = run_once w conn is fs gs x.0 a c p.1 q.1 x.3 (subst (λ n. Run n is (map (sent conn) gs) c) (sym e.1) y.3) in
    (ap (λ h. h ∷ fs) e.0 ∙ ap (λ hs. g ∷ hs) r.0, r.1)

-- at the end of the input all replies are written
all_replied : (conn : ℕ) (h h' : HubState) (m n : Meaning) (x : Ends conn h m Done h' n) → Run h.tenants (items_in conn (read_in x.moved)) (map (sent conn) x.frames) h'.tenants
all_replied conn h h' m n x = subst (λ is. Run h.tenants is (map (sent conn) x.frames) h'.tenants) (sym (x.items_are ∙ ap (λ o. x.first ++ o) x.items_end.1 ∙ append-nil x.first)) x.run

all_written : (conn : ℕ) (h h' : HubState) (m n : Meaning) (x : Ends conn h m Done h' n) → written_in x.moved ≡ joined x.frames
all_written conn h h' m n x = sym (x.replies_are ∙ ap (λ o. written_in x.moved ++ o) x.items_end.2 ∙ append-nil (written_in x.moved))

moves_at : (a b : Option Traffic) (ms : List Move) (t u : Traffic) → a ≡ Some t → b ≡ Some u → Moved a ms b → u.moves ≡ t.moves ++ ms
moves_at a b ms t u e f w = subst (λ (y : Option Traffic). Moved (Some t) ms y) f (subst (λ (x : Option Traffic). Moved x ms b) e w)

pub bytes_served : (conn : ℕ) (h h' : HubState) (m n : Meaning) (t u : Traffic) → ServesConnection conn h m Done h' n → m.traffic ≡ Some t → n.traffic ≡ Some u → IsReplied conn h h' t u
bytes_served conn h h' m n t u s e f = record {
  moved = s.ends.moved;
  moves_are = moves_at m.traffic n.traffic s.ends.moved t u e f s.ends.told;
  frames = s.ends.frames;
  run = all_replied conn h h' m n s.ends;
  written_is = all_written conn h h' m n s.ends;
}

pub once_served : (w : BodiesAreServedOnce) (conn : ℕ) (h h' k k' : HubState) (m n m' n' : Meaning) (x : Ends conn h m Done h' n) (y : Ends conn k m' Done k' n') → h.tenants ≡ k.tenants → read_in x.moved ≡ read_in y.moved
    → IsPlain x.frames → IsPlain y.frames → (written_in x.moved ≡ written_in y.moved) × (h'.tenants ≡ k'.tenants)
once_served w conn h h' k k' m n m' n' x y o r p q =
    let b : Run h.tenants (items_in conn (read_in x.moved)) (map (sent conn) y.frames) k'.tenants =
    subst (λ i. Run h.tenants (items_in conn i) (map (sent conn) y.frames) k'.tenants) (sym r) (subst (λ os. Run os (items_in conn (read_in y.moved)) (map (sent conn) y.frames) k'.tenants) (sym o) (all_replied conn k k' m' n' y)) in
    let e = run_once w conn (items_in conn (read_in x.moved)) x.frames y.frames h.tenants h'.tenants k'.tenants p q (all_replied conn h h' m n x) b in
    (all_written conn h h' m n x ∙ ap joined e.0 ∙ sym (all_written conn k k' m' n' y), e.1)
