-- A session against its connection's stream, pieces and steps in any order.
use Rattle.std.proofs.Common.{◌≡◌, ℕ, Bool, true, false, List, [], ◌∷◌, ◌++◌, map, sym, ap, ◌∙◌, refl, Option, Some, None, cond, inl, inr}
use Rattle.std.proofs.lemmas.List.{append-nil, append_assoc}
use Rattle.std.proofs.lemmas.Bool.{cases_Bool}
use Rattle.wire_frames.specs.Frames.{Front, Fault, Split, front, frames, rest, is_broken, is_fault}
use Rattle.wire_frames.specs.Framing.{Framing, fresh, with_piece}
use Rattle.wire_frames.specs.Splitting.{Splitting}
use Rattle.path_hub.specs.Items.{new_bodies}
use Rattle.path_hub.specs.Pending.{Takes, pending, bodies_in, item}
use Rattle.path_hub.specs.Serving.{items_in}
use Rattle.path_hub.specs.Standing.{StandsAt, Standing}
use Rattle.path_hub.proofs.Loop.{pending_open, pending_takes, rest_takes}
use Rattle.path_hub.proofs.Pieces.{first_bodies, bodies-append}
use Rattle.path_hub.proofs.Settling.{new_open, new_closed, rest-append, rest_fault}

-- a broken stream keeps its bodies
bodies_broken : (laws : Splitting) (s p : List ℕ) → is_broken s ≡ true → bodies_in (s ++ p) ≡ bodies_in s
bodies_broken laws s p h =
    let fault : front (rest s ++ p) ≡ Fault = rest_fault laws s p h in
    ap (λ (x : Split). map Some x.frames ++ cond (is_fault (front x.rest)) (None ∷ []) []) (laws.prefix s p)
    ∙ ap (λ (x : Split). map Some (frames s ++ x.frames) ++ cond (is_fault (front x.rest)) (None ∷ []) []) (laws.fault (rest s ++ p) fault)
    ∙ ap (λ (f : Front). map Some (frames s ++ []) ++ cond (is_fault f) (None ∷ []) []) fault
    ∙ ap (λ (fs : List (List ℕ)). map Some fs ++ None ∷ []) (append-nil (frames s))
    ∙ sym (ap (λ (b : Bool). map Some (frames s) ++ cond b (None ∷ []) []) h)

bodies_more : (laws : Splitting) (s p : List ℕ) → bodies_in (s ++ p) ≡ bodies_in s ++ new_bodies s p
bodies_more laws s p = elim (cases_Bool (is_broken s)) [
  | inl h ↦ bodies_broken laws s p h ∙ sym (append-nil (bodies_in s)) ∙ ap (λ (xs : List (Option (List ℕ))). bodies_in s ++ xs) (sym (new_closed laws s p h))
  | inr h ↦ bodies-append laws s p h
]

-- what a piece makes whole depends on the rest alone
new_same : (laws : Splitting) (s t p : List ℕ) → rest s ≡ rest t → new_bodies s p ≡ new_bodies t p
new_same laws s t p e =
    let b : is_broken s ≡ is_broken t = ap (λ (r : List ℕ). is_fault (front r)) e in
    elim (cases_Bool (is_broken s)) [
      | inl h ↦ new_closed laws s p h ∙ sym (new_closed laws t p (sym b ∙ h))
      | inr h ↦ new_open laws s p h ∙ ap (λ (r : List ℕ). bodies_in (r ++ p)) e ∙ sym (new_open laws t p (sym b ∙ h))
    ]

stands_on : (laws : Splitting) (s p : List ℕ) (ds : List (Option (List ℕ))) (f : Framing) → StandsAt s ds f → f.closed ≡ false → StandsAt (s ++ p) ds (with_piece f p)
stands_on laws s p ds f k c = record {
  bodies_are = bodies_more laws s p
      ∙ ap (λ (xs : List (Option (List ℕ))). xs ++ new_bodies s p) (k.bodies_are ∙ ap (λ (xs : List (Option (List ℕ))). ds ++ xs) (pending_open f c))
      ∙ append_assoc ds (bodies_in f.waiting) (new_bodies s p)
      ∙ ap (λ (xs : List (Option (List ℕ))). ds ++ (bodies_in f.waiting ++ xs)) (new_same laws s f.waiting p (sym (k.rest_is c)))
      ∙ ap (λ (xs : List (Option (List ℕ))). ds ++ xs) (sym (bodies_more laws f.waiting p) ∙ sym (pending_open (with_piece f p) c));
  rest_is = λ _. rest-append laws f.waiting p ∙ ap (λ (r : List ℕ). rest (r ++ p)) (k.rest_is c) ∙ sym (rest-append laws s p);
}

stands_after : (laws : Splitting) (s : List ℕ) (ds : List (Option (List ℕ))) (body : Option (List ℕ)) (f f' : Framing) → StandsAt s ds f → f.closed ≡ false → Takes f body f' → StandsAt s (ds ++ body ∷ []) f'
stands_after laws s ds body f f' k c t = record {
  bodies_are = k.bodies_are ∙ ap (λ (xs : List (Option (List ℕ))). ds ++ xs) (pending_takes laws f body f' t) ∙ sym (append_assoc ds (body ∷ []) (pending f'));
  rest_is = λ _. rest_takes laws f body f' t ∙ k.rest_is c;
}

was_open : (f f' : Framing) (body : Option (List ℕ)) → Takes f body f' → f.closed ≡ false
was_open f f' (Some b) t = t.0
was_open f f' None t = t.0

first_items : (laws : Splitting) (conn : ℕ) (s more : List ℕ) (ds : List (Option (List ℕ))) (f : Framing) → StandsAt s ds f → (waiting : List (Option (List ℕ))) × (items_in conn (s ++ more) ≡ map (item conn) (ds ++ waiting))
first_items laws conn s more ds f k = (
  pending f ++ new_bodies s more,
  ap (map (item conn)) (first_bodies laws (s ++ more) ∙ bodies_more laws s more
      ∙ ap (λ (xs : List (Option (List ℕ))). xs ++ new_bodies s more) k.bodies_are ∙ append_assoc ds (pending f) (new_bodies s more)),
)

pub stands : Splitting → Standing
stands laws = record {
  start = record { bodies_are = sym (pending_open fresh refl); rest_is = λ _. refl };
  piece = λ s p ds f. stands_on laws s p ds f;
  step = λ s ds body f f' k t. stands_after laws s ds body f f' k (was_open f f' body t) t;
  first = first_items laws;
}
