-- A piece that comes to a connection.
use Rattle.std.proofs.Common.{◌≡◌, ℕ, Bool, true, false, List, [], ◌∷◌, ◌++◌, length, map, drop, sym, ap, ◌∙◌, refl, Some, None, cond, not, ◌&&◌}
use Rattle.std.proofs.lemmas.List.{drop_at}
use Rattle.std.proofs.lemmas.Bool.{false≢true}
use Rattle.wire_frames.specs.Frames.{Front, Whole, Wait, Fault, front, Split, frames, rest, is_broken, is_fault}
use Rattle.wire_frames.specs.Splitting.{Splitting}
use Rattle.wire_frames.specs.Framing.{Framing}
use Rattle.path_hub.specs.Items.{new_bodies}
use Rattle.path_hub.specs.Pending.{bodies_in, pending, IsSound}
use Rattle.path_hub.specs.Sessions.{Settled}
use Rattle.path_hub.proofs.Loop.{pending_open, bodies_whole, bodies_fault}

fault_is : (f : Front) → is_fault f ≡ true → f ≡ Fault
fault_is (Whole b m) h = absurd (false≢true h)
fault_is Wait h = absurd (false≢true h)
fault_is Fault h = refl

frames-append : (laws : Splitting) (s p : List ℕ) → frames (s ++ p) ≡ frames s ++ frames (rest s ++ p)
frames-append laws s p = ap (λ (x : Split). x.frames) (laws.prefix s p)

pub rest-append : (laws : Splitting) (s p : List ℕ) → rest (s ++ p) ≡ rest (rest s ++ p)
rest-append laws s p = ap (λ (x : Split). x.rest) (laws.prefix s p)

broken-append : (laws : Splitting) (s p : List ℕ) → is_broken (s ++ p) ≡ is_broken (rest s ++ p)
broken-append laws s p = ap (λ x. is_fault (front x)) (rest-append laws s p)

-- what the piece makes whole is what is then pending
pub new_open : (laws : Splitting) (s p : List ℕ) → is_broken s ≡ false → new_bodies s p ≡ bodies_in (rest s ++ p)
new_open laws s p h =
    ap (λ fs. map Some (drop (length (frames s)) fs) ++ cond (is_broken (s ++ p) && not (is_broken s)) (None ∷ []) []) (frames-append laws s p)
    ∙ ap (λ fs. map Some fs ++ cond (is_broken (s ++ p) && not (is_broken s)) (None ∷ []) []) (drop_at (frames s) (frames (rest s ++ p)) (length (frames s)) refl)
    ∙ ap (λ b. map Some (frames (rest s ++ p)) ++ cond (is_broken (s ++ p) && not b) (None ∷ []) []) h
    ∙ ap (λ b. map Some (frames (rest s ++ p)) ++ cond b (None ∷ []) []) (and_true (is_broken (s ++ p)) ∙ broken-append laws s p)
  where
    and_true : (b : Bool) → (b && true) ≡ b
    and_true true = refl
    and_true false = refl

pub rest_fault : (laws : Splitting) (s p : List ℕ) → is_broken s ≡ true → front (rest s ++ p) ≡ Fault
rest_fault laws s p h = laws.fault_stays (rest s) p (fault_is (front (rest s)) h)

-- after a fault nothing comes
pub new_closed : (laws : Splitting) (s p : List ℕ) → is_broken s ≡ true → new_bodies s p ≡ []
new_closed laws s p h =
    let none : frames (rest s ++ p) ≡ [] = ap (λ (x : Split). x.frames) (laws.fault (rest s ++ p) (rest_fault laws s p h)) in
    ap (λ fs. map Some (drop (length (frames s)) fs) ++ cond (is_broken (s ++ p) && not (is_broken s)) (None ∷ []) []) (frames-append laws s p)
    ∙ ap (λ fs. map Some fs ++ cond (is_broken (s ++ p) && not (is_broken s)) (None ∷ []) []) (drop_at (frames s) (frames (rest s ++ p)) (length (frames s)) refl ∙ none)
    ∙ ap (λ b. cond (is_broken (s ++ p) && not b) (None ∷ []) []) h
    ∙ ap (λ b. cond b (None ∷ []) []) (and_false (is_broken (s ++ p)))
  where
    and_false : (b : Bool) → (b && false) ≡ false
    and_false true = refl
    and_false false = refl

pub settled_closed : (laws : Splitting) (s p : List ℕ) (f : Framing) → Settled s f → f.closed ≡ true → Settled (s ++ p) f
settled_closed laws s p f k c =
    let b : is_broken s ≡ true = sym k.closed ∙ c in
    let n : is_broken (s ++ p) ≡ true = broken-append laws s p ∙ ap is_fault (ap front (ap (λ (x : Split). x.rest) (laws.fault (rest s ++ p) (rest_fault laws s p b))) ∙ rest_fault laws s p b) in
    record { closed = c ∙ sym n; waiting = λ e. absurd (false≢true (sym e ∙ n)); sound = k.sound }

pub pending_piece : (laws : Splitting) (s p : List ℕ) (f g : Framing) → Settled s f → f.closed ≡ false → g.waiting ≡ f.waiting ++ p → g.closed ≡ false → pending g ≡ new_bodies s p
pending_piece laws s p f g k c w o =
    let b : is_broken s ≡ false = sym k.closed ∙ c in
    pending_open g o ∙ ap bodies_in (w ∙ ap (λ x. x ++ p) (k.waiting b)) ∙ sym (new_open laws s p b)

-- once all is answered it is settled again
end_at : (laws : Splitting) (w : List ℕ) (f : Framing) (c : Bool) (x : Front) → f.closed ≡ c → front f.waiting ≡ x → IsSound f → pending f ≡ [] → rest f.waiting ≡ rest w → (f.closed ≡ is_broken w) × (is_broken w ≡ false → f.waiting ≡ rest w)
end_at laws w f true x e h sound none r =
    let fault = sound e in
    let same : rest f.waiting ≡ f.waiting = ap (λ (y : Split). y.rest) (laws.fault f.waiting fault) in
    let n : is_broken w ≡ true = ap (λ y. is_fault (front y)) (sym r ∙ same) ∙ ap is_fault fault in
    (e ∙ sym n, λ z. absurd (false≢true (sym z ∙ n)))
end_at laws w f false (Whole b m) e h sound none r = let z = sym (pending_open f e ∙ bodies_whole laws f.waiting b m h) ∙ none in absurd (cc)
end_at laws w f false Fault e h sound none r = let z = sym (pending_open f e ∙ bodies_fault laws f.waiting h) ∙ none in absurd (cc)
end_at laws w f false Wait e h sound none r =
    let same : rest f.waiting ≡ f.waiting = ap (λ (y : Split). y.rest) (laws.wait f.waiting h) in
    let n : is_broken w ≡ false = ap (λ y. is_fault (front y)) (sym r ∙ same) ∙ ap is_fault h in
    (e ∙ sym n, λ z. sym same ∙ r)

pub settled_piece : (laws : Splitting) (s p : List ℕ) (f g f' : Framing) → Settled s f → f.closed ≡ false → g.waiting ≡ f.waiting ++ p → g.closed ≡ false → IsSound f' → pending f' ≡ [] → rest f'.waiting ≡ rest g.waiting → Settled (s ++ p) f'
settled_piece laws s p f g f' k c w o sound none r =
    let b : is_broken s ≡ false = sym k.closed ∙ c in
    let same : rest f'.waiting ≡ rest (s ++ p) = r ∙ ap rest (w ∙ ap (λ x. x ++ p) (k.waiting b)) ∙ sym (rest-append laws s p) in
    let e = end_at laws (s ++ p) f' f'.closed (front f'.waiting) refl refl sound none same in
    record { closed = e.0; waiting = e.1; sound = sound }
