-- What a builder keeps of its open containers, as its tape grows and is changed.
use Rattle.json_text.proofs.Names.{◌≡◌, ℕ, zero, suc, true, false, List, [], ◌∷◌, ◌++◌, length, refl, ap, arith, Result, OnOk, reverse, false≢true}
use Rattle.json_text.proofs.Names.{change_at, closed}
use Rattle.std.specs.Prelude.{is_ok, is_err, if◌then◌else◌}
use Rattle.std.proofs.lemmas.List.{reverse-append}
use Rattle.json_text.specs.declared.tape.Entry.{Entry}
use Rattle.json_text.specs.declared.tape.Open.{Open}
use Rattle.tape_cells.specs.Cells.{is_container, container_at}
use Rattle.tape_cells.specs.Opened.{AreOpened}

-- what a call that did not fail shows
pub unless_err : {A E P : Type 0} (r : Result A E) → false ≡ is_err r → OnOk r P → P
unless_err r e h = grind (arith, false≢true)

container_more : (es xs : List Entry) (n : ℕ) → container_at es n ≡ true → container_at (es ++ xs) n ≡ true
container_more [] xs n h = absurd (false≢true h)
container_more (e ∷ es) xs zero h = h
container_more (e ∷ es) xs (suc n) h = container_more es xs n h

pub container_here : (es : List Entry) (e : Entry) → container_at (es ++ e ∷ []) (length es) ≡ is_container e.kind
container_here [] e = refl
container_here (a ∷ es) e = container_here es e

container_changed : (es : List Entry) (i : ℕ) (f : Entry → Entry) (n : ℕ) → ((e : Entry) → (f e).kind ≡ e.kind) → container_at (change_at es i f) n ≡ container_at es n
container_changed (e ∷ es) zero f zero h = ap is_container (h e)
container_changed (e ∷ es) (suc i) f (suc n) h = container_changed es i f n h
container_changed _ _ f _ h = refl

pub opened_more : (es xs : List Entry) (os : List Open) → AreOpened es os → AreOpened (es ++ xs) os
opened_more es xs [] h = tt
opened_more es xs (o ∷ os) h = grind (arith, opened_more es xs os h.2, container_more)

pub opened_closed : (es : List Entry) (os : List Open) (i place children after : ℕ) → AreOpened es os → AreOpened (change_at es i (closed place children after)) os
opened_closed es [] i place children after h = tt
opened_closed es (o ∷ os) i place children after h = grind (arith, opened_closed es os i place children after h.2, container_changed)

-- a list after a push that did not fail, and one that did, read from its end
pub pushed : {A E : Type 0} (r : Result A E) (new old : List Open) (o : Open) → false ≡ is_err r → new ≡ (if is_ok r then old ++ o ∷ [] else old) → reverse new ≡ o ∷ reverse old
pushed r new old o e h = grind (arith, reverse-append, false≢true)

pub not_pushed : {A E : Type 0} (r : Result A E) (new old : List Open) (o : Open) → true ≡ is_err r → new ≡ (if is_ok r then old ++ o ∷ [] else old) → new ≡ old
not_pushed r new old o e h = grind arith
