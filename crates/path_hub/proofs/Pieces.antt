-- A piece at an open session.
use Rattle.std.proofs.Common.{◌≡◌, ◌≢◌, ℕ, Bool, true, false, List, [], ◌∷◌, ◌++◌, map, sym, ap, ◌∙◌, refl, Option, Some, None, cond, eqb, Ok, Err, Result, is_err}
use Rattle.std.proofs.lemmas.List.{append-nil, append_assoc, map-append}
use Rattle.std.proofs.lemmas.Bool.{false≢true}
use Rattle.wire_frames.specs.Frames.{Split, front, frames, rest, is_broken, is_fault}
use Rattle.wire_frames.specs.Framing.{Framing, with_piece}
use Rattle.wire_frames.specs.Splitting.{Splitting}
use Rattle.path_hub.specs.Items.{new_bodies}
use Rattle.path_hub.specs.Runs.{Run}
use Rattle.path_hub.specs.Pending.{IsSound, pending, bodies_in, item}
use Rattle.path_hub.specs.Into.{joined, sent, TakesPiece, Bytes}
use Rattle.path_hub.specs.Sessions.{session, Settled, Sets}
use Rattle.path_hub.specs.HubState.{HubState}
use Rattle.path_hub.specs.Serving.{items_in}
use Rattle.path_hub.specs.declared.fault.HubFault.{HubFault}
use Rattle.path_hub.specs.declared.fault.HubFault.TheVariants as fault
use Rattle.path_hub.proofs.Settling.{new_open, pending_piece, settled_piece}
use Rattle.path_hub.proofs.Feeding.{same_test, empty_split, empty_broken}
use Rattle.std.proofs.lemmas.Bool.Decides.{Decides-eqb}
use Rattle.std.proofs.lemmas.Option.{same_Some}

-- a stream's bodies are those of its first bytes and then the new ones
pub bodies-append : (laws : Splitting) (s p : List ℕ) → is_broken s ≡ false → bodies_in (s ++ p) ≡ bodies_in s ++ new_bodies s p
bodies-append laws s p h =
    ap (λ (x : Split). map Some x.frames ++ cond (is_fault (front x.rest)) (None ∷ []) []) (laws.prefix s p)
    ∙ ap (λ xs. xs ++ cond (is_broken (rest s ++ p)) (None ∷ []) []) (map-append Some (frames s) (frames (rest s ++ p)))
    ∙ append_assoc (map Some (frames s)) (map Some (frames (rest s ++ p))) (cond (is_broken (rest s ++ p)) (None ∷ []) [])
    ∙ ap (λ xs. xs ++ bodies_in (rest s ++ p)) (sym (append-nil (map Some (frames s))) ∙ sym (ap (λ b. map Some (frames s) ++ cond b (None ∷ []) []) h))
    ∙ ap (λ xs. bodies_in s ++ xs) (sym (new_open laws s p h))

pub first_bodies : (laws : Splitting) (s : List ℕ) → new_bodies [] s ≡ bodies_in s
first_bodies laws s = new_open laws [] s (empty_broken laws) ∙ ap (λ (x : Split). bodies_in (x.rest ++ s)) (empty_split laws)

pub items_more : (laws : Splitting) (conn : ℕ) (s p : List ℕ) → is_broken s ≡ false → items_in conn (s ++ p) ≡ items_in conn s ++ map (item conn) (new_bodies s p)
items_more laws conn s p h = ap (map (item conn)) (first_bodies laws (s ++ p) ∙ bodies-append laws s p h) ∙ map-append (item conn) (bodies_in s) (new_bodies s p) ∙ ap (λ xs. map (item conn) xs ++ map (item conn) (new_bodies s p)) (sym (first_bodies laws s))

-- the session after all of a piece is answered
pub record IsLeft (conn : ℕ) (stream piece : List ℕ) (h' : HubState) : Type 0 where
  pub left : Framing
  pub has : session conn h'.sessions ≡ Some left
  pub settled : Settled (stream ++ piece) left

-- some of what a piece makes whole is answered
pub record Answers (conn : ℕ) (stream piece : List ℕ) (h : HubState) (bytes : List ℕ) (h' : HubState) (all : Bool) : Type 0 where
  pub first : List (Option (List ℕ))
  pub others : List (Option (List ℕ))
  pub bodies_are : new_bodies stream piece ≡ first ++ others
  pub frames : List (List ℕ)
  pub out : bytes ≡ joined frames
  pub run : Run h.tenants (map (item conn) first) (map (sent conn) frames) h'.tenants
  pub others_stay : (q : ℕ) → q ≢ conn → session q h'.sessions ≡ session q h.sessions
  pub none_left : all ≡ true → others ≡ []
  pub settled : all ≡ true → IsLeft conn stream piece h'

not_there : (conn q : ℕ) → q ≢ conn → eqb q conn ≡ false
not_there conn q n = by (eqb q conn) refl
  where
    by : (b : Bool) → eqb q conn ≡ b → b ≡ false
    by true e = absurd (n ((Decides-eqb q conn).0 e))
    by false e = refl

pub sets_others : (conn : ℕ) (v : Option Framing) (ss ss' : List (ℕ × Framing)) → Sets conn v ss ss' → (q : ℕ) → q ≢ conn → session q ss' ≡ session q ss
sets_others conn v ss ss' sets q n = sets q ∙ ap (λ b. cond b v (session q ss)) (same_test conn q ∙ not_there conn q n)

pub sets_here : (conn : ℕ) (v : Option Framing) (ss ss' : List (ℕ × Framing)) → Sets conn v ss ss' → session conn ss' ≡ v
sets_here conn v ss ss' sets = sets conn ∙ ap (λ b. cond b v (session conn ss)) (same_test conn conn ∙ (Decides-eqb conn conn).1 refl)

open_left : (laws : Splitting) (conn : ℕ) (s p : List ℕ) (f : Framing) (h h' : HubState) (bytes : List ℕ) (all : Bool) → Settled s f → (t : TakesPiece conn p h [] h' bytes all) → t.framing ≡ f → Answers conn s p h bytes h' all
open_left laws conn s p f h h' bytes all z t same =
    let k : f.closed ≡ false = sym (ap (λ (x : Framing). x.closed) same) ∙ t.open' in
    let g = with_piece t.framing p in
    let gw : g.waiting ≡ f.waiting ++ p = ap (λ (x : Framing). x.waiting ++ p) same in
    let gc : g.closed ≡ false = t.open' in
    let a = t.answers in
    let sound : IsSound t.left = a.sound (λ e. absurd (false≢true (sym gc ∙ e))) in
    record {
      first = a.done;
      others = pending t.left;
      bodies_are = sym (pending_piece laws s p f g z k gw gc) ∙ a.pending_is;
      frames = a.frames;
      out = a.out;
      run = a.run;
      others_stay = sets_others conn (Some t.left) h.sessions h'.sessions t.sets;
      none_left = t.all_is;
      settled = λ e. record { left = t.left; has = sets_here conn (Some t.left) h.sessions h'.sessions t.sets; settled = settled_piece laws s p f g t.left z k gw gc sound (t.all_is e) a.rest_is };
    }

none_answered : (conn : ℕ) (s p : List ℕ) (h h' : HubState) (bytes : List ℕ) → h' ≡ h → bytes ≡ [] → Answers conn s p h bytes h' false
none_answered conn s p h h' bytes e o = record {
  first = [];
  others = new_bodies s p;
  bodies_are = refl;
  frames = [];
  out = o;
  run = ap (λ (x : HubState). x.tenants) e;
  others_stay = λ q n. ap (λ (x : HubState). session q x.sessions) e;
  none_left = λ c. absurd (false≢true c);
  settled = λ c. absurd (false≢true c);
}

pub is_ok_of : Result (Unit {0}) HubFault → Bool
is_ok_of (Ok u) = true
is_ok_of (Err e) = false

-- what a call of the hub answers
pub answers_of : (laws : Splitting) (conn : ℕ) (s p : List ℕ) (f : Framing) (h h' : HubState) (bytes : List ℕ) (r : Result (Unit {0}) HubFault) → Settled s f → session conn h.sessions ≡ Some f → Bytes conn p h [] r h' bytes → Answers conn s p h bytes h' (is_ok_of r)
unfolding is_ok_of
answers_of laws conn s p f h h' bytes (Ok u) z w b = open_left laws conn s p f h h' bytes true z b (same_Some b.framing f (sym b.was ∙ w))
answers_of laws conn s p f h h' bytes (Err fault.NoConnection) z w b = none_answered conn s p h h' bytes b.1 b.2
answers_of laws conn s p f h h' bytes (Err fault.Closed) z w b = none_answered conn s p h h' bytes b.1 b.2
answers_of laws conn s p f h h' bytes (Err (fault.Memory true)) z w b = open_left laws conn s p f h h' bytes false z b.0 (same_Some b.0.framing f (sym b.0.was ∙ w))
answers_of laws conn s p f h h' bytes (Err (fault.Memory false)) z w b = none_answered conn s p h h' bytes b.1 b.2

pub ok_of : (r : Result (Unit {0}) HubFault) (b : Bool) → b ≡ is_err r → b ≡ false → is_ok_of r ≡ true
unfolding is_ok_of
ok_of (Ok u) b e f = refl
ok_of (Err x) b e f = absurd (false≢true (sym f ∙ e))
