-- Serving a connection, turn by turn.
use Rattle.std.proofs.Common.{◌≡◌, ◌≢◌, ℕ, ◌+◌, ◌<◌, ◌≤◌, Bool, true, false, List, [], ◌∷◌, ◌++◌, length, map, sym, ap, ◌∙◌, subst, refl, Some, None, arith, Ok, Err, Result, cond, is_err}
use Rattle.std.specs.Option.{option_map_or}
use Rattle.std.proofs.lemmas.List.{append-nil, append_assoc, map-append}
use Rattle.std.proofs.lemmas.Bool.{false≢true}
use Rattle.wire_frames.specs.Frames.{is_broken, is_fault, front, Split}
use Rattle.wire_frames.specs.Framing.{Framing, fresh}
use Rattle.wire_frames.specs.Splitting.{Splitting}
use Rattle.path_hub.specs.Items.{Item}
use Rattle.path_hub.specs.Runs.{Run}
use Rattle.path_hub.specs.Pending.{item, bodies_in}
use Rattle.path_hub.specs.Into.{joined, sent, Bytes}
use Rattle.path_hub.specs.Sessions.{session, Settled, Sets}
use Rattle.path_hub.specs.HubState.{HubState}
use Rattle.path_hub.specs.Wires.{Move, Gave, Took, Meaning, Moved, HasEnded, Reads, WritesAll, reads_after, rise, read_in, written_in}
use Rattle.path_hub.specs.Serving.{Ends, EndsCounts, EndsItems, IsPaced, ServesConnection, items_in, longest_piece}
use Rattle.path_hub.specs.Turns.{Serving, IsCounted, IsPiece}
use Rattle.path_hub.specs.declared.wire.ConnEnd.{ConnEnd}
use Rattle.path_hub.specs.declared.wire.ConnEnd.TheVariants.{Done, WriteFault, FrameFault, TurnLimit, Memory}
use Rattle.path_hub.specs.declared.fault.HubFault.{HubFault}
use Rattle.path_hub.specs.declared.fault.ConnectFault.{ConnectFault}
use Rattle.std.specs.Prelude.{OnOk, OnErr}
use Rattle.path_hub.proofs.Alone.{run-append}
use Rattle.path_hub.proofs.Feeding.{empty_split, empty_broken}
use Rattle.path_hub.proofs.Traffic.{moved_none, moved_trans, read_in-append, written_in-append, read_in-took, written_in-took, joined-append, up_to_more, up_to_all, paced_more, paced-append, paced_took}
use Rattle.path_hub.proofs.Pieces.{Answers, answers_of, is_ok_of, items_more, first_bodies, sets_here, sets_others}

-- what was read so far, with the items that got no reply and the bytes that were not written
pub record After (conn : ℕ) (h : HubState) (m : Meaning) (input : List ℕ) (others : List Item) (unsent : List ℕ) (h' : HubState) (n : Meaning) : Type 0 where
  pub moved : List Move
  pub input_is : read_in moved ≡ input
  pub first : List Item
  pub items_are : items_in conn input ≡ first ++ others
  pub frames : List (List ℕ)
  pub run : Run h.tenants first (map (sent conn) frames) h'.tenants
  pub replies_are : joined frames ≡ written_in moved ++ unsent
  pub paced : IsPaced conn frames [] [] moved
  pub told : Moved m.traffic moved n.traffic
  pub others_stay : (q : ℕ) → q ≢ conn → session q h'.sessions ≡ session q h.sessions

ends_of : (conn : ℕ) (h h' : HubState) (m n : Meaning) (input : List ℕ) (others : List Item) (unsent : List ℕ) (e : ConnEnd) → After conn h m input others unsent h' n → n.reads ≤ m.reads + 1000000 → EndsCounts e m n → EndsItems e input others unsent m n → Ends conn h m e h' n
ends_of conn h h' m n input others unsent e a few counts items = record {
  moved = a.moved;
  first = a.first;
  others = others;
  items_are = ap (items_in conn) a.input_is ∙ a.items_are;
  frames = a.frames;
  run = a.run;
  unsent = unsent;
  replies_are = a.replies_are;
  paced = a.paced;
  told = a.told;
  others_stay = a.others_stay;
  few_reads = few;
  counts = counts;
  items_end = subst (λ x. EndsItems e x others unsent m n) (sym a.input_is) items;
}

whole : {conn : ℕ} {h h' : HubState} {m n : Meaning} {k : ℕ} → (s : Serving conn h m k h' n) → is_broken (read_in s.moved) ≡ false
whole s = sym s.settled.closed ∙ s.open'

-- nothing more was answered
still : (conn : ℕ) (h h' : HubState) (m n n' : Meaning) (k : ℕ) (s : Serving conn h m k h' n) (xs : List Move) → read_in xs ≡ [] → written_in xs ≡ [] → IsPaced conn s.frames (read_in s.moved) (written_in s.moved) xs → Moved n.traffic xs n'.traffic → After conn h m (read_in s.moved) [] [] h' n'
still conn h h' m n n' k s xs e f p t = record {
  moved = s.moved ++ xs;
  input_is = read_in-append s.moved xs ∙ ap (λ x. read_in s.moved ++ x) e ∙ append-nil (read_in s.moved);
  first = items_in conn (read_in s.moved);
  items_are = sym (append-nil (items_in conn (read_in s.moved)));
  frames = s.frames;
  run = s.run;
  replies_are = sym (append-nil (written_in (s.moved ++ xs)) ∙ written_in-append s.moved xs ∙ ap (λ x. written_in s.moved ++ x) f ∙ append-nil (written_in s.moved) ∙ s.written);
  paced = paced-append conn s.frames [] [] s.moved xs s.paced p;
  told = moved_trans m.traffic n.traffic n'.traffic s.moved xs s.told t;
  others_stay = s.others_stay;
}

pub input_ends : (conn : ℕ) (h h' : HubState) (m n n' : Meaning) (k : ℕ) → IsCounted m k → Serving conn h m k h' n → Reads n [] n' → HasEnded n'.traffic → Ends conn h m Done h' n'
input_ends conn h h' m n n' k c s r e =
    ends_of conn h h' m n' (read_in s.moved) [] [] Done
    (still conn h h' m n n' k s (Gave [] ∷ []) refl refl (up_to_all conn s.frames (read_in s.moved) (written_in s.moved) h.tenants h'.tenants s.run s.written, omega arith, tt) r.moved)
    (omega (arith, r.reads, s.reads, c.0)) (r.failures ∙ s.failures) (whole s, refl, refl, e)

pub turns_over : (conn : ℕ) (h h' : HubState) (m n : Meaning) → Serving conn h m 1000000 h' n → Ends conn h m TurnLimit h' n
turns_over conn h h' m n s =
    ends_of conn h h' m n (read_in s.moved) [] [] TurnLimit (still conn h h' m n n 1000000 s [] refl refl tt (moved_none n.traffic))
    (omega (arith, s.reads)) (s.failures, s.reads) (whole s, refl, refl)

-- a piece, and what was written of the replies to it
answered : (laws : Splitting) (conn : ℕ) (h h' h'' : HubState) (m n n' n'' : Meaning) (k : ℕ) (s : Serving conn h m k h' n) (p bytes : List ℕ) (all done : Bool) → Reads n p n' → length p ≤ longest_piece
    → (a : Answers conn (read_in s.moved) p h' bytes h'' all) → (w : WritesAll n' bytes done n'') → After conn h m (read_in s.moved ++ p) (map (item conn) a.others) w.others h'' n''
answered laws conn h h' h'' m n n' n'' k s p bytes all done r few a w =
    let i = read_in s.moved in
    let before = s.moved ++ Gave p ∷ [] in
    let took = map Took w.pieces in
    let frames = s.frames ++ a.frames in
    let written : written_in (before ++ took) ≡ joined s.frames ++ joined w.pieces =
    written_in-append before took ∙ ap (λ x. written_in before ++ x) (written_in-took w.pieces) ∙ ap (λ x. x ++ joined w.pieces) (written_in-append s.moved (Gave p ∷ []) ∙ append-nil (written_in s.moved) ∙ s.written) in
    record {
      moved = before ++ took;
      input_is = read_in-append before took ∙ ap (λ x. read_in before ++ x) (read_in-took w.pieces) ∙ append-nil (read_in before) ∙ read_in-append s.moved (Gave p ∷ []) ∙ ap (λ x. i ++ x) (append-nil p);
      first = items_in conn i ++ map (item conn) a.first;
      items_are = items_more laws conn i p (whole s) ∙ ap (λ xs. items_in conn i ++ map (item conn) xs) a.bodies_are ∙ ap (λ xs. items_in conn i ++ xs) (map-append (item conn) a.first a.others) ∙ sym (append_assoc (items_in conn i) (map (item conn) a.first) (map (item conn) a.others));
      frames = frames;
      run = subst (λ ts. Run h.tenants (items_in conn i ++ map (item conn) a.first) ts h''.tenants) (sym (map-append (sent conn) s.frames a.frames))
          (run-append (items_in conn i) (map (item conn) a.first) (map (sent conn) s.frames) (map (sent conn) a.frames) h.tenants h'.tenants h''.tenants s.run a.run);
      replies_are = joined-append s.frames a.frames ∙ ap (λ x. joined s.frames ++ x) (sym a.out ∙ w.bytes_are) ∙ sym (append_assoc (joined s.frames) (joined w.pieces) w.others) ∙ ap (λ x. x ++ w.others) (sym written);
      paced = paced-append conn frames [] [] before took
          (paced-append conn frames [] [] s.moved (Gave p ∷ []) (paced_more conn s.frames a.frames [] [] s.moved s.paced)
          (up_to_more conn s.frames a.frames i (written_in s.moved) (up_to_all conn s.frames i (written_in s.moved) h.tenants h'.tenants s.run s.written), few, tt))
          (paced_took conn frames (read_in before) (written_in before) w.pieces);
      told = moved_trans m.traffic n'.traffic n''.traffic before took (moved_trans m.traffic n.traffic n'.traffic s.moved (Gave p ∷ []) s.told r.moved) w.moved;
      others_stay = λ q x. a.others_stay q x ∙ s.others_stay q x;
    }

read_more : (n : ℕ) (p : List ℕ) → 0 < length p → n < 18446744073709551615 → reads_after n p ≡ n + 1
read_more n [] l b = absurd (omega arith)
read_more n (x ∷ p) l b = omega arith

counted : (conn : ℕ) (h h' : HubState) (m n n' n'' : Meaning) (k : ℕ) (p bytes : List ℕ) (done : Bool) → IsCounted m k → Serving conn h m k h' n → Reads n p n' → 0 < length p → WritesAll n' bytes done n'' → n''.reads ≡ m.reads + (k + 1)
counted conn h h' m n n' n'' k p bytes done c s r some w =
    let b : n.reads < 18446744073709551615 = omega (arith, s.reads, c.0, c.1) in
    let e = read_more n.reads p some b in
    omega (arith, w.reads, r.reads, s.reads)

few_of : (m n : Meaning) (k : ℕ) → k < 1000000 → n.reads ≡ m.reads + (k + 1) → n.reads ≤ m.reads + 1000000
few_of m n k l e = omega arith

at_nothing : (conn : ℕ) (p : List ℕ) (h h' : HubState) (before bytes : List ℕ) (r : Result (Unit {0}) HubFault) → before ≡ [] → Bytes conn p h before r h' bytes → Bytes conn p h [] r h' bytes
at_nothing conn p h h' before bytes r e b = subst (λ x. Bytes conn p h x r h' bytes) e b

-- memory ran out
pub piece_memory : (laws : Splitting) (conn : ℕ) (h h' h'' : HubState) (m n n' n'' : Meaning) (k : ℕ) (p before bytes : List ℕ) (r : Result (Unit {0}) HubFault) (done : Bool) → IsCounted m k → Serving conn h m k h' n → Reads n p n' → IsPiece p → before ≡ [] → Bytes conn p h' before r h'' bytes → WritesAll n' bytes done n'' → Ends conn h m Memory h'' n''
piece_memory laws conn h h' h'' m n n' n'' k p before bytes r done c s g piece e b w =
    let a = answers_of laws conn (read_in s.moved) p s.framing h' h'' bytes r s.settled s.was (at_nothing conn p h' h'' before bytes r e b) in
    ends_of conn h h'' m n'' (read_in s.moved ++ p) (map (item conn) a.others) w.others Memory (answered laws conn h h' h'' m n n' n'' k s p bytes (is_ok_of r) done g piece.few a w)
    (few_of m n'' k c.0 (counted conn h h' m n n' n'' k p bytes done c s g piece.some w)) (omega (arith, w.failures, g.failures, s.failures)) (by done w.all (w.failures ∙ ap (λ x. x + rise done) (g.failures ∙ s.failures)))
  where
    by : (d : Bool) → (d ≡ true → w.others ≡ []) → n''.failures ≡ m.failures + rise d → n''.failures ≡ m.failures → w.others ≡ []
    by true f x y = f refl
    by false f x y = absurd (omega arith)

-- a write failed
pub piece_fails : (laws : Splitting) (conn : ℕ) (h h' h'' : HubState) (m n n' n'' : Meaning) (k : ℕ) (p before bytes : List ℕ) (r : Result (Unit {0}) HubFault) (done : Bool) → IsCounted m k → Serving conn h m k h' n → Reads n p n' → IsPiece p → before ≡ [] → Bytes conn p h' before r h'' bytes → is_ok_of r ≡ true → WritesAll n' bytes done n'' → done ≡ false → Ends conn h m WriteFault h'' n''
piece_fails laws conn h h' h'' m n n' n'' k p before bytes r done c s g piece e b o w d =
    let a = answers_of laws conn (read_in s.moved) p s.framing h' h'' bytes r s.settled s.was (at_nothing conn p h' h'' before bytes r e b) in
    ends_of conn h h'' m n'' (read_in s.moved ++ p) (map (item conn) a.others) w.others WriteFault (answered laws conn h h' h'' m n n' n'' k s p bytes (is_ok_of r) done g piece.few a w)
    (few_of m n'' k c.0 (counted conn h h' m n n' n'' k p bytes done c s g piece.some w)) (w.failures ∙ ap (λ x. x + rise done) (g.failures ∙ s.failures) ∙ ap (λ x. m.failures + rise x) d) (ap (map (item conn)) (a.none_left o))

no_fault : (m n n' n'' : Meaning) (done : Bool) → done ≡ true → n''.failures ≡ n'.failures + rise done → n'.failures ≡ n.failures → n.failures ≡ m.failures → n''.failures ≡ m.failures
no_fault m n n' n'' done d a b c = a ∙ ap (λ x. n'.failures + rise x) d ∙ omega (arith, b, c)

closed_at : (conn : ℕ) (h : HubState) (f : Framing) (b : Bool) → session conn h.sessions ≡ Some f → b ≡ option_map_or (λ (x : Framing). x.closed) (session conn h.sessions) false → f.closed ≡ b
closed_at conn h f b w e = sym (e ∙ ap (λ o. option_map_or (λ (x : Framing). x.closed) o false) w)

-- a framing fault came
pub piece_breaks : (laws : Splitting) (conn : ℕ) (h h' h'' : HubState) (m n n' n'' : Meaning) (k : ℕ) (p before bytes : List ℕ) (r : Result (Unit {0}) HubFault) (done b : Bool) → IsCounted m k → Serving conn h m k h' n → Reads n p n' → IsPiece p → before ≡ [] → Bytes conn p h' before r h'' bytes → is_ok_of r ≡ true → WritesAll n' bytes done n'' → done ≡ true
    → b ≡ option_map_or (λ (x : Framing). x.closed) (session conn h''.sessions) false → b ≡ true → Ends conn h m FrameFault h'' n''
piece_breaks laws conn h h' h'' m n n' n'' k p before bytes r done t c s g piece e b o w d x y =
    let a = answers_of laws conn (read_in s.moved) p s.framing h' h'' bytes r s.settled s.was (at_nothing conn p h' h'' before bytes r e b) in
    let l = a.settled o in
    ends_of conn h h'' m n'' (read_in s.moved ++ p) (map (item conn) a.others) w.others FrameFault (answered laws conn h h' h'' m n n' n'' k s p bytes (is_ok_of r) done g piece.few a w)
    (few_of m n'' k c.0 (counted conn h h' m n n' n'' k p bytes done c s g piece.some w)) (no_fault m n n' n'' done d w.failures g.failures s.failures)
    (sym l.settled.closed ∙ closed_at conn h'' l.left t l.has x ∙ y, ap (map (item conn)) (a.none_left o), w.all d)

-- another turn may come
pub piece_served : (laws : Splitting) (conn : ℕ) (h h' h'' : HubState) (m n n' n'' : Meaning) (k : ℕ) (p before bytes : List ℕ) (r : Result (Unit {0}) HubFault) (done b : Bool) → IsCounted m k → Serving conn h m k h' n → Reads n p n' → IsPiece p → before ≡ [] → Bytes conn p h' before r h'' bytes → is_ok_of r ≡ true → WritesAll n' bytes done n'' → done ≡ true
    → b ≡ option_map_or (λ (x : Framing). x.closed) (session conn h''.sessions) false → b ≡ false → Serving conn h m (k + 1) h'' n''
piece_served laws conn h h' h'' m n n' n'' k p before bytes r done t c s g piece e b o w d x y =
    let a = answers_of laws conn (read_in s.moved) p s.framing h' h'' bytes r s.settled s.was (at_nothing conn p h' h'' before bytes r e b) in
    let l = a.settled o in
    let z = answered laws conn h h' h'' m n n' n'' k s p bytes (is_ok_of r) done g piece.few a w in
    let none : items_in conn (read_in z.moved) ≡ z.first = ap (items_in conn) z.input_is ∙ z.items_are ∙ ap (λ xs. z.first ++ map (item conn) xs) (a.none_left o) ∙ append-nil z.first in
    record {
      moved = z.moved;
      frames = z.frames;
      run = subst (λ is. Run h.tenants is (map (sent conn) z.frames) h''.tenants) (sym none) z.run;
      written = sym (z.replies_are ∙ ap (λ u. written_in z.moved ++ u) (w.all d) ∙ append-nil (written_in z.moved));
      paced = z.paced;
      told = z.told;
      framing = l.left;
      was = l.has;
      open' = closed_at conn h'' l.left t l.has x ∙ y;
      settled = subst (λ i. Settled i l.left) (sym z.input_is) l.settled;
      others_stay = z.others_stay;
      failures = no_fault m n n' n'' done d w.failures g.failures s.failures;
      reads = counted conn h h' m n n' n'' k p bytes done c s g piece.some w;
    }

no_items : (laws : Splitting) (conn : ℕ) → items_in conn [] ≡ []
no_items laws conn = ap (map (item conn)) (first_bodies laws [] ∙ by)
  where
    by : bodies_in [] ≡ []
    by = ap (λ (x : Split). map Some x.frames ++ cond (is_fault (front x.rest)) (None ∷ []) []) (empty_split laws) ∙ ap (λ b. cond b (None ∷ []) []) (sym (ap (λ (x : Split). is_fault (front x.rest)) (empty_split laws)) ∙ (empty_broken laws))

-- a connection that was opened
pub opened : (laws : Splitting) (conn : ℕ) (h h' : HubState) (m : Meaning) → Sets conn (Some fresh) h.sessions h'.sessions → h'.tenants ≡ h.tenants → Serving conn h m 0 h' m
opened laws conn h h' m sets e = record {
  moved = [];
  frames = [];
  run = subst (λ is. Run h.tenants is [] h'.tenants) (sym (no_items laws conn)) e;
  written = refl;
  paced = tt;
  told = moved_none m.traffic;
  framing = fresh;
  was = sets_here conn (Some fresh) h.sessions h'.sessions sets;
  open' = refl;
  settled = record { closed = sym (empty_broken laws); waiting = λ _. sym (ap (λ (x : Split). x.rest) (empty_split laws)); sound = λ c. absurd (false≢true c) };
  others_stay = sets_others conn (Some fresh) h.sessions h'.sessions sets;
  failures = refl;
  reads = omega arith;
}

-- a connection that was not opened, and is free
pub not_opened : (laws : Splitting) (conn : ℕ) (h h' : HubState) (m : Meaning) → h' ≡ h → session conn h.sessions ≡ None → ServesConnection conn h m Memory h' m
not_opened laws conn h h' m e f = record {
  free = ap (λ (x : HubState). session conn x.sessions) e ∙ f;
  ends = record {
    moved = [];
    first = [];
    others = [];
    items_are = no_items laws conn;
    frames = [];
    run = ap (λ (x : HubState). x.tenants) e;
    unsent = [];
    replies_are = refl;
    paced = tt;
    told = moved_none m.traffic;
    others_stay = λ q n. ap (λ (x : HubState). session q x.sessions) e;
    few_reads = omega arith;
    counts = omega arith;
    items_end = λ _. refl;
  };
}

-- and ended
pub closes : (conn : ℕ) (h h' h'' : HubState) (m n : Meaning) (e : ConnEnd) → Ends conn h m e h' n → Sets conn None h'.sessions h''.sessions → h''.tenants ≡ h'.tenants → ServesConnection conn h m e h'' n
closes conn h h' h'' m n e x sets o = record {
  free = sets_here conn None h'.sessions h''.sessions sets;
  ends = record {
    moved = x.moved;
    first = x.first;
    others = x.others;
    items_are = x.items_are;
    frames = x.frames;
    run = subst (λ os. Run h.tenants x.first (map (sent conn) x.frames) os) (sym o) x.run;
    unsent = x.unsent;
    replies_are = x.replies_are;
    paced = x.paced;
    told = x.told;
    others_stay = λ q d. sets_others conn None h'.sessions h''.sessions sets q d ∙ x.others_stay q d;
    few_reads = x.few_reads;
    counts = x.counts;
    items_end = x.items_end;
  };
}

pub ok_gives : (r : Result (Unit {0}) ConnectFault) (b : Bool) {P : Type 0} → b ≡ is_err r → b ≡ false → OnOk r P → P
ok_gives (Ok u) b e f p = p
ok_gives (Err x) b e f p = absurd (false≢true (sym f ∙ e))

pub err_gives : (r : Result (Unit {0}) ConnectFault) (b : Bool) {P : Type 0} → b ≡ is_err r → b ≡ true → OnErr r P → P
err_gives (Ok u) b e f p = absurd (false≢true (sym e ∙ f))
err_gives (Err x) b e f p = p
