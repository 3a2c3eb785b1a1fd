-- Requests called one after another.
use Rattle.std.proofs.Common.{◌≡◌, ◌≢◌, ℕ, ◌+◌, ◌<◌, ◌≤◌, List, [], ◌∷◌, ◌++◌, length, map, sym, ap, ◌∙◌, subst, refl, arith, ◌⊎◌, inl, inr, suc, take, drop, slice_index_or, Ok, Err}
use Rattle.std.specs.List.{All, flat_map}
use Rattle.std.proofs.lemmas.List.{append-nil, append_assoc, drop_at, length-append, map-append, map_more}
use Rattle.std.proofs.Math.Seq.{drop-append-add, split_at}
use Rattle.std.proofs.lemmas.List.Concat.{flat_map-append}
use Rattle.std.proofs.lemmas.List.Elements.{All-nil, All-push}
use Rattle.store_names.specs.Lengths.{longest_reply}
use Rattle.wire_frames.specs.Frames.{frame}
use Rattle.path_hub.specs.Into.{joined}
use Rattle.path_hub.specs.Wires.{Meaning, Move, Gave, Took, Moved, read_in, written_in}
use Rattle.path_server.specs.FrameLines.{frame_line}
use Rattle.path_server.specs.Calls.{AreReplies, AreTurns, Calls, frame_of, EndsCall, HoldsNoReply, IsAsked, IsPaced, IsTurn, StartsNext, reply_lines}
use Rattle.path_server.specs.Exchanges.{Exchanges, IsReply}
use Rattle.path_server.specs.declared.request_lines.Request.{Request}
use Rattle.path_server.specs.declared.call_fault.CallFault.{CallFault}
use Rattle.path_server.specs.declared.call_fault.CallFault.TheVariants.{TooLong, BadLine, ReadFault, WriteFault, Memory}
use Rattle.path_server.proofs.Moves.{moved_none, moved_trans, read_on, written_on, turn_read, turn_written}
use Rattle.path_server.proofs.Framed.{holds_nothing}
use Rattle.path_server.proofs.Replying.{fault_since}

abbrev IsShort : List ℕ → Type 0
IsShort body = length body ≤ longest_reply

-- ---- turns

turns_written : (qs bs : List (List ℕ)) (ms : List Move) → AreTurns qs bs ms → written_in ms ≡ joined qs
turns_written [] [] ms t = ap written_in t
turns_written [] (b ∷ bs) ms t = absurd t
turns_written (q ∷ qs) [] ms t = absurd t
turns_written (q ∷ qs) (b ∷ bs) ms (first, others, e, t, more) =
    ap written_in e ∙ written_on first others ∙ ap (λ x. x ++ written_in others) (ap written_in t.moves_are ∙ turn_written t.pieces t.chunks ∙ t.sent) ∙ ap (λ x. q ++ x) (turns_written qs bs others more)

turns_read : (qs bs : List (List ℕ)) (ms : List Move) → AreTurns qs bs ms → read_in ms ≡ flat_map frame bs
turns_read [] [] ms t = ap read_in t
turns_read [] (b ∷ bs) ms t = absurd t
turns_read (q ∷ qs) [] ms t = absurd t
turns_read (q ∷ qs) (b ∷ bs) ms (first, others, e, t, more) =
    ap read_in e ∙ read_on first others ∙ ap (λ x. x ++ read_in others) (ap read_in t.moves_are ∙ turn_read t.pieces t.chunks ∙ t.read) ∙ ap (λ x. frame b ++ x) (turns_read qs bs others more)

turns_length : (qs bs : List (List ℕ)) (ms : List Move) → AreTurns qs bs ms → length bs ≡ length qs
turns_length [] [] ms t = refl
turns_length [] (b ∷ bs) ms t = absurd t
turns_length (q ∷ qs) [] ms t = absurd t
turns_length (q ∷ qs) (b ∷ bs) ms (first, others, e, t, more) = ap suc (turns_length qs bs others more)

one_turn : (q b : List ℕ) (ms : List Move) → IsTurn q b ms → AreTurns (q ∷ []) (b ∷ []) ms
one_turn q b ms t = (ms, [], sym (append-nil ms), t, refl)

turns_more : (qs bs : List (List ℕ)) (ms : List Move) (q b : List ℕ) (ns : List Move) → AreTurns qs bs ms → IsTurn q b ns → AreTurns (qs ++ q ∷ []) (bs ++ b ∷ []) (ms ++ ns)
turns_more [] [] ms q b ns t one = one_turn q b (ms ++ ns) (subst (λ x. IsTurn q b (x ++ ns)) (sym t) one)
turns_more [] (c ∷ bs) ms q b ns t one = absurd t
turns_more (p ∷ qs) [] ms q b ns t one = absurd t
turns_more (p ∷ qs) (c ∷ bs) ms q b ns (first, others, e, t, more) one = (first, others ++ ns, ap (λ x. x ++ ns) e ∙ append_assoc first others ns, t, turns_more qs bs others q b ns more one)

-- ---- what was called so far

-- these requests were sent and their replies read, and a line for each stands there
pub record Called (m : Meaning) (done : List (List ℕ)) (old : List ℕ) (n : Meaning) (new : List ℕ) : Type 0 where
  pub moved : List Move
  pub told : Moved m.traffic moved n.traffic
  pub bodies : List (List ℕ)
  pub short : All IsShort bodies
  pub turns : AreTurns done bodies moved
  pub failures : n.failures ≡ m.failures
  pub appended : new ≡ old ++ reply_lines bodies

pub called_none : (m : Meaning) (old : List ℕ) → Called m [] old m old
called_none m old = record { moved = []; told = moved_none m.traffic; bodies = []; short = All-nil IsShort; turns = refl; failures = refl; appended = sym (append-nil old) }

-- the next request was sent and its reply read, and its line may be missing
pub record CalledMore (m : Meaning) (done : List (List ℕ)) (old : List ℕ) (n : Meaning) (mid : List ℕ) : Type 0 where
  pub moved : List Move
  pub told : Moved m.traffic moved n.traffic
  pub bodies : List (List ℕ)
  pub body : List ℕ
  pub short : All IsShort (bodies ++ body ∷ [])
  pub turns : AreTurns done (bodies ++ body ∷ []) moved
  pub lined : mid ≡ old ++ reply_lines bodies

turn_of : (request : List ℕ) (pieces chunks : List (List ℕ)) (unsent : List ℕ) (reply : IsReply (joined chunks)) → request ≡ joined pieces ++ unsent → unsent ≡ [] → IsTurn request reply.body (map Took pieces ++ map Gave chunks)
turn_of request pieces chunks unsent reply sent all = record { pieces = pieces; chunks = chunks; moves_are = refl; sent = sym (sent ∙ ap (λ x. joined pieces ++ x) all ∙ append-nil (joined pieces)); read = reply.framed }

with_reply : (m n k : Meaning) (done : List (List ℕ)) (request old mid : List ℕ) (pieces chunks : List (List ℕ)) (unsent : List ℕ) → Called m done old n mid → request ≡ joined pieces ++ unsent → Moved n.traffic (map Took pieces ++ map Gave chunks) k.traffic
    → unsent ≡ [] → IsReply (joined chunks) → CalledMore m (done ++ request ∷ []) old k mid
with_reply m n k done request old mid pieces chunks unsent c sent told all reply = record {
  moved = c.moved ++ (map Took pieces ++ map Gave chunks);
  told = moved_trans m.traffic n.traffic k.traffic c.moved (map Took pieces ++ map Gave chunks) c.told told;
  bodies = c.bodies;
  body = reply.body;
  short = All-push IsShort c.bodies reply.body c.short reply.short;
  turns = turns_more done c.bodies c.moved request reply.body (map Took pieces ++ map Gave chunks) c.turns (turn_of request pieces chunks unsent reply sent all);
  lined = c.appended;
}

more_lines : (bs : List (List ℕ)) (b : List ℕ) → reply_lines (bs ++ b ∷ []) ≡ reply_lines bs ++ frame_line (frame b)
more_lines bs b = flat_map-append (λ body. frame_line (frame body)) bs (b ∷ []) ∙ ap (λ x. reply_lines bs ++ x) (append-nil (frame_line (frame b)))

pub called_more : (m n k : Meaning) (done : List (List ℕ)) (request old mid reply new : List ℕ) → Called m done old n mid → Exchanges request n (Ok tt) k reply → new ≡ mid ++ frame_line reply → Called m (done ++ request ∷ []) old k new
unfolding with_reply
called_more m n k done request old mid reply new c x same =
    let w = with_reply m n k done request old mid x.pieces x.chunks x.unsent c x.sent x.told x.ends.0 x.ends.1 in
    let line : frame_line reply ≡ frame_line (frame x.ends.1.body) = ap frame_line (x.ends.2 ∙ x.ends.1.framed) in
    record {
      moved = w.moved;
      told = w.told;
      bodies = c.bodies ++ x.ends.1.body ∷ [];
      short = w.short;
      turns = w.turns;
      failures = x.ends.3 ∙ c.failures;
      appended = same ∙ ap (λ y. y ++ frame_line reply) c.appended ∙ append_assoc old (reply_lines c.bodies) (frame_line reply) ∙ ap (λ y. old ++ (reply_lines c.bodies ++ y)) line ∙ ap (λ y. old ++ y) (sym (more_lines c.bodies x.ends.1.body));
    }

-- ---- ends

starts_nothing : (later : List (List ℕ)) → StartsNext later []
starts_nothing [] = refl
starts_nothing (request ∷ later) = record { pieces = []; chunks = []; unsent = request; moves_are = refl; sent = refl; first = λ some. refl }

-- after whole turns
paced_turns : (done later bodies : List (List ℕ)) (moves : List Move) → AreTurns done bodies moves → IsPaced (done ++ later) bodies moves
paced_turns done later bodies moves t = record { done = done; later = later; requests_are = refl; turns = moves; last = []; moves_are = sym (append-nil moves); are_turns = t; next = starts_nothing later }

turn_replies : (done bodies : List (List ℕ)) (moves : List Move) → AreTurns done bodies moves → All IsShort bodies → AreReplies (read_in moves) bodies []
turn_replies done bodies moves t short = record { whole = turns_read done bodies moves t ∙ sym (append-nil (flat_map frame bodies)); each = short; none = holds_nothing }

turns_sent : (done later bodies : List (List ℕ)) (moves : List Move) → AreTurns done bodies moves → joined (done ++ later) ≡ written_in moves ++ joined later
turns_sent done later bodies moves t = flat_map-append (λ bytes. bytes) done later ∙ ap (λ x. x ++ joined later) (sym (turns_written done bodies moves t))

pub called_all : (m n : Meaning) (requests : List (List ℕ)) (old new : List ℕ) → Called m requests old n new → Calls requests m old (Ok tt) n new
called_all m n requests old new c = record {
  moved = c.moved;
  told = c.told;
  unsent = [];
  sent = sym (turns_written requests c.bodies c.moved c.turns) ∙ sym (append-nil (written_in c.moved));
  bodies = c.bodies;
  left = [];
  replies = turn_replies requests c.bodies c.moved c.turns c.short;
  paced = subst (λ qs. IsPaced qs c.bodies c.moved) (append-nil requests) (paced_turns requests [] c.bodies c.moved c.turns);
  lined = c.bodies;
  unlined = [];
  bodies_are = sym (append-nil c.bodies);
  appended = c.appended;
  ends = (refl, refl, refl, turns_length requests c.bodies c.moved c.turns, c.failures);
}

drop_done : (done : List (List ℕ)) (request : List ℕ) (later : List (List ℕ)) → drop (length done + 1) (done ++ request ∷ later) ≡ later
drop_done done request later = drop-append-add done (request ∷ later) 1

asked : (done later bodies : List (List ℕ)) (request unsent : List ℕ) → length bodies ≡ length done → unsent ≡ [] → IsAsked (done ++ request ∷ later) bodies (unsent ++ joined later)
asked done later bodies request unsent same all = record {
  within = omega (arith, same, length-append done (request ∷ later));
  whole = ap (λ x. x ++ joined later) all ∙ ap joined (sym (ap (λ k. drop (k + 1) (done ++ request ∷ later)) same ∙ drop_done done request later));
}

-- want of memory before the first request
pub called_nothing : (m : Meaning) (requests : List (List ℕ)) (old : List ℕ) → Calls requests m old (Err Memory) m old
called_nothing m requests old = record {
  moved = [];
  told = moved_none m.traffic;
  unsent = joined requests;
  sent = refl;
  bodies = [];
  left = [];
  replies = record { whole = refl; each = All-nil IsShort; none = holds_nothing };
  paced = paced_turns [] requests [] [] refl;
  lined = [];
  unlined = [];
  bodies_are = refl;
  appended = sym (append-nil old);
  ends = ((omega arith), inl refl, refl);
}

-- the last reply has no line
pub called_unlined : (m k : Meaning) (done later : List (List ℕ)) (old mid new : List ℕ) → CalledMore m done old k mid → new ≡ mid → k.failures ≡ m.failures → Calls (done ++ later) m old (Err Memory) k new
called_unlined m k done later old mid new c same failures = record {
  moved = c.moved;
  told = c.told;
  unsent = joined later;
  sent = turns_sent done later (c.bodies ++ c.body ∷ []) c.moved c.turns;
  bodies = c.bodies ++ c.body ∷ [];
  left = [];
  replies = turn_replies done (c.bodies ++ c.body ∷ []) c.moved c.turns c.short;
  paced = paced_turns done later (c.bodies ++ c.body ∷ []) c.moved c.turns;
  lined = c.bodies;
  unlined = c.body ∷ [];
  bodies_are = refl;
  appended = same ∙ c.lined;
  ends = ((omega arith), inl (ap joined (sym (ap (λ k. drop k (done ++ later)) (turns_length done (c.bodies ++ c.body ∷ []) c.moved c.turns) ∙ drop_at done later (length done) refl))), failures);
}

regroup : (a p u l : List ℕ) → a ++ ((p ++ u) ++ l) ≡ (a ++ p) ++ (u ++ l)
regroup a p u l = ap (λ x. a ++ x) (append_assoc p u l) ∙ sym (append_assoc a p (u ++ l))

part_sent : (done later : List (List ℕ)) (request : List ℕ) (moved : List Move) (pieces chunks : List (List ℕ)) (unsent : List ℕ) → written_in moved ≡ joined done → request ≡ joined pieces ++ unsent
    → joined (done ++ request ∷ later) ≡ written_in (moved ++ (map Took pieces ++ map Gave chunks)) ++ (unsent ++ joined later)
part_sent done later request moved pieces chunks unsent written sent =
    let now : written_in (moved ++ (map Took pieces ++ map Gave chunks)) ≡ joined done ++ joined pieces = written_on moved (map Took pieces ++ map Gave chunks) ∙ ap (λ x. x ++ written_in (map Took pieces ++ map Gave chunks)) written ∙ ap (λ x. joined done ++ x) (turn_written pieces chunks) in
    flat_map-append (λ bytes. bytes) done (request ∷ later) ∙ ap (λ x. joined done ++ (x ++ joined later)) sent ∙ regroup (joined done) (joined pieces) unsent (joined later) ∙ ap (λ x. x ++ (unsent ++ joined later)) (sym now)

part_read : (bodies : List (List ℕ)) (moved : List Move) (pieces chunks : List (List ℕ)) → read_in moved ≡ flat_map frame bodies → read_in (moved ++ (map Took pieces ++ map Gave chunks)) ≡ flat_map frame bodies ++ joined chunks
part_read bodies moved pieces chunks read = read_on moved (map Took pieces ++ map Gave chunks) ∙ ap (λ x. x ++ read_in (map Took pieces ++ map Gave chunks)) read ∙ ap (λ x. flat_map frame bodies ++ x) (turn_read pieces chunks)

-- a turn that is broken off
pub record Breaks (request : List ℕ) (n k : Meaning) : Type 0 where
  pub pieces : List (List ℕ)
  pub chunks : List (List ℕ)
  pub unsent : List ℕ
  pub sent : request ≡ joined pieces ++ unsent
  pub told : Moved n.traffic (map Took pieces ++ map Gave chunks) k.traffic
  pub first : unsent ≢ [] → chunks ≡ []
  pub none : HoldsNoReply (joined chunks)

called_broken : (m n k : Meaning) (done later : List (List ℕ)) (request old mid new : List ℕ) (fault : CallFault) (c : Called m done old n mid) (b : Breaks request n k) → new ≡ mid
    → EndsCall (Err fault) (done ++ request ∷ later) c.bodies (b.unsent ++ joined later) (joined b.chunks) [] m k → Calls (done ++ request ∷ later) m old (Err fault) k new
called_broken m n k done later request old mid new fault c b same ends =
    let part = map Took b.pieces ++ map Gave b.chunks in
    record {
      moved = c.moved ++ part;
      told = moved_trans m.traffic n.traffic k.traffic c.moved part c.told b.told;
      unsent = b.unsent ++ joined later;
      sent = part_sent done later request c.moved b.pieces b.chunks b.unsent (turns_written done c.bodies c.moved c.turns) b.sent;
      bodies = c.bodies;
      left = joined b.chunks;
      replies = record { whole = part_read c.bodies c.moved b.pieces b.chunks (turns_read done c.bodies c.moved c.turns); each = c.short; none = b.none };
      paced = record { done = done; later = request ∷ later; requests_are = refl; turns = c.moved; last = part; moves_are = refl; are_turns = c.turns; next = record { pieces = b.pieces; chunks = b.chunks; unsent = b.unsent; moves_are = refl; sent = b.sent; first = b.first } };
      lined = c.bodies;
      unlined = [];
      bodies_are = sym (append-nil c.bodies);
      appended = same ∙ c.appended;
      ends = ends;
    }

breaks_read : (n k : Meaning) (request : List ℕ) (pieces chunks : List (List ℕ)) (unsent : List ℕ) → request ≡ joined pieces ++ unsent → Moved n.traffic (map Took pieces ++ map Gave chunks) k.traffic → unsent ≡ [] → HoldsNoReply (joined chunks) → Breaks request n k
breaks_read n k request pieces chunks unsent sent told all none = record { pieces = pieces; chunks = chunks; unsent = unsent; sent = sent; told = told; first = λ some. absurd (some all); none = none }

breaks_written : (n k : Meaning) (request : List ℕ) (pieces chunks : List (List ℕ)) (unsent : List ℕ) → request ≡ joined pieces ++ unsent → Moved n.traffic (map Took pieces ++ map Gave chunks) k.traffic → chunks ≡ [] → Breaks request n k
breaks_written n k request pieces chunks unsent sent told nothing = record { pieces = pieces; chunks = chunks; unsent = unsent; sent = sent; told = told; first = λ some. nothing; none = subst (λ x. HoldsNoReply (joined x)) (sym nothing) holds_nothing }

no_memory : (m n k : Meaning) (done later : List (List ℕ)) (request old mid new reply : List ℕ) (c : Called m done old n mid) (x : Exchanges request n (Err Memory) k reply) → new ≡ mid → HoldsNoReply (joined x.chunks) ⊎ IsReply (joined x.chunks)
    → Calls (done ++ request ∷ later) m old (Err Memory) k new
unfolding breaks_read
no_memory m n k done later request old mid new reply c x same (inl none) = called_broken m n k done later request old mid new Memory c (breaks_read n k request x.pieces x.chunks x.unsent x.sent x.told x.ends.0 none) same ((omega arith), inr (asked done later c.bodies request x.unsent (turns_length done c.bodies c.moved c.turns) x.ends.0), x.ends.2 ∙ c.failures)
no_memory m n k done later request old mid new reply c x same (inr whole) =
    subst (λ qs. Calls qs m old (Err Memory) k new) (append_assoc done (request ∷ []) later)
    (called_unlined m k (done ++ request ∷ []) later old mid new (with_reply m n k done request old mid x.pieces x.chunks x.unsent c x.sent x.told x.ends.0 whole) same (x.ends.2 ∙ c.failures))

pub called_stops : (m n k : Meaning) (done later : List (List ℕ)) (request old mid new reply : List ℕ) (fault : CallFault) → Called m done old n mid → Exchanges request n (Err fault) k reply → new ≡ mid → Calls (done ++ request ∷ later) m old (Err fault) k new
unfolding breaks_read breaks_written
called_stops m n k done later request old mid new reply TooLong c x same = absurd x.ends
called_stops m n k done later request old mid new reply (BadLine number) c x same = absurd x.ends
called_stops m n k done later request old mid new reply ReadFault c x same = called_broken m n k done later request old mid new ReadFault c (breaks_read n k request x.pieces x.chunks x.unsent x.sent x.told x.ends.0 x.ends.1) same (refl, asked done later c.bodies request x.unsent (turns_length done c.bodies c.moved c.turns) x.ends.0, fault_since (joined x.chunks) m n k c.failures x.ends.2)
called_stops m n k done later request old mid new reply WriteFault c x same =
    called_broken m n k done later request old mid new WriteFault c (breaks_written n k request x.pieces x.chunks x.unsent x.sent x.told x.ends.0) same (refl, ap joined x.ends.0, (let same = turns_length done c.bodies c.moved c.turns in omega (arith, same, length-append done (request ∷ later))), x.ends.1 ∙ ap (λ y. y + 1) c.failures)
called_stops m n k done later request old mid new reply Memory c x same = no_memory m n k done later request old mid new reply c x same x.ends.1

-- the reply was read, and its line was refused
pub called_without_line : (m n k : Meaning) (done later : List (List ℕ)) (request old mid new reply : List ℕ) → Called m done old n mid → Exchanges request n (Ok tt) k reply → new ≡ mid → Calls (done ++ request ∷ later) m old (Err Memory) k new
called_without_line m n k done later request old mid new reply c x same =
    subst (λ qs. Calls qs m old (Err Memory) k new) (append_assoc done (request ∷ []) later)
    (called_unlined m k (done ++ request ∷ []) later old mid new (with_reply m n k done request old mid x.pieces x.chunks x.unsent c x.sent x.told x.ends.0 x.ends.1) same (x.ends.3 ∙ c.failures))

-- ---- at a place of the list

pub requests_split : (rs : List Request) (i : ℕ) (r : Request) → i < length rs → r ≡ slice_index_or rs i r → map frame_of rs ≡ map frame_of (take i rs) ++ frame_of r ∷ map frame_of (drop (suc i) rs)
requests_split rs i r within is =
    let split : rs ≡ take i rs ++ slice_index_or rs i r ∷ drop (suc i) rs = split_at rs i r within in
    ap (map frame_of) (split ∙ ap (λ x. take i rs ++ x ∷ drop (suc i) rs) (sym is)) ∙ map-append frame_of (take i rs) (r ∷ drop (suc i) rs)

pub requests_next : (rs : List Request) (i : ℕ) (r : Request) → i < length rs → r ≡ slice_index_or rs i r → map frame_of (take (i + 1) rs) ≡ map frame_of (take i rs) ++ frame_of r ∷ []
requests_next rs i r within is = map_more frame_of rs i r within ∙ ap (λ x. map frame_of (take i rs) ++ frame_of x ∷ []) (sym is)
