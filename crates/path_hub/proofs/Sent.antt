-- Replies that are written while others are gathered.
use Rattle.std.proofs.Common.{◌≡◌, ℕ, ◌+◌, Bool, true, false, List, [], ◌++◌, map, sym, ap, ◌∙◌, subst, refl, arith, Ok, Err}
use Rattle.std.proofs.lemmas.List.{append-nil, append_assoc, map-append}
use Rattle.std.proofs.lemmas.Bool.{false≢true}
use Rattle.path_hub.specs.HubState.{HubState}
use Rattle.path_hub.specs.Into.{joined, AnswersOne, AnswersNone, IsTaken, TakesPiece, HasDue}
use Rattle.path_hub.specs.Wires.{Meaning, Took, Moved, WritesAll, rise}
use Rattle.wire_frames.specs.Splitting.{Splitting}
use Rattle.path_hub.specs.Sending.{Sending, Sends, SendsMore}
use Rattle.path_hub.specs.declared.fault.HubFault.TheVariants as fault
use Rattle.path_hub.proofs.Calls.{taken_none, taken_more, taken_all, taken_stays}
use Rattle.path_hub.proofs.Traffic.{moved_none, moved_trans, joined-append}

-- nothing is written yet
pub writes_none : (m : Meaning) → WritesAll m [] true m
writes_none m = record {
  pieces = [];
  others = [];
  bytes_are = refl;
  all = λ e. refl;
  failures = omega arith;
  reads = refl;
  moved = moved_none m.traffic;
}

-- after a fault nothing more is written
pub writes_dropped : (m n : Meaning) (sent bytes : List ℕ) → WritesAll m sent false n → WritesAll m (sent ++ bytes) false n
writes_dropped m n sent bytes w = record {
  pieces = w.pieces;
  others = w.others ++ bytes;
  bytes_are = ap (λ x. x ++ bytes) w.bytes_are ∙ append_assoc (joined w.pieces) w.others bytes;
  all = λ e. absurd (false≢true e);
  failures = w.failures;
  reads = w.reads;
  moved = w.moved;
}

-- what is written behind what was written
pub writes_more : (m n k : Meaning) (sent bytes : List ℕ) (done : Bool) → WritesAll m sent true n → WritesAll n bytes done k → WritesAll m (sent ++ bytes) done k
writes_more m n k sent bytes done w v =
    let all : sent ≡ joined w.pieces = w.bytes_are ∙ ap (λ x. joined w.pieces ++ x) (w.all refl) ∙ append-nil (joined w.pieces) in
    record {
      pieces = w.pieces ++ v.pieces;
      others = v.others;
      bytes_are = ap (λ x. x ++ bytes) all ∙ ap (λ x. joined w.pieces ++ x) v.bytes_are ∙ sym (append_assoc (joined w.pieces) (joined v.pieces) v.others) ∙ ap (λ x. x ++ v.others) (sym (joined-append w.pieces v.pieces));
      all = v.all;
      failures = v.failures ∙ ap (λ x. x + rise done) (w.failures ∙ omega arith);
      reads = v.reads ∙ w.reads;
      moved = subst (λ ms. Moved m.traffic ms k.traffic) (sym (map-append Took w.pieces v.pieces)) (moved_trans m.traffic n.traffic k.traffic (map Took w.pieces) (map Took v.pieces) w.moved v.moved);
    }

-- a step of the hub, behind bytes that are gone
pub step_behind : (conn : ℕ) (old new : HubState) (sent before after : List ℕ) → AnswersOne conn old before new after → AnswersOne conn old (sent ++ before) new (sent ++ after)
step_behind conn old new sent before after a = record {
  framing = a.framing;
  was = a.was;
  left = a.left;
  sets = a.sets;
  answered = record {
    body = a.answered.body;
    frame = a.answered.frame;
    out = ap (λ x. sent ++ x) a.answered.out ∙ sym (append_assoc sent before a.answered.frame);
    step = a.answered.step;
    takes = a.answered.takes;
  };
}

pub none_behind : (conn : ℕ) (old new : HubState) (sent before after : List ℕ) → AnswersNone conn old before new after → AnswersNone conn old (sent ++ before) new (sent ++ after)
none_behind conn old new sent before after n = record { none = n.none; same = n.same; out = ap (λ x. sent ++ x) n.out }

-- ---- the loop

pub sending_starts : (conn : ℕ) (piece gathered : List ℕ) (h h' : HubState) (m : Meaning) → gathered ≡ [] → IsTaken conn piece h h' → Sending conn piece h m true gathered h' m
sending_starts conn piece gathered h h' m e t = record {
  sent = [];
  answers = subst (λ x. TakesPiece conn piece h [] h' x false) (sym e) (taken_none conn piece h h' [] t);
  writes = writes_none m;
}

pub sending_answers : (laws : Splitting) (conn : ℕ) (piece before after : List ℕ) (h mid new : HubState) (m n : Meaning) (written : Bool) → Sending conn piece h m written before mid n → AnswersOne conn mid before new after → Sending conn piece h m written after new n
sending_answers laws conn piece before after h mid new m n written s a = record {
  sent = s.sent;
  answers = taken_more laws conn piece h mid new [] (s.sent ++ before) (s.sent ++ after) s.answers (step_behind conn mid new s.sent before after a);
  writes = s.writes;
}

pub sending_sends : (conn : ℕ) (piece before after : List ℕ) (h h' : HubState) (m n k : Meaning) (written done : Bool) → Sending conn piece h m written before h' n → SendsMore n written before done k → after ≡ [] → Sending conn piece h m done after h' k
sending_sends conn piece before after h h' m n k written done s more e = record {
  sent = s.sent ++ before;
  answers = subst (λ x. TakesPiece conn piece h [] h' x false) (sym (append-nil (s.sent ++ before)) ∙ ap (λ x. (s.sent ++ before) ++ x) (sym e)) s.answers;
  writes = more m s.sent s.writes;
}

-- ---- the ends

pub sends_all : (conn : ℕ) (piece before after : List ℕ) (h mid new : HubState) (m n k : Meaning) (written done : Bool) → Sending conn piece h m written before mid n → AnswersNone conn mid before new after → SendsMore n written after done k → Sends conn piece h m (Ok tt) done new k
sends_all conn piece before after h mid new m n k written done s a more = record {
  bytes = s.sent ++ after;
  answers = taken_all conn piece h mid new [] (s.sent ++ before) (s.sent ++ after) s.answers (none_behind conn mid new s.sent before after a);
  writes = more m s.sent s.writes;
}

pub sends_some : (conn : ℕ) (piece before after : List ℕ) (h mid new : HubState) (m n k : Meaning) (written done : Bool) → Sending conn piece h m written before mid n → HasDue conn mid → new ≡ mid → after ≡ before → SendsMore n written after done k → Sends conn piece h m (Err (fault.Memory true)) done new k
sends_some conn piece before after h mid new m n k written done s due same out more = record {
  bytes = s.sent ++ after;
  answers = taken_stays conn piece h mid new [] (s.sent ++ before) (s.sent ++ after) s.answers due same (ap (λ x. s.sent ++ x) out);
  writes = more m s.sent s.writes;
}
