-- What holds of one line over all events.
use Rattle.std.proofs.Common.{◌≡◌, ℕ, ◌+◌, ◌<◌, ◌≤◌, List, [], ◌∷◌, ◌++◌, Bool, true, false, length, take, drop, refl, sym, ap, ◌∙◌, append_assoc, arith}
use Rattle.std.specs.Prelude.{nat_lt, ◌&&◌, ◌==◌, sum, map, if◌then◌else◌}
use Rattle.std.specs.List.{AllByRecursion}
use Rattle.std.proofs.lemmas.List.{take-append-drop, nil_from_length, length-drop, append-nil}
use Rattle.std.proofs.lemmas.Bool.{ltb-true}
use Rattle.std.proofs.lemmas.List.Sums.{sum_by-cons}
use Rattle.std.proofs.Math.Seq.{drop-nil, take-nil}
use Rattle.std.proofs.Common.{length-append}
use Rattle.outbox.specs.declared.stage.Stage.{Stage}
use Rattle.outbox.specs.declared.stage.Stage.TheVariants.{Open, Ending, Broken}
use Rattle.outbox.specs.Lines.{Line, Event, Readable, Declined, Answered, Writable, Ends, Fails, Worked, cap, ended, is_open, reads, after, read_at, taken_at, replied_at, sent_at, lost_at, run, gathered, read, taken, replied, sent, lost, is_short, is_sound}
use Rattle.outbox.specs.Lanes.{At, own, changed, run_all, sent_to}

-- after a fault
abbrev dead : Line
dead = record { owed = []; stage = Broken }

after_dead : (e : Event) → after dead e ≡ dead
after_dead (Readable piece) = refl
after_dead (Declined piece) = refl
after_dead (Answered reply) = refl
after_dead (Writable room) = ap (λ (xs : List ℕ). record { owed = xs; stage = Broken }) (drop-nil room)
after_dead Ends = refl
after_dead Fails = refl
after_dead Worked = refl

sent_dead : (e : Event) → sent_at dead e ≡ []
sent_dead (Readable piece) = refl
sent_dead (Declined piece) = refl
sent_dead (Answered reply) = refl
sent_dead (Writable room) = take-nil room
sent_dead Ends = refl
sent_dead Fails = refl
sent_dead Worked = refl

lost_dead : (e : Event) → lost_at dead e ≡ []
lost_dead (Readable piece) = refl
lost_dead (Declined piece) = refl
lost_dead (Answered reply) = refl
lost_dead (Writable room) = refl
lost_dead Ends = refl
lost_dead Fails = refl
lost_dead Worked = refl

replied_dead : (e : Event) → replied_at dead e ≡ []
replied_dead (Readable piece) = refl
replied_dead (Declined piece) = refl
replied_dead (Answered reply) = refl
replied_dead (Writable room) = refl
replied_dead Ends = refl
replied_dead Fails = refl
replied_dead Worked = refl

run_dead : (es : List Event) → run dead es ≡ dead
run_dead [] = refl
run_dead (e ∷ es) = ap (λ (l : Line). run l es) (after_dead e) ∙ run_dead es

-- what no single event gives, all of them don't
none_dead : (at : Line → Event → List ℕ) → ((e : Event) → at dead e ≡ []) → (es : List Event) → gathered at dead es ≡ []
none_dead at none [] = refl
none_dead at none (e ∷ es) = ap (λ (l : Line). at dead e ++ gathered at l es) (after_dead e) ∙ ap (λ (xs : List ℕ). xs ++ gathered at dead es) (none e) ∙ none_dead at none es

-- what was sent, lost and is still owed, against what was owed and replied
abbrev pub Kept : Line → List Event → Type 0
Kept line es = sent line es ++ lost line es ++ (run line es).owed ≡ line.owed ++ replied line es

kept_read : (line : Line) (reply : List ℕ) (es : List Event) (b : Bool) → ((l : Line) → Kept l es) → (let next = if b then record line { owed = line.owed ++ reply } else line in sent next es ++ lost next es ++ (run next es).owed ≡ line.owed ++ ((if b then reply else []) ++ replied next es))
kept_read line reply es true h = h (record line { owed = line.owed ++ reply }) ∙ append_assoc line.owed reply (replied (record line { owed = line.owed ++ reply }) es)
kept_read line reply es false h = h line

-- bytes that were written come first
written_first : (w s l o xs ys : List ℕ) → s ++ l ++ o ≡ xs ++ ys → (w ++ s) ++ l ++ o ≡ (w ++ xs) ++ ys
written_first w s l o xs ys h = ap (λ (zs : List ℕ). zs ++ o) (append_assoc w s l) ∙ append_assoc w (s ++ l) o ∙ ap (λ (zs : List ℕ). w ++ zs) h ∙ sym (append_assoc w xs ys)

-- a fault throws away what is owed, and nothing comes after it
thrown : (owed s l o r : List ℕ) → s ≡ [] → l ≡ [] → o ≡ [] → r ≡ [] → s ++ (owed ++ l) ++ o ≡ owed ++ r
thrown owed s l o r hs hl ho hr = rw (hs, hl, ho, hr) (append-nil (owed ++ []))

pub kept : (line : Line) (es : List Event) → Kept line es
kept line [] = sym (append-nil line.owed)
kept line (Readable piece ∷ es) = kept line es
kept line (Declined piece ∷ es) = kept (after line (Declined piece)) es
kept line (Answered reply ∷ es) = kept_read line reply es (reads line) (λ l. kept l es)
kept line (Writable room ∷ es) =
    let next : Line = record line { owed = drop room line.owed } in
    written_first (take room line.owed) (sent next es) (lost next es) (run next es).owed (drop room line.owed) (replied next es) (kept next es)
    ∙ ap (λ (zs : List ℕ). zs ++ replied next es) (take-append-drop room line.owed)
kept line (Ends ∷ es) = kept (after line Ends) es
kept line (Fails ∷ es) = thrown line.owed (sent dead es) (lost dead es) (run dead es).owed (replied dead es) (none_dead sent_at sent_dead es) (none_dead lost_at lost_dead es) (ap (λ (l : Line). l.owed) (run_dead es)) (none_dead replied_at replied_dead es)
kept line (Worked ∷ es) = kept line es

pub no_loss : (line : Line) (es : List Event) → AllByRecursion is_sound es → lost line es ≡ []
no_loss line [] h = refl
no_loss line (Readable piece ∷ es) h = no_loss line es h.1
no_loss line (Declined piece ∷ es) h = no_loss (after line (Declined piece)) es h.1
no_loss line (Answered reply ∷ es) h = no_loss (after line (Answered reply)) es h.1
no_loss line (Writable room ∷ es) h = no_loss (after line (Writable room)) es h.1
no_loss line (Ends ∷ es) h = no_loss (after line Ends) es h.1
no_loss line (Fails ∷ es) h = absurd h.0
no_loss line (Worked ∷ es) h = no_loss line es h.1

-- a reply is added only where less than the cap is owed
added : (line : Line) (reply : List ℕ) (most : ℕ) (s b : Bool) → (b ≡ true → length line.owed < cap) → length line.owed ≤ cap + most → length reply ≤ most → length (if s && b then record line { owed = line.owed ++ reply } else line).owed ≤ cap + most
added line reply most true true f h k = let p : length line.owed < cap = f refl in omega (arith, length-append line.owed reply)
added line reply most true false f h k = h
added line reply most false b f h k = h

pub within : (line : Line) (most : ℕ) (es : List Event) → length line.owed ≤ cap + most → AllByRecursion (is_short most) es → length (run line es).owed ≤ cap + most
within line most [] h k = h
within line most (Readable piece ∷ es) h k = within line most es h k.1
within line most (Declined piece ∷ es) h k = within (after line (Declined piece)) most es h k.1
within line most (Answered reply ∷ es) h k = within (after line (Answered reply)) most es (added line reply most (is_open line.stage) (nat_lt (length line.owed) cap) (ltb-true (length line.owed) cap) h k.0) k.1
within line most (Writable room ∷ es) h k = within (after line (Writable room)) most es (omega (arith, length-drop room line.owed)) k.1
within line most (Ends ∷ es) h k = within (after line Ends) most es h k.1
within line most (Fails ∷ es) h k = within dead most es (omega arith) k.1
within line most (Worked ∷ es) h k = within line most es h k.1

less_left : (room : ℕ) (rooms : List ℕ) (xs : List ℕ) → length xs ≤ sum (room ∷ rooms) → length (drop room xs) ≤ sum rooms
less_left room rooms xs h = omega (arith, h, length-drop room xs, sum_by-cons (λ (n : ℕ). n) room rooms)

pub settled : (line : Line) (rooms : List ℕ) → length line.owed ≤ sum rooms → (run line (map Writable rooms)).owed ≡ []
settled line [] h = nil_from_length line.owed (omega (arith, h))
settled line (room ∷ rooms) h = settled (after line (Writable room)) rooms (less_left room rooms line.owed h)

pub all_goes_out : (line : Line) (rooms : List ℕ) → length line.owed ≤ sum rooms → sent line (map Writable rooms) ≡ line.owed
all_goes_out line [] h = sym (nil_from_length line.owed (omega (arith, h)))
all_goes_out line (room ∷ rooms) h = ap (λ (xs : List ℕ). take room line.owed ++ xs) (all_goes_out (after line (Writable room)) rooms (less_left room rooms line.owed h)) ∙ take-append-drop room line.owed

own_line : (conn : ℕ) (line : Line) (e : Event) (es : List Event) (b : Bool) → run (if b then after line e else line) es ≡ run line (if b then e ∷ es else es)
own_line conn line e es true = refl
own_line conn line e es false = refl

pub alone_line : (conn : ℕ) (lines : ℕ → Line) (es : List At) → run_all lines es conn ≡ run (lines conn) (own conn es)
alone_line conn lines [] = refl
alone_line conn lines (e ∷ es) = alone_line conn (changed lines e) es ∙ own_line conn (lines conn) e.event (own conn es) (conn == e.conn)

own_sent : (line : Line) (e : Event) (es : List Event) (b : Bool) → (if b then sent_at line e else []) ++ sent (if b then after line e else line) es ≡ sent line (if b then e ∷ es else es)
own_sent line e es true = refl
own_sent line e es false = refl

pub alone_sent : (conn : ℕ) (lines : ℕ → Line) (es : List At) → sent_to conn lines es ≡ sent (lines conn) (own conn es)
alone_sent conn lines [] = refl
alone_sent conn lines (e ∷ es) = ap (λ (xs : List ℕ). (if conn == e.conn then sent_at (lines conn) e.event else []) ++ xs) (alone_sent conn (changed lines e) es) ∙ own_sent (lines conn) e.event (own conn es) (conn == e.conn)

-- ---- What was taken of what was read

ended_closed : (s : Stage) → is_open (ended s) ≡ false
ended_closed Open = refl
ended_closed Ending = refl
ended_closed Broken = refl

answered_stage : (line : Line) (reply : List ℕ) (b : Bool) → (if b then record line { owed = line.owed ++ reply } else line).stage ≡ line.stage
answered_stage line reply true = refl
answered_stage line reply false = refl

closed_stays : (line : Line) (e : Event) → is_open line.stage ≡ false → is_open (after line e).stage ≡ false
closed_stays line (Readable piece) h = h
closed_stays line (Declined piece) h = ended_closed line.stage
closed_stays line (Answered reply) h = ap is_open (answered_stage line reply (reads line)) ∙ h
closed_stays line (Writable room) h = h
closed_stays line Ends h = ended_closed line.stage
closed_stays line Fails h = refl
closed_stays line Worked h = h

unread : (b c : Bool) (piece : List ℕ) → b ≡ false → (if b && c then piece else []) ≡ []
unread true c piece h = absurd cc
unread false c piece h = refl

not_read : (line : Line) (e : Event) → is_open line.stage ≡ false → read_at line e ≡ []
not_read line (Readable piece) h = unread (is_open line.stage) (nat_lt (length line.owed) cap) piece h
not_read line (Declined piece) h = unread (is_open line.stage) (nat_lt (length line.owed) cap) piece h
not_read line (Answered reply) h = refl
not_read line (Writable room) h = refl
not_read line Ends h = refl
not_read line Fails h = refl
not_read line Worked h = refl

not_taken : (line : Line) (e : Event) → is_open line.stage ≡ false → taken_at line e ≡ []
not_taken line (Readable piece) h = unread (is_open line.stage) (nat_lt (length line.owed) cap) piece h
not_taken line (Declined piece) h = refl
not_taken line (Answered reply) h = refl
not_taken line (Writable room) h = refl
not_taken line Ends h = refl
not_taken line Fails h = refl
not_taken line Worked h = refl

-- once a line is not open, nothing of these
none_closed : (at : Line → Event → List ℕ) → ((line : Line) (e : Event) → is_open line.stage ≡ false → at line e ≡ []) → (line : Line) (es : List Event) → is_open line.stage ≡ false → gathered at line es ≡ []
none_closed at none line [] h = refl
none_closed at none line (e ∷ es) h = ap (λ (xs : List ℕ). xs ++ gathered at (after line e) es) (none line e h) ∙ none_closed at none (after line e) es (closed_stays line e h)

pub taken_first : (line : Line) (es : List Event) → (declined : List ℕ) × (read line es ≡ taken line es ++ declined)
taken_first line [] = ([], refl)
taken_first line (Readable piece ∷ es) =
    let more : (declined : List ℕ) × (read line es ≡ taken line es ++ declined) = taken_first line es in
    let here : List ℕ = if reads line then piece else [] in
    (more.0, ap (λ (xs : List ℕ). here ++ xs) more.1 ∙ sym (append_assoc here (taken line es) more.0))
taken_first line (Declined piece ∷ es) =
    let next : Line = after line (Declined piece) in
    (read line (Declined piece ∷ es), ap (λ (xs : List ℕ). xs ++ read line (Declined piece ∷ es)) (sym (none_closed taken_at not_taken next es (ended_closed line.stage))))
taken_first line (Answered reply ∷ es) = taken_first (after line (Answered reply)) es
taken_first line (Writable room ∷ es) = taken_first (after line (Writable room)) es
taken_first line (Ends ∷ es) = taken_first (after line Ends) es
taken_first line (Fails ∷ es) = taken_first (after line Fails) es
taken_first line (Worked ∷ es) = taken_first line es
