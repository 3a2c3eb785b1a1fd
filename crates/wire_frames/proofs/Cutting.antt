-- Whatever is taken at what time, the frames of a stream are taken in order, and what waits has the others.
use Rattle.std.specs.Prelude.{◌≡◌, ◌≢◌, ℕ, List, [], ◌∷◌, ◌++◌, Bool, true, false, IsTrue, refl}
use Rattle.std.proofs.Common.{sym, ap, ◌∙◌, append_assoc, append-nil}
use Rattle.wire_frames.specs.Frames.{Front, Whole, Wait, Fault, front, is_whole, is_fault, is_broken, split, Split, after_frames, frames, rest}
use Rattle.wire_frames.specs.Framing.{Framing, fresh, IsClosedByFault, after_at}
use Rattle.wire_frames.specs.Cuts.{Step, Accept, Take, stream_of, taken, taken_at, left, accepted_by}
use Rattle.wire_frames.proofs.Splits.{front-append, split_whole, split_fault, fault-append, split_left, split-append}

KeepsFrames : Framing → List Step → Type 0
KeepsFrames framing steps = taken framing steps ++ frames (left framing steps).waiting ≡ frames (framing.waiting ++ stream_of steps)

-- nothing is read as a frame behind a fault
broken_frames : (stream more : List ℕ) → front stream ≡ Fault → frames (stream ++ more) ≡ []
broken_frames stream more e = ap (λ (s : Split). s.frames) (split_fault (stream ++ more) (fault-append stream more e))

-- a closed framer passes over a piece
keeps_at_piece : (framing : Framing) (closed : Bool) (piece : List ℕ) (steps : List Step) → framing.closed ≡ closed → IsClosedByFault framing.waiting framing.closed
    → ((next : Framing) → IsClosedByFault next.waiting next.closed → KeepsFrames next steps)
    → taken (accepted_by closed framing piece) steps ++ frames (left (accepted_by closed framing piece) steps).waiting ≡ frames (framing.waiting ++ (piece ++ stream_of steps))
unfolding KeepsFrames
keeps_at_piece framing true piece steps e inv again =
    again framing inv
    ∙ broken_frames framing.waiting (stream_of steps) (inv e)
    ∙ sym (broken_frames framing.waiting (piece ++ stream_of steps) (inv e))
keeps_at_piece framing false piece steps e inv again =
    again (record framing { waiting = framing.waiting ++ piece }) (λ c. absurd cc)
    ∙ ap frames (append_assoc framing.waiting piece (stream_of steps))

not_both : (stream body more : List ℕ) → front stream ≡ Whole body more → front stream ≡ Fault → ⊥
not_both stream body more w f = absurd cc

keeps_at_take : (framing : Framing) (f : Front) (steps : List Step) → front framing.waiting ≡ f → IsClosedByFault framing.waiting framing.closed
    → ((next : Framing) → IsClosedByFault next.waiting next.closed → KeepsFrames next steps)
    → taken_at f (taken (after_at f framing) steps) ++ frames (left (after_at f framing) steps).waiting ≡ frames (framing.waiting ++ stream_of steps)
unfolding KeepsFrames
keeps_at_take framing (Whole body more) steps e inv again =
    ap (λ x. body ∷ x) (again (record framing { waiting = more }) (λ c. absurd (not_both framing.waiting body more e (inv c))))
    ∙ sym (ap (λ (s : Split). s.frames) (split_whole (framing.waiting ++ stream_of steps) body (more ++ stream_of steps) (front-append framing.waiting (stream_of steps) body more e)))
keeps_at_take framing Wait steps e inv again = again framing inv
keeps_at_take framing Fault steps e inv again = again (record framing { closed = true }) (λ c. e)

keeps_frames : (steps : List Step) (framing : Framing) → IsClosedByFault framing.waiting framing.closed → KeepsFrames framing steps
unfolding KeepsFrames
keeps_frames [] framing inv = ap frames (sym (append-nil framing.waiting))
keeps_frames (Accept piece ∷ steps) framing inv = keeps_at_piece framing framing.closed piece steps refl inv (λ next i. keeps_frames steps next i)
keeps_frames (Take ∷ steps) framing inv = keeps_at_take framing (front framing.waiting) steps refl inv (λ next i. keeps_frames steps next i)

-- from the first byte on: what was taken, and then what waits to be taken, are the frames of the stream
pub taken_frames : (steps : List Step) → taken fresh steps ++ frames (left fresh steps).waiting ≡ frames (stream_of steps)
unfolding KeepsFrames
taken_frames steps = keeps_frames steps fresh (λ c. absurd cc)

not_whole : (f : Front) → is_whole f ≡ false → (body more : List ℕ) → f ≢ Whole body more
not_whole (Whole b m) h body more e = absurd cc
not_whole Wait h body more e = absurd cc
not_whole Fault h body more e = absurd cc

pub no_frames : (stream : List ℕ) → is_whole (front stream) ≡ false → frames stream ≡ []
no_frames stream h = ap (λ (s : Split). s.frames) (split_left stream (record { none = not_whole (front stream) h }))

-- where all frames were taken
pub taken_all : (steps : List Step) → is_whole (front (left fresh steps).waiting) ≡ false → taken fresh steps ≡ frames (stream_of steps)
taken_all steps h =
    sym (append-nil (taken fresh steps))
    ∙ ap (λ x. taken fresh steps ++ x) (sym (no_frames (left fresh steps).waiting h))
    ∙ taken_frames steps

-- what follows a fault joins the rest

is_fault_from : (f : Front) → IsTrue (is_fault f) → f ≡ Fault
is_fault_from (Whole body more) h = absurd cc
is_fault_from Wait h = absurd cc
is_fault_from Fault h = refl

StaysBroken : List ℕ → List ℕ → Type 0
StaysBroken stream more = (frames (stream ++ more) ≡ frames stream) × (rest (stream ++ more) ≡ rest stream ++ more) × IsTrue (is_broken (stream ++ more))

stays_by : (stream more : List ℕ) (s : Split) → split (stream ++ more) ≡ s → s ≡ record { frames = frames stream; rest = rest stream ++ more } → front (rest stream ++ more) ≡ Fault → StaysBroken stream more
unfolding StaysBroken
stays_by stream more s e i f =
    let r : rest (stream ++ more) ≡ rest stream ++ more = ap (λ (s : Split). s.rest) (e ∙ i) in
    (ap (λ (s : Split). s.frames) (e ∙ i), r, ap is_fault (ap front r ∙ f))

pub stays_broken : (stream more : List ℕ) → IsTrue (is_broken stream) → (frames (stream ++ more) ≡ frames stream) × (rest (stream ++ more) ≡ rest stream ++ more) × IsTrue (is_broken (stream ++ more))
unfolding StaysBroken
stays_broken stream more h =
    let f : front (rest stream ++ more) ≡ Fault = fault-append (rest stream) more (is_fault_from (front (rest stream)) h) in
    stays_by stream more (after_frames (frames stream) (split (rest stream ++ more))) (split-append stream more)
    (ap (after_frames (frames stream)) (split_fault (rest stream ++ more) f) ∙ ap (λ bodies. record { frames = bodies; rest = rest stream ++ more }) (append-nil (frames stream))) f
