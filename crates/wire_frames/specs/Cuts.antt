-- A stream that comes in pieces, while frames are taken at any time between them: this project's own framing.
use Rattle.std.specs.Prelude.{ℕ, List, [], ◌∷◌, ◌++◌, Bool, true, false}
use Rattle.wire_frames.specs.Frames.{Front, Whole, Wait, Fault, front}
use Rattle.wire_frames.specs.Framing.{Framing, with_piece, framing_after}

-- what is done with a framer
pub data Step : Type 0 where
  Accept : List ℕ → Step
  Take : Step

-- the pieces, one after another
abbrev pub stream_of : List Step → List ℕ
stream_of [] = []
stream_of (Accept piece ∷ steps) = piece ++ stream_of steps
stream_of (Take ∷ steps) = stream_of steps

-- a closed framer refuses each piece
abbrev pub accepted_by : Bool → Framing → List ℕ → Framing
accepted_by true framing piece = framing
accepted_by false framing piece = with_piece framing piece

abbrev pub after_step : Framing → Step → Framing
after_step framing (Accept piece) = accepted_by framing.closed framing piece
after_step framing Take = framing_after framing

abbrev pub taken_at : Front → List (List ℕ) → List (List ℕ)
taken_at (Whole body more) later = body ∷ later
taken_at Wait later = later
taken_at Fault later = later

-- the frame that a step takes, and then those taken later
abbrev pub taken_by : Framing → Step → List (List ℕ) → List (List ℕ)
taken_by framing (Accept piece) later = later
taken_by framing Take later = taken_at (front framing.waiting) later

-- the frames that the steps take, in order
abbrev pub taken : Framing → List Step → List (List ℕ)
taken framing [] = []
taken framing (step ∷ steps) = taken_by framing step (taken (after_step framing step) steps)

-- what the framer holds in the end
abbrev pub left : Framing → List Step → Framing
left framing [] = framing
left framing (step ∷ steps) = left (after_step framing step) steps
