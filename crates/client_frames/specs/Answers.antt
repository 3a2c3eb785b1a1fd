-- What a reply answers to the request with a number: this project's own statuses.
use Rattle.std.specs.Prelude.{◌≡◌, ◌≢◌, ℕ, List, [], Result, Ok, Err}
use Rattle.client_frames.specs.declared.answers.Answer.{Answer}
use Rattle.client_frames.specs.declared.answers.Answer.TheVariants.{Done, Refused}
use Rattle.client_frames.specs.declared.answers.AnswerFault.{AnswerFault}
use Rattle.client_frames.specs.declared.answers.AnswerFault.TheVariants.{FrameFault, OtherNumber, PayloadOfRefusal}

-- the status of a framing fault
abbrev pub frame_fault : ℕ
frame_fault = 255

-- the reply has this number, and its request was done, or refused with no payload
abbrev pub Answers : (status number asked : ℕ) (payload : List ℕ) → Result Answer AnswerFault → Type 0
Answers status number asked payload (Ok (Done p)) = (status ≡ 0) × (number ≡ asked) × (p.now ≡ payload)
Answers status number asked payload (Ok (Refused s)) = (s ≡ status) × (status ≢ 0) × (status ≢ frame_fault) × (number ≡ asked) × (payload ≡ [])
Answers status number asked payload (Err FrameFault) = status ≡ frame_fault
Answers status number asked payload (Err OtherNumber) = (status ≢ frame_fault) × (number ≢ asked)
Answers status number asked payload (Err PayloadOfRefusal) = (status ≢ 0) × (status ≢ frame_fault) × (number ≡ asked) × (payload ≢ [])
