-- How far the reading of a text comes with a share.
use Rattle.std.specs.Prelude.{◌≡◌, ◌+◌, ◌≤◌, ℕ, List}
use Rattle.json_tape.specs.Shares.{ReadShare}
use Rattle.json_tape.specs.declared.progress.Progress.{Progress}
use Rattle.json_tape.specs.declared.progress.Progress.TheVariants.{Complete, Paused}
use Rattle.json_tape.specs.declared.verdict.Verdict.{Verdict}
use Rattle.json_tape.specs.declared.verdict.Verdict.TheVariants.{Accepted, Refused}

-- the text that was read
abbrev pub text_read : Verdict → List ℕ
text_read (Accepted document) = document.text
text_read (Refused text) = text

-- the verdict is there, or so many places more are behind the walk
abbrev pub GoesOn : ReadShare → ℕ → Progress → Type 0
GoesOn old places (Complete verdict) = text_read verdict ≡ old.text
GoesOn old places (Paused next) = (next.text ≡ old.text) × (next.left + places ≤ old.left)
