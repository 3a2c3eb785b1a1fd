-- What came of reading a text.
use Rattle.std.specs.Prelude.{◌≡◌, ℕ, List, Result, MatchResult}
use Rattle.json_text.specs.Answer.{Explains}
use Rattle.json_text.specs.Verdict.{IsAccepted}
use Rattle.json_text.specs.declared.tape.TextFault.{TextFault}
use Rattle.json_tape.specs.Document.{Doc, tree_of}

abbrev pub IsRead : List ℕ → Result Doc TextFault → Type 0
IsRead text read = MatchResult read (λ d. (d.text ≡ text) × IsAccepted text (tree_of d)) (λ fault. Explains text fault)
