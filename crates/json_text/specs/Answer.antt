-- What reading a text answers.
use Rattle.std.specs.Prelude.{◌≡◌, ◌<◌, ℕ, List}
use Rattle.json_text.specs.Verdict.{depth, Applies, rank, IsRefused}
use Rattle.json_text.specs.declared.tape.TextFault.{TextFault}
use Rattle.json_text.specs.declared.tape.TextFault.TheVariants.{Memory}
use Rattle.json_text.specs.Tree.{Tree}
use Rattle.json_text.specs.Grammar.{IsText}
use Rattle.json_text.specs.Tape.{Stands}
use Rattle.json_text.specs.declared.tape.Entry.{Entry}

-- the text spells a tree
abbrev pub IsJson : List ℕ → Type 0
IsJson text = (t : Tree) × IsText text t

-- the tape stands for each tree that the text spells
abbrev pub StandsForAll : List ℕ → List Entry → Type 0
StandsForAll text tape = (t : Tree) → IsText text t → Stands tape t

-- each tree that the text spells has this depth
abbrev pub HasDepth : List ℕ → ℕ → Type 0
HasDepth text n = (t : Tree) → IsText text t → n ≡ depth t

-- the text spells no tree
abbrev pub IsNoJson : List ℕ → Type 0
IsNoJson text = (t : Tree) → IsText text t → ⊥

-- no refusal of a lower rank applies
abbrev pub NoneApplies : List ℕ → ℕ → Type 0
NoneApplies text n = (f : TextFault) → rank f < n → Applies text f → ⊥

-- The refusal is the text's verdict. Want of memory is met only in a text that is neither too long nor not UTF-8.
abbrev pub Explains : List ℕ → TextFault → Type 0
Explains text Memory = NoneApplies text 2
Explains text f = IsRefused text f
