-- Refusals of lines: their names, which are those of the protocol's statuses if there are such, and why a query is not evaluated on a text.
use Rattle.std.specs.Prelude.{ℕ, ◌<◌, List, codes}
use Rattle.json_text.specs.Answer.{NoneApplies}
use Rattle.json_text.specs.Verdict.{IsAccepted, IsRefused}
use Rattle.json_text.specs.Tree.{Tree}
use Rattle.json_text.specs.declared.tape.TextFault.{TextFault}
use Rattle.json_text.specs.declared.tape.TextFault.TheVariants as text
use Rattle.path_grammar.specs.Tree.{Segments}
use Rattle.tape_select.specs.Budget.{budget}
use Rattle.tape_select.specs.Charge.{charge}
use Rattle.client_lines.specs.declared.documents.LineFault.{LineFault}
use Rattle.client_lines.specs.declared.documents.LineFault.TheVariants.{NotUtf8, NotJson, NoName, NoText, NoDocument, Costly, Memory}

-- of a text that a server refuses; want of memory is no refusal of a text
abbrev pub text_fault_name : TextFault → List ℕ
text_fault_name text.TooLong = codes "TooLong"
text_fault_name text.NotUtf8 = codes "NotUtf8"
text_fault_name text.NotJson = codes "NotJson"
text_fault_name text.TooDeep = codes "TooDeep"
text_fault_name text.NumberLimit = codes "NumberLimit"
text_fault_name text.LoneSurrogate = codes "LoneSurrogate"
text_fault_name text.DuplicateName = codes "DuplicateName"
text_fault_name text.Memory = codes "NoMemory"

-- of a line
abbrev pub fault_name : LineFault → List ℕ
fault_name NotUtf8 = codes "NotUtf8"
fault_name NotJson = codes "NotJson"
fault_name NoName = codes "NoName"
fault_name NoText = codes "NoText"
fault_name (NoDocument fault) = text_fault_name fault
fault_name Costly = codes "Costly"
fault_name Memory = codes "NoMemory"

-- what is wrong with a line whose text is refused
abbrev pub fault_of : TextFault → LineFault
fault_of text.Memory = Memory
fault_of fault = NoDocument fault

-- The verdict on the text, or a charge above the budget. Want of memory is met only in a text that is neither too long nor not UTF-8.
abbrev pub RefusesQuery : (query : Segments) (text : List ℕ) → LineFault → Type 0
RefusesQuery query text (NoDocument fault) = IsRefused text fault
RefusesQuery query text Costly = (tree : Tree) × IsAccepted text tree × (budget < charge tree query)
RefusesQuery query text Memory = NoneApplies text 2
RefusesQuery query text _ = ⊥
