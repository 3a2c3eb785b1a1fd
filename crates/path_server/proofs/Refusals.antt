-- The refusals of a text are those of a query on it.
use Rattle.std.proofs.Common.{List, ℕ}
use Rattle.json_tape.specs.Tree.{Tree}
use Rattle.json_tape.specs.Verdict.{IsAccepted}
use Rattle.json_tape.specs.Answer.{Explains}
use Rattle.json_text.specs.declared.tape.TextFault.{TextFault}
use Rattle.json_text.specs.declared.tape.TextFault.TheVariants as text
use Rattle.path_server.specs.QueryText.{Refuses}
use Rattle.path_server.specs.Faults.{of_text}
use Rattle.path_server.specs.declared.fault.QueryTextFault.TheVariants.{Memory}

pub text_refuses : (query document : List ℕ) (e : TextFault) → Explains document e → Refuses query document (of_text e)
text_refuses query document text.TooLong r = r
text_refuses query document text.NotUtf8 r = r
text_refuses query document text.NotJson r = r
text_refuses query document text.TooDeep r = r
text_refuses query document text.NumberLimit r = r
text_refuses query document text.LoneSurrogate r = r
text_refuses query document text.DuplicateName r = r
text_refuses query document text.Memory r = r

-- memory may be wanted with a text that is accepted
pub memory_wanted : (query document : List ℕ) (t : Tree) → IsAccepted document t → Refuses query document Memory
memory_wanted query document t a = λ f lower applies. a.1 f applies
