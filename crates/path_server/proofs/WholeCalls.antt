-- What a reader had is called as the lines that were read from it.
use Rattle.std.proofs.Common.{◌≤◌, ℕ, List, length, subst, inl, inr, Result, Ok, Err}
use Rattle.path_hub.specs.Wires.{Meaning}
use Rattle.path_server.specs.TextLines.{text_limit}
use Rattle.path_server.specs.Calls.{CallsOver, CallsLines, IsUntouched}
use Rattle.path_server.specs.CallStream.{IsReadFrom}
use Rattle.path_server.specs.declared.call_fault.CallFault.{CallFault}
use Rattle.path_server.specs.declared.call_fault.CallFault.TheVariants.{TooLong, BadLine, ReadFault, WriteFault, Memory}

whole : (left lines : List ℕ) (m n : Meaning) (old new : List ℕ) (end' : Result (Unit {0}) CallFault) → IsReadFrom left lines → CallsLines lines m old end' n new → CallsLines left m old end' n new
whole left lines m n old new end' r c = subst (λ x. CallsLines x m old end' n new) (r.whole c.short) c

pub calls_whole : (left lines : List ℕ) (m n : Meaning) (old new : List ℕ) (end' : Result (Unit {0}) CallFault) → IsReadFrom left lines → CallsOver lines m old end' n new → CallsOver left m old end' n new
calls_whole left lines m n old new (Ok u) r c = whole left lines m n old new (Ok u) r c
calls_whole left lines m n old new (Err TooLong) r c = (r.above c.0, c.1)
calls_whole left lines m n old new (Err (BadLine number)) r c = subst (λ x. CallsOver x m old (Err (BadLine number)) n new) (r.whole c.0) c
calls_whole left lines m n old new (Err ReadFault) r c = whole left lines m n old new (Err ReadFault) r c
calls_whole left lines m n old new (Err WriteFault) r c = whole left lines m n old new (Err WriteFault) r c
calls_whole left lines m n old new (Err Memory) r (inl c) = inl (subst (λ x. (length x ≤ text_limit) × IsUntouched m old n new) (r.whole c.0) c)
calls_whole left lines m n old new (Err Memory) r (inr c) = inr (whole left lines m n old new (Err Memory) r c)
