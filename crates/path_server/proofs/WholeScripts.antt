-- A text of lines that is cut one byte past the limit is refused as the whole text is, or it is the whole text.
use Rattle.std.proofs.Common.{◌≡◌, ℕ, ◌≤◌, min, List, [], length, take, arith, Option, None, Some, Result, Ok, Err, ◌∙◌, subst, ap}
use Rattle.std.specs.Prelude.{IfOk, IfSome}
use Rattle.std.specs.Io.KnownBytes.{Appends}
use Rattle.std.proofs.lemmas.List.{length-take, take_all}
use Rattle.path_server.specs.Replays.{RefusesScript, Replays}
use Rattle.standard_streams.specs.Fronts.{StopsShort}
use Rattle.path_server.specs.ReplayStream.{ReplaysStream, BreaksOff}
use Rattle.path_server.specs.CallStream.{IsReadFrom}
use Rattle.path_server.specs.declared.replay.ScriptFault.{ScriptFault}
use Rattle.path_server.specs.declared.replay.ScriptFault.TheVariants.{TooLong, BadLine, Keys, Memory}

cut_length : (script : List ℕ) → length (take 67108865 script) ≡ min 67108865 (length script)
cut_length script = length-take 67108865 script

whole : (script : List ℕ) → length (take 67108865 script) ≤ 67108864 → take 67108865 script ≡ script
whole script short = let cut = cut_length script in take_all 67108865 script (omega (arith, cut, short))

refuses_whole : (keys : List (List ℕ)) (script : List ℕ) (fault : ScriptFault) → RefusesScript keys (take 67108865 script) fault → RefusesScript keys script fault
refuses_whole keys script TooLong long = let cut = cut_length script in omega (arith, cut, long)
refuses_whole keys script (BadLine number) r = rw (whole script r.0) at r
refuses_whole keys script (Keys fault) r = rw (whole script r.0) at r
refuses_whole keys script Memory short = rw (whole script short) at short

pub script_refused : (keys : List (List ℕ)) (cut : List ℕ) (left : Option (List ℕ)) (fault : ScriptFault) → IfSome left (λ script. cut ≡ take 67108865 script) → RefusesScript keys cut fault
    → IfSome left (λ script. RefusesScript keys script fault)
script_refused keys cut None fault e r = tt
script_refused keys cut (Some script) fault e r = refuses_whole keys script fault (rw e at r)

replays_whole : (keys : List (List ℕ)) (script old new : List ℕ) → Replays keys (take 67108865 script) old new → Replays keys script old new
replays_whole keys script old new r = rw (whole script r.short) at r

pub script_replayed : (keys : List (List ℕ)) (cut lines : List ℕ) (left old new : Option (List ℕ)) → IfSome left (λ script. cut ≡ take 67108865 script) → Replays keys cut [] lines → Appends old new lines
    → ReplaysStream keys left old new
script_replayed keys cut lines None old new e r w = tt
script_replayed keys cut lines (Some script) old new e r w = (lines, replays_whole keys script [] lines (rw e at r), w)

pub script_broken : (keys : List (List ℕ)) (cut lines : List ℕ) (left old new : Option (List ℕ)) → IfSome left (λ script. cut ≡ take 67108865 script) → Replays keys cut [] lines → StopsShort lines old new
    → BreaksOff keys left old new
script_broken keys cut lines None old new e r w = tt
script_broken keys cut lines (Some script) old new e r w = (lines, replays_whole keys script [] lines (rw e at r), w)

-- ---- the lines of a call

read_from : (left cut : List ℕ) → cut ≡ take 67108865 left → IsReadFrom left cut
read_from left cut e = record {
  whole = λ short. e ∙ whole left (subst (λ x. length x ≤ 67108864) e short);
  above = λ long. let size = cut_length left in let same = ap length e in omega (arith, size, same, long);
}

from_reader : (left : Option (List ℕ)) (cut : List ℕ) → IfSome left (λ l. cut ≡ take 67108865 l) → IfSome left (λ l. IsReadFrom l cut)
from_reader None cut e = tt
from_reader (Some left) cut e = read_from left cut e

pub read_past_limit : {V E : Type 0} (items : V → List ℕ) (r : Result V E) (left : Option (List ℕ)) → IfOk r (λ v. IfSome left (λ l. items v ≡ take 67108865 l)) → IfOk r (λ v. IfSome left (λ l. IsReadFrom l (items v)))
read_past_limit items (Ok v) left e = from_reader left (items v) e
read_past_limit items (Err fault) left e = tt
