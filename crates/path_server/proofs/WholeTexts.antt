-- A text that is cut one byte past the limit on texts is refused as the whole text is, or it is the whole text.
use Rattle.std.proofs.Common.{◌≡◌, ℕ, ◌+◌, ◌<◌, min, List, [], length, take, arith, Option, None, Some, inl, inr}
use Rattle.std.specs.Prelude.{IfSome, IfErr, OnOk, Result, Ok, Err}
use Rattle.std.proofs.lemmas.List.{length-take, take_all}
use Rattle.json_tape.specs.Verdict.{text_limit, IsRefused}
use Rattle.json_text.specs.declared.tape.TextFault.TheVariants as text
use Rattle.path_server.specs.QueryText.{Refuses, Answers}
use Rattle.path_server.specs.QueryStream.{AnswersStream, BreaksOff, FailsStream}
use Rattle.path_server.specs.declared.streams.QueryStreamFault.{QueryStreamFault}
use Rattle.path_server.specs.declared.streams.QueryStreamFault.TheVariants.{Read, Refused, Write}
use Rattle.path_server.specs.declared.fault.QueryTextFault.{QueryTextFault}
use Rattle.path_server.specs.declared.fault.QueryTextFault.TheVariants.{TooLong, NotUtf8, NotJson, TooDeep, NumberLimit, LoneSurrogate, DuplicateName, QueryTooLong, NotWellFormed, NotValid, Costly, Memory}

whole : (document : List ℕ) → (text_limit < length (take (text_limit + 1) document) → ⊥) → take (text_limit + 1) document ≡ document
whole document f =
    let e : length (take (text_limit + 1) document) ≡ min (text_limit + 1) (length document) = length-take (text_limit + 1) document in
    let h : text_limit < min (text_limit + 1) (length document) → ⊥ = λ l. f (rw e l) in
    take_all (text_limit + 1) document (omega arith)

too_long : (document : List ℕ) → IsRefused (take (text_limit + 1) document) text.TooLong → IsRefused document text.TooLong
too_long document r =
    let e : length (take (text_limit + 1) document) ≡ min (text_limit + 1) (length document) = length-take (text_limit + 1) document in
    let l : text_limit < min (text_limit + 1) (length document) = rw (← e) r.0 in
    (omega arith, λ g k. absurd (omega arith))

pub refuses_whole : (query document : List ℕ) (fault : QueryTextFault) → Refuses query (take (text_limit + 1) document) fault → Refuses query document fault
refuses_whole query document TooLong r = too_long document r
refuses_whole query document NotUtf8 r = rw (whole document (r.1 text.TooLong (omega arith))) at r
refuses_whole query document NotJson r = rw (whole document (r.1 text.TooLong (omega arith))) at r
refuses_whole query document TooDeep r = rw (whole document (r.1 text.TooLong (omega arith))) at r
refuses_whole query document NumberLimit r = rw (whole document (r.1 text.TooLong (omega arith))) at r
refuses_whole query document LoneSurrogate r = rw (whole document (r.1 text.TooLong (omega arith))) at r
refuses_whole query document DuplicateName r = rw (whole document (r.1 text.TooLong (omega arith))) at r
refuses_whole query document QueryTooLong r = rw (whole document (r.0.1.1 text.TooLong)) at r
refuses_whole query document NotWellFormed r = rw (whole document (r.0.1.1 text.TooLong)) at r
refuses_whole query document NotValid r = rw (whole document (r.0.1.1 text.TooLong)) at r
refuses_whole query document Costly (t, q, a, v, r) = (t, q, (rw (whole document (a.1 text.TooLong)) at a), v, r)
refuses_whole query document Memory r = rw (whole document (r text.TooLong (omega arith))) at r

pub answers_whole : (query document old new : List ℕ) → Answers query (take (text_limit + 1) document) old new → Answers query document old new
answers_whole query document old new a = rw (whole document (a.accepted.1 text.TooLong)) at a

refused_whole : (query cut : List ℕ) (left : Option (List ℕ)) (fault : QueryTextFault) → IfSome left (λ document. cut ≡ take (text_limit + 1) document) → Refuses query cut fault → IfSome left (λ document. Refuses query document fault)
refused_whole query cut None fault e r = tt
refused_whole query cut (Some document) fault e r = refuses_whole query document fault (rw e at r)

breaks_whole : (query cut : List ℕ) (left old new : Option (List ℕ)) → IfSome left (λ document. cut ≡ take (text_limit + 1) document) → BreaksOff query (Some cut) old new → BreaksOff query left old new
breaks_whole query cut None old new e b = tt
breaks_whole query cut (Some document) old new e (lines, a, w) = (lines, answers_whole query document [] lines (rw e at a), w)

-- what is said of the text that was read holds of the reader's
answered_whole : (query cut : List ℕ) (left old new : Option (List ℕ)) → IfSome left (λ document. cut ≡ take (text_limit + 1) document) → AnswersStream query (Some cut) old new → AnswersStream query left old new
answered_whole query cut None old new e a = tt
answered_whole query cut (Some document) old new e (lines, a, w) = (lines, answers_whole query document [] lines (rw e at a), w)

failed_whole : (query cut : List ℕ) (left old new : Option (List ℕ)) (fault : QueryStreamFault) → IfSome left (λ document. cut ≡ take (text_limit + 1) document) → FailsStream query (Some cut) old new fault → FailsStream query left old new fault
failed_whole query cut left old new (Read fault) e k = k
failed_whole query cut left old new (Refused fault) e (r, inl k) = (refused_whole query cut left fault e r, inl k)
failed_whole query cut left old new (Refused fault) e (r, inr (m, b)) = (refused_whole query cut left fault e r, inr (m, breaks_whole query cut left old new e b))
failed_whole query cut left old new (Write fault) e b = breaks_whole query cut left old new e b

pub answered_stream : {E : Type 0} (query cut : List ℕ) (left old new : Option (List ℕ)) (result : Result (Unit {0}) E) → IfSome left (λ document. cut ≡ take (text_limit + 1) document) → OnOk result (AnswersStream query (Some cut) old new) → OnOk result (AnswersStream query left old new)
answered_stream query cut left old new (Ok x) e a = answered_whole query cut left old new e a
answered_stream query cut left old new (Err x) e a = tt

pub failed_stream : {A : Type 0} (query cut : List ℕ) (left old new : Option (List ℕ)) (result : Result A QueryStreamFault) → IfSome left (λ document. cut ≡ take (text_limit + 1) document) → IfErr result (FailsStream query (Some cut) old new) → IfErr result (FailsStream query left old new)
failed_stream query cut left old new (Ok x) e a = tt
failed_stream query cut left old new (Err fault) e a = failed_whole query cut left old new fault e a
