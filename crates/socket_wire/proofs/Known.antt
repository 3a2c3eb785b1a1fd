-- The known bytes of a stream over calls that a signal interrupted.
use Rattle.std.proofs.Common.{ℕ, List, Option, None, Some, Result, Ok, Err, refl, subst}
use Rattle.std.specs.Io.KnownBytes.{Keeps, ReadConsumes, WriteAppends}

pub keeps_itself : (a : Option (List ℕ)) → Keeps a a
keeps_itself None = tt
keeps_itself (Some bytes) = refl

pub keeps_still : (a b c : Option (List ℕ)) → Keeps a b → Keeps b c → Keeps a c
keeps_still None b c k l = tt
keeps_still (Some bytes) None c k l = absurd k
keeps_still (Some bytes) (Some others) c k l = subst (λ x. Keeps (Some x) c) k l

pub reads_then : {E : Type 0} (a b c : Option (List ℕ)) (r : Result ℕ E) (into : List ℕ) → Keeps a b → ReadConsumes b c r into → ReadConsumes a c r into
reads_then None b c (Ok n) into k reads = (tt, reads.1)
reads_then None b c (Err e) into k reads = tt
reads_then (Some bytes) None c r into k reads = absurd k
reads_then (Some bytes) (Some others) c r into k reads = subst (λ x. ReadConsumes (Some x) c r into) k reads

pub writes_then : {E : Type 0} (a b c : Option (List ℕ)) (r : Result ℕ E) (from : List ℕ) → Keeps a b → WriteAppends b c r from → WriteAppends a c r from
writes_then None b c (Ok n) from k writes = tt
writes_then None b c (Err e) from k writes = tt
writes_then (Some bytes) None c r from k writes = absurd k
writes_then (Some bytes) (Some others) c r from k writes = subst (λ x. WriteAppends (Some x) c r from) k writes
