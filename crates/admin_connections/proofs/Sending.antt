-- A write of a part of a reply.
use Rattle.std.proofs.Common.{◌≡◌, ◌∙◌, ap, inl, ℕ, List, length, take, drop, Option, arith, length-take}
use Rattle.std.proofs.lemmas.List.{take-take}
use Rattle.outbox.specs.Traffic.{Traffic, with_written}
use Rattle.outbox.specs.Moves.{IsSome}
use Rattle.admin_connections.specs.Desks.{Sends}

pub sent_of : (wire wire' : Option Traffic) (owed owed' piece : List ℕ) (count : ℕ) → piece ≡ take 16384 owed → IsSome count (length piece) → wire' ≡ with_written (take count piece) wire → owed' ≡ drop count owed → Sends wire wire' owed owed'
sent_of wire wire' owed owed' piece count front some written left =
    let same : take count piece ≡ take count owed = ap (take count) front ∙ take-take count 16384 owed (omega (arith, length-take 16384 owed, ap length front, some.within)) in
    inl (count, written ∙ ap (λ xs. with_written xs wire) same, left)
