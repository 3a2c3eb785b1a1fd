-- How many bytes moved, from one moment to the next.
use Rattle.std.proofs.Common.{◌≡◌, ◌<◌, ◌≤◌, ◌+◌, ◌-◌, ◌^◌, ℕ, List, [], ◌++◌, length, Option, ap, ◌∙◌, arith}
use Rattle.std.specs.Prelude.{min, take}
use Rattle.std.proofs.lemmas.List.{append-nil, length-append}
use Rattle.std.proofs.lemmas.List.{length-take-le}
use Rattle.outbox.specs.Traffic.{HasMoved, Traffic, moved, with_read, with_written}
use Rattle.outbox.proofs.Joining.{moved_twice}
use Rattle.outbox.proofs.Single.{moved_none, moved_read, moved_written}

pub none_moved : (o o' : Option Traffic) → o' ≡ o → HasMoved o o' 0 0
none_moved o o' e = record { piece = []; bytes = []; is = e ∙ moved_none o; read_is = omega arith; written_is = omega arith }

counted : (n : ℕ) (xs : List ℕ) → n < 2 ^ 64 → n ≤ length xs → n ≡ min (length (take n xs ++ [])) (2 ^ 64 - 1)
counted n xs f l =
    let e : length (take n xs ++ []) ≡ length (take n xs) = ap (λ (ys : List ℕ). length ys) (append-nil (take n xs)) in
    omega (arith, e, length-take-le n xs l)

pub read_moved : (o o' : Option Traffic) (n : ℕ) (xs : List ℕ) → n < 2 ^ 64 → n ≤ length xs → o' ≡ with_read (take n xs) o → HasMoved o o' n 0
read_moved o o' n xs f l e = record { piece = take n xs ++ []; bytes = []; is = e ∙ moved_read o (take n xs); read_is = counted n xs f l; written_is = omega arith }

pub written_moved : (o o' : Option Traffic) (n : ℕ) (xs : List ℕ) → n < 2 ^ 64 → n ≤ length xs → o' ≡ with_written (take n xs) o → HasMoved o o' 0 n
written_moved o o' n xs f l e = record { piece = []; bytes = take n xs ++ []; is = e ∙ moved_written o (take n xs); read_is = omega arith; written_is = counted n xs f l }

-- one after the other
pub moved_on : (a b c : Option Traffic) (r w s v : ℕ) → HasMoved a b r w → HasMoved b c s v → HasMoved a c (min (r + s) (2 ^ 64 - 1)) (min (w + v) (2 ^ 64 - 1))
moved_on a b c r w s v h k =
    let p : length (h.piece ++ k.piece) ≡ length h.piece + length k.piece = simp length-append in
    let q : length (h.bytes ++ k.bytes) ≡ length h.bytes + length k.bytes = simp length-append in
    record {
      piece = h.piece ++ k.piece;
      bytes = h.bytes ++ k.bytes;
      is = k.is ∙ ap (λ (x : Option Traffic). moved k.piece k.bytes x) h.is ∙ moved_twice a h.piece k.piece h.bytes k.bytes;
      read_is = omega (arith, h.read_is, k.read_is);
      written_is = omega (arith, h.written_is, k.written_is);
    }

-- a write, a read and a write
pub all_moved : (a b c d : Option Traffic) (before read behind : ℕ) → HasMoved a b 0 before → HasMoved b c read 0 → HasMoved c d 0 behind → HasMoved a d read (min (before + behind) (2 ^ 64 - 1))
all_moved a b c d before read behind h k l =
    let x = moved_on a b c 0 before read 0 h k in
    let y = moved_on a c d (min (0 + read) (2 ^ 64 - 1)) (min (before + 0) (2 ^ 64 - 1)) 0 behind x l in
    let f : read ≡ min (length k.piece) (2 ^ 64 - 1) = k.read_is in
    record { piece = y.piece; bytes = y.bytes; is = y.is; read_is = omega (arith, f, y.read_is); written_is = omega (arith, y.written_is) }
