-- What is taken of bytes in several writes.
use Rattle.std.proofs.Common.{◌≡◌, ℕ, List, ◌++◌, Option, None, Some, sym, ap, ◌∙◌, append_assoc, take, drop, length, length-drop, ◌-◌, arith, take-append-drop}
use Rattle.std.specs.Io.KnownBytes.{Appends, Keeps}
use Rattle.std.proofs.KnownBytes.{Appends-trans}
use Rattle.std.proofs.lemmas.List.{take_all}
use Rattle.standard_streams.specs.Fronts.{WritesBut}

more_taken : (count : ℕ) (rest bytes : List ℕ) (old mid new : Option (List ℕ)) → WritesBut rest bytes old mid → Appends mid new (take count rest)
    → WritesBut (drop count rest) bytes old new
more_taken count rest bytes old mid new w taken = record {
  front = w.front ++ take count rest;
  split = w.split ∙ ap (λ xs. w.front ++ xs) (sym (take-append-drop count rest)) ∙ sym (append_assoc w.front (take count rest) (drop count rest));
  written = Appends-trans old mid new w.front (take count rest) w.written taken;
}

-- as a slice's rest is told
pub rest_left : (count : ℕ) (rest bytes : List ℕ) (old mid new : Option (List ℕ)) → WritesBut rest bytes old mid → Appends mid new (take count rest)
    → WritesBut (take (length rest - count) (drop count rest)) bytes old new
rest_left count rest bytes old mid new w taken =
    let all : take (length rest - count) (drop count rest) ≡ drop count rest = take_all (length rest - count) (drop count rest) (omega (arith, length-drop count rest)) in
    rw all (more_taken count rest bytes old mid new w taken)

pub kept : (rest bytes : List ℕ) (old mid new : Option (List ℕ)) → WritesBut rest bytes old mid → Keeps mid new → WritesBut rest bytes old new
kept rest bytes None mid new w same = record { front = w.front; split = w.split; written = tt }
kept rest bytes (Some xs) None new w same = absurd w.written
kept rest bytes (Some xs) (Some ys) None w same = absurd same
kept rest bytes (Some xs) (Some ys) (Some zs) w same = record { front = w.front; split = w.split; written = same ∙ w.written }
