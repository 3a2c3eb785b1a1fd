-- The bytes before the first backslash of a text.
use Rattle.std.proofs.Common.{◌≡◌, ℕ, ◌<◌, false, take, get_or, List, length, arith, eqb-true}
use Rattle.std.specs.Str.{IsCharBoundary}
use Rattle.std.proofs.lemmas.Bool.{eq-eqb}
use Rattle.std.proofs.lemmas.Str.{IsCharBoundary-before_ascii}
use Rattle.memchr.specs.Find.{Nowhere, Passes, is_byte}
use Rattle.json_strings.specs.Spelling.{has_backslash}
use Rattle.json_strings.proofs.PlainNames.{slashless_front}

pub none_before : (bytes : List ℕ) (run : ℕ) → Nowhere (Passes (is_byte 92) bytes) 0 run → has_backslash (take run bytes) ≡ false
none_before bytes run none = slashless_front bytes run (λ k h e. none k (omega arith) h (eq-eqb (get_or bytes k 0) 92 e))

pub cut_there : (bytes : List ℕ) (run : ℕ) → run < length bytes → Passes (is_byte 92) bytes run → IsCharBoundary bytes run
cut_there bytes run inside there = IsCharBoundary-before_ascii bytes run inside (let e = eqb-true (get_or bytes run 0) 92 there in omega (arith, e))
