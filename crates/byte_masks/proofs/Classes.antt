-- What the tables of the look-ups find.
use Rattle.std.proofs.Common.{◌≡◌, ℕ, ◌<◌, false, not, ◌&&◌, ◌==◌, arith, refl}
use Rattle.std.proofs.lemmas.Bool.Decides.{nat_tests}
use lib.Bits.{bit_or}
use Rattle.bit_words.proofs.Tables.{each}
use Rattle.byte_masks.specs.Classes.{op_byte, blank_byte, control_byte, found, near_op}
use Rattle.byte_masks.specs.declared.TheConstants.{OPS, BLANKS}

-- the entries that the tables have
pub ops_found : (c : ℕ) → c < 256 → (found OPS c == bit_or c 32) ≡ near_op c
ops_found = each (λ c. found OPS c == bit_or c 32) near_op 256 refl

pub blanks_found : (c : ℕ) → c < 256 → (found BLANKS c == c) ≡ blank_byte c
blanks_found = each (λ c. found BLANKS c == c) blank_byte 256 refl

-- the two bytes besides are control characters
pub no_control : (c : ℕ) → c < 256 → (near_op c && not (control_byte c)) ≡ op_byte c
no_control = each (λ c. near_op c && not (control_byte c)) op_byte 256 refl

-- ---- bytes that are no control characters

pub near_is : (c : ℕ) → control_byte c ≡ false → near_op c ≡ op_byte c
near_is c e = grind (arith, nat_tests)

pub space_is : (c : ℕ) → control_byte c ≡ false → (c == 32) ≡ blank_byte c
space_is c e = grind (arith, nat_tests)
