-- The word of the odd places.
use Rattle.std.proofs.Common.{refl}
use Rattle.bit_words.specs.Words.{is_set, is_odd, HasBits}
use Rattle.bit_words.proofs.Tables.{each}

pub odds : HasBits 0xaaaa_aaaa_aaaa_aaaa is_odd
unfolding is_set
odds = each (is_set 0xaaaa_aaaa_aaaa_aaaa) is_odd 64 refl
