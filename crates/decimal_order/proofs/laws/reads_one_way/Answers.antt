use Rattle.std.proofs.Common.{◌≡◌, ℕ, List, true, is_some, Option, Some, None, refl, ap}
use Rattle.decimal_order.specs.Number.{IsNumber}
use Rattle.decimal_order.specs.Parts.{Parts}
use Rattle.decimal_order.specs.Reading.{read}
use Rattle.decimal_order.proofs.Readings.{number_unique, read_sound, read_complete}
use Rattle.decimal_order.proofs.Texts.{number_of_parts, parts_of_number, value_is}
use Rattle.decimal_order.proofs.laws.reads_one_way.Goals as goal

was_number : (text : List ℕ) (found : Option Parts) → read text ≡ found → is_some found ≡ true → IsNumber text
was_number text None e h = absurd cc
was_number text (Some p) e h = number_of_parts text p (read_sound text p e)

is_read : (text : List ℕ) → IsNumber text → is_some (read text) ≡ true
is_read text h = let p = parts_of_number text h in ap (λ (o : Option Parts). is_some o) (read_complete text p.0 p.1)

pub returns : goal.returns
returns c = record {
  has_parts = (λ text. (parts_of_number text, λ p. number_of_parts text p.0 p.1));
  one_way = number_unique;
  is_read = (λ text. (was_number text (read text) refl, is_read text));
  value_of_parts = (λ text p h. value_is h);
}
