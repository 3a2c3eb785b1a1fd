-- What the sides of a comparison stand for.
use Rattle.std.specs.Prelude.{◌≡◌, ℕ, ◌<◌, List, Option, Some, None, IsTrue}
use Rattle.path_grammar.specs.View.{literal_view}
use Rattle.path_types.specs.Validity.{is_literal}
use Rattle.json_tape.specs.Document.{Doc, node_at, count, single}
use Rattle.json_text.specs.declared.tape.NodeId.{NodeId}
use Rattle.tape_values.specs.Comparison.{Value, a_number, value_of, literal_value}
use Rattle.tape_values.specs.Contents.{digits_text, AreDigits, IsNumberText}
use Rattle.tape_values.specs.Functions.{whole_number, only_value}
use Rattle.tape_values.specs.declared.digits.Digits.{Digits}
use Rattle.tape_values.specs.declared.sides.Side.{Side}
use Rattle.tape_values.specs.declared.sides.Side.TheVariants as sides

abbrev pub side_value : Doc → Side → Option Value
side_value d sides.Nothing = None
side_value d (sides.Node n) = Some (value_of (node_at d n.0).tree)
side_value d (sides.Literal l) = Some (literal_value (literal_view l.now))
side_value d (sides.Whole n) = Some (whole_number n)

-- a node of the document, or a valid literal
abbrev pub IsSide : Doc → Side → Type 0
IsSide d sides.Nothing = Unit {0}
IsSide d (sides.Node n) = n.0 < count d
IsSide d (sides.Literal l) = IsTrue (is_literal (literal_view l.now))
IsSide d (sides.Whole n) = Unit {0}

abbrev pub number_text : Value → Option (List ℕ)
number_text (a_number text) = Some text
number_text v = None

abbrev pub number_text_of : Option Value → Option (List ℕ)
number_text_of None = None
number_text_of (Some v) = number_text v

-- the digits of a side that is a number
abbrev pub side_number : Doc → Side → Option (List ℕ)
side_number d s = number_text_of (side_value d s)

-- the side is the number of these digits
pub record IsNumberSide (d : Doc) (s : Side) (digits : Digits) : Type 0 where
  pub value : side_value d s ≡ Some (a_number (digits_text digits))
  pub number : AreDigits digits

-- what was found is a number of this text
pub record IsNumberFound (d : Doc) (found : Option NodeId) (text : List ℕ) : Type 0 where
  pub value : only_value (single d found) ≡ Some (a_number text)
  pub number : IsNumberText text
