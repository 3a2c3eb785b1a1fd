-- That a side is one of its document is a fact: it has one proof at most.
use Rattle.std.specs.Prelude.{true}
use Rattle.std.specs.Coded.{Coded-set, coded_bool, Unit-prop, le_prop}
use Rattle.json_tape.specs.Document.{Doc}
use Rattle.tape_values.specs.Sides.{IsSide}
use Rattle.tape_values.specs.declared.sides.Side.{Side}
use Rattle.tape_values.specs.declared.sides.Side.TheVariants as sides

pub IsSide-prop : (d : Doc) (s : Side) → IsProp (IsSide d s)
IsSide-prop d sides.Nothing = Unit-prop
IsSide-prop d (sides.Node n) = le_prop
IsSide-prop d (sides.Literal l) = Coded-set coded_bool _ true
IsSide-prop d (sides.Whole n) = Unit-prop
