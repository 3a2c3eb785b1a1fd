-- The names that the proofs of this crate take most often from other crates and from its own definitions.
pub use Rattle.byte_masks.specs.Classes.{blank_byte, op_byte}
pub use Rattle.decimal_order.specs.Limits.{IsWithinLimits}
pub use Rattle.decimal_order.specs.Number.{IsNumber}
pub use Rattle.json_text.specs.declared.modes.Mode.TheVariants.{Between}
pub use Rattle.json_text.specs.declared.tape.BuildFault.{BuildFault}
pub use Rattle.json_text.specs.declared.tape.BuildFault.TheVariants.{NotJson, Memory}
pub use Rattle.json_text.specs.declared.tape.Entry.{Entry}
pub use Rattle.json_text.specs.declared.tape.Extent.{Extent}
pub use Rattle.json_text.specs.declared.tape.Kind.{Kind}
pub use Rattle.json_text.specs.declared.tape.Level.{Level}
pub use Rattle.json_text.specs.declared.tape.Level.TheVariants.{Root, Inside}
pub use Rattle.json_text.specs.declared.tape.Open.{Open}
pub use Rattle.json_text.specs.declared.tape.Shape.{Shape}
pub use Rattle.json_text.specs.declared.tape.Shape.TheVariants.{Object, Array}
pub use Rattle.json_text.specs.declared.tape.Want.{Want}
pub use Rattle.json_text.specs.declared.tape.Want.TheVariants.{Next, Value}
pub use Rattle.json_walk.specs.Building.{IsBounded}
pub use Rattle.json_walk.specs.Lexing.{Marked}
pub use Rattle.json_walk.specs.Placing.{ClosesBefore, StringEnds}
pub use Rattle.json_walk.specs.Walked.{IsListed, Walked, at, begins_value, is_text, place, point, token_of, Halts, Point, TokenAt, WalksValue, end_of}
pub use Rattle.json_walk.specs.Walked.{moves, no_more, stays, want_at}
pub use Rattle.json_walk.specs.Walking.{weight, StandsAt}
pub use Rattle.json_walk.specs.declared.lexing.Lexed.{Lexed}
pub use Rattle.json_walk.specs.declared.second_stage.Spot.{Spot}
pub use Rattle.name_stamps.specs.Stamps.{DuplicateCheck}
pub use Rattle.structural_index.specs.Places.{places, byte, HasControlInside, is_inside}
pub use Rattle.structural_index.specs.Seams.{IsSeam, is_plain_atom, next_place, IsAtomRun, IsSpan}
pub use Rattle.tape_cells.specs.Built.{standing, Built}
