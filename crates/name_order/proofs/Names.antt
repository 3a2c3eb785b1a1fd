-- The names that the proofs of this crate take most often from other crates and from its own definitions.
pub use Rattle.std.specs.declared.cmp.Ordering.TheVariants.{Equal, Less}
pub use Rattle.json_strings.proofs.Spelled.{quoted_at, scalars_at}
pub use Rattle.json_strings.specs.Keys.{key_name, name_cmp, Keyed}
pub use Rattle.json_text.proofs.MembersLeft.{no_entry, all_left, next_left, same_entry}
pub use Rattle.json_text.specs.declared.tape.Entry.{Entry}
pub use Rattle.name_order.specs.Ordered.{keyed, word_of, AreKept, IsOrderOf, name_at, name_in}
pub use Rattle.name_order.specs.Orders.{Order}
pub use Rattle.tape_cells.specs.Cells.{members_in}
