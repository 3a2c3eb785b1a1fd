pub use Rattle.node_lists.specs.Evaluation
pub use Rattle.node_lists.specs.Nodelists
pub use Rattle.node_lists.specs.Charge
pub mod Budget
pub mod Memo
pub mod Awaiting
