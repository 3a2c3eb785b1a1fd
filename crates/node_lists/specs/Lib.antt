pub use Rattle.path_meaning.specs.Evaluation
pub use Rattle.path_meaning.specs.Charge
pub use Rattle.path_meaning.specs.Links
pub mod Nodelists
pub mod Extra
pub mod Laws
pub mod Paying
