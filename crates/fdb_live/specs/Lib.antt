pub use Rattle.fdb_chain.specs.ChainCore
pub mod Holding
pub mod Seen
pub mod Gathering
pub mod private
