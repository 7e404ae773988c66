pub mod Plan
pub mod Reading
pub mod Answering
pub mod Text
pub use Rattle.fdb_history.specs.Added
pub use Rattle.fdb_history.specs.Event
pub use Rattle.fdb_history.specs.Log
pub use Rattle.fdb_queue.specs.Config
