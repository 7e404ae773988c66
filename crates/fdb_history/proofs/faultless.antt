pub mod Grouped
pub mod Ranks
pub mod Logs
pub mod Legal
pub mod Counted
pub mod Explained
pub mod Sorted
