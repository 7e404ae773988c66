pub mod Requests
pub mod Batches
pub mod Turns
pub mod Rerated
