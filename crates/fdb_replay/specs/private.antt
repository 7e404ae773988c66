pub mod Rounds
pub mod Routing
pub mod Configured
