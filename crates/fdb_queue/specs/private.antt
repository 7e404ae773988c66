pub mod Kinds
pub mod Rates
pub mod Reach
pub mod Walk
