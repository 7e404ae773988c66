pub mod Explaining
pub mod Auditing
pub mod Justifying
