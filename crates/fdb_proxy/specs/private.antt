pub mod Sent
pub mod Turn
