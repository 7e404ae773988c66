pub mod Clients
pub mod Handles
pub mod Some
pub mod Times
pub mod Windows
pub mod Word
