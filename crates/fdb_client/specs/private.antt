pub mod Versions
pub mod Exchange
pub mod Refusals
pub mod Serving
