pub mod Cause
pub mod Options
pub mod Batch
pub mod Proxy
pub mod Rates
pub mod private
