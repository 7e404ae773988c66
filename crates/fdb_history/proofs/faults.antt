pub mod FirstCalls
pub mod ByTable
pub mod Audited
pub mod Positions
pub mod FirstStray
