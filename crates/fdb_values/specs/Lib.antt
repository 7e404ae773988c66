pub mod ByValue
pub mod Zones
pub mod Standings
pub mod ValuesByKey
pub mod Fits
pub mod Owners
