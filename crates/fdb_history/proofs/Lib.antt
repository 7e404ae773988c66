pub mod Lists
pub mod chains
pub mod histories
pub mod explained
pub mod faultless
pub mod faults
