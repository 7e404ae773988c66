pub mod Account
pub mod Returned
pub mod Calls
pub mod Agreeing
pub mod Merging
pub mod Settling
pub mod Cluster
pub mod private
