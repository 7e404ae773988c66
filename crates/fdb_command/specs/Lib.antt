pub mod Arguments
pub mod Input
pub mod Output
pub mod Driving
pub mod private
pub mod Text
