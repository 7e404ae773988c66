pub mod Stamps
pub mod NoFault
