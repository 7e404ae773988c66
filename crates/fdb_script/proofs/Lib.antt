pub mod Arrays
pub mod Texts
pub mod Within
