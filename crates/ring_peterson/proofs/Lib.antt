pub mod Walked
pub mod Logarithm
