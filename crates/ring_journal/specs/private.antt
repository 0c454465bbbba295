pub mod Invariant
pub mod Ending
