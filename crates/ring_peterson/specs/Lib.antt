pub mod Peterson
pub mod Rounds
pub mod laws
