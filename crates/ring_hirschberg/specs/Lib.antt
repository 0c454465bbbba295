pub mod Hirschberg
pub mod Phases
pub mod Work
pub mod laws
