pub mod Chang
pub mod Work
pub mod laws
