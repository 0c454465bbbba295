pub mod LeLann
pub mod Work
pub mod laws
