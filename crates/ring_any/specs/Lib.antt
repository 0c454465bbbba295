pub mod Any
pub mod Kinds
pub mod Variants
pub mod laws
