pub mod Changes
pub mod Checks
pub mod Filling
pub mod Lines
pub mod Spelling
pub mod laws
pub mod private
