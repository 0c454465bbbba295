pub mod Appending
pub mod Identities
pub mod OneSpelling
pub mod Sinks
pub mod Spelling
pub mod laws
pub mod private
