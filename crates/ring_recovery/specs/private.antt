pub mod Invariant
pub mod MostChanges
pub mod Reading
pub mod Rebuilding
pub mod Replaying
pub mod Shortening
