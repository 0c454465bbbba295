pub mod Identities
pub mod Reading
