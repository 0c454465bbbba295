pub mod Envelopes
pub mod Journals
pub mod Kept
