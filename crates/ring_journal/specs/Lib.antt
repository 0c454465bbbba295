pub mod Appending
pub mod Journals
pub mod Lines
pub mod Memories
pub mod Moments
pub mod Whole
pub mod private
