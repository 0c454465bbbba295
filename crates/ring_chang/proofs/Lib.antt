pub mod Reading
pub mod Triangle
