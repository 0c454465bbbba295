pub mod Parts
pub mod Reading
