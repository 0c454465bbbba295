pub mod Clearing
pub mod Looking
pub mod Telling
