pub mod Asking
pub mod Picturing
pub mod Routes
