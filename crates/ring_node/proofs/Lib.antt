pub mod Announcing
mod Finding
pub mod Gaining
pub mod Receipts
pub mod Steps
pub mod Telling
