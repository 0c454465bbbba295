pub mod Journals
pub mod Places
pub mod Words
pub mod private
