pub mod Greatest
pub mod InPlace
pub mod Remaining
