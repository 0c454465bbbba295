pub mod Families
pub mod Members
pub mod Rings
pub mod Sums
