pub mod Apart
pub mod Far
pub mod Messages
pub mod Packing
pub mod Sums
