pub mod Bounded
pub mod Deciding
pub mod Lawful
pub mod Lifted
pub mod Lowered
