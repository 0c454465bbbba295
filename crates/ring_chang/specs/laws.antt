pub mod Bounded
pub mod Deciding
pub mod Lawful
pub mod Records
pub mod Steps
