pub mod Bounded
pub mod Deciding
pub mod Lawful
pub mod Others
pub mod Taken
pub mod Traces
