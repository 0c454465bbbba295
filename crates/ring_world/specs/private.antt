pub mod LinkSets
pub mod Places
pub mod Settlements
pub mod Tallies
pub mod Worlds
