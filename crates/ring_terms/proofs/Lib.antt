mod BookFacts
mod Entries
mod GroupFacts
mod Informing
pub mod Members
pub mod Objects
mod Places
pub mod Steps
