pub mod GroupName
pub mod Identity
pub mod Refusals
pub mod Sides
pub mod Term
pub mod laws
