pub mod Agreement
pub mod Families
pub mod Laws
pub mod Tables
pub mod Traces
