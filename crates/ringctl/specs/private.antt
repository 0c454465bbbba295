pub mod Firsts
pub mod Words
