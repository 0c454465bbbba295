pub mod Causes
mod Crossing
mod Replaying
mod Taking
mod Telling
mod Wholes
