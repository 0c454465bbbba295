pub mod Fates
pub mod Goings
pub mod Holdings
pub mod Posts
pub mod Runs
pub mod Seatings
pub mod Sends
