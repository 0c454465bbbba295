pub mod Faults
pub mod Listening
pub mod Resuming
pub mod Running
pub mod Sessions
pub mod Viewing
pub mod private
