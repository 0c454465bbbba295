pub mod Faults
pub mod Listening
pub mod Noting
pub mod Resuming
pub mod Viewing
