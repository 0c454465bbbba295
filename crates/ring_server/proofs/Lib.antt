mod Telling
mod Crossing
mod Lasting
mod Logging
mod Ending
mod Gaining
mod Turned
mod Keeping
mod Walking
pub mod MediumCrossing
