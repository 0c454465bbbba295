pub mod Changes
pub mod Leaders
pub mod Lives
pub mod Replays
