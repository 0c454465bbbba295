pub mod Kinds
pub mod Replay
pub mod Under
pub mod private
