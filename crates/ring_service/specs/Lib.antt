pub mod Handing
pub mod Places
pub mod Sessions
pub mod private
