pub mod Cleared
pub mod Gone
pub mod Looking
pub mod Told
pub mod WhoReplies
