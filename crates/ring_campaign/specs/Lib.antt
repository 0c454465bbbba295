pub mod Campaigns
pub mod Clearing
pub mod Entries
pub mod private
