pub mod Addresses
pub mod Campaigns
pub mod Faults
pub mod Replies
pub mod private
