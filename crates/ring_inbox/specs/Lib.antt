pub mod Inbox
pub mod Rule
pub mod Values
pub mod Passes
pub mod private
