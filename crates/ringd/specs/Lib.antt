pub mod Journal
pub mod Run
pub mod private
