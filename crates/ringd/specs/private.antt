pub mod Journal
pub mod Run
