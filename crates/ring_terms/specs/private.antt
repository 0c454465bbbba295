pub mod Books
pub mod Replies
