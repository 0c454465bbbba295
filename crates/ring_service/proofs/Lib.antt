pub mod Lists
pub mod Manning
pub mod Meshing
pub mod Placing
pub mod Posting
pub mod Replying
pub mod Speaking
