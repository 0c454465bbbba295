pub mod Asking
pub mod Pools
pub mod Meshes
pub mod Placing
pub mod PendingBegins
pub mod Telling
