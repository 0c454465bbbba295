pub mod Ring
pub mod private
