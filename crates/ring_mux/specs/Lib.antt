pub mod Journeys
pub mod Quiet
pub mod Views
pub mod WorldSteps
pub mod private
