pub mod Journeys
pub mod Views
