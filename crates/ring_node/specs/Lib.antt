pub mod Envelopes
pub mod Journals
pub mod Links
pub mod Nodes
pub mod Ports
pub mod Reports
pub mod private
