pub mod Quiet
pub mod Settlements
pub mod PacketKinds
pub mod Worlds
pub mod private
