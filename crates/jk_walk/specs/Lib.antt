pub mod TilePackets
pub mod WalkReading
pub mod Keeping
pub mod Sop
pub mod Entries
pub mod Examples
