pub mod Stuffing
pub mod Reading
pub mod Writing
pub mod Giving
pub mod Examples
