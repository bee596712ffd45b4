pub mod Lifting
pub mod Samples
pub mod Sweep
pub mod Planes
pub mod Laws
pub mod Pieces
pub mod Examples
pub mod Pairs
