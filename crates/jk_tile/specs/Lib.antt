pub mod Samples
pub mod Pixels
pub mod TileBlocks
pub mod TileMeaning
pub mod Filling
pub mod decoding
pub mod encoding
pub mod Examples
