pub mod Components
pub mod Tiles
