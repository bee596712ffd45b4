pub mod Pixels
pub mod EightPixels
pub mod Laws
