pub mod Colour
pub mod Examples
