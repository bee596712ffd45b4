pub use Rattle.jk_math.specs.Answer
pub use Rattle.byteorder.specs.Endian
pub use Rattle.jk_math.specs.Picture
pub mod Boxes
pub mod Reading
pub mod Written
pub mod Replacing
pub mod Examples
