pub use Rattle.jk_math.specs.Answer
pub mod Words
pub mod Others
pub mod Listing
pub mod Taking
