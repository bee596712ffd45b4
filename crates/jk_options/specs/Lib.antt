pub use Rattle.jk_math.specs.Answer
pub use Rattle.jk_math.specs.Picture
pub mod Sizes
pub mod Options
pub mod Orders
pub mod Plans
