pub mod Shifts
pub mod Deciding
pub mod Deferring
pub mod Doubling
pub mod Feeding
pub mod Reaching
pub mod Staying
pub mod Widening
