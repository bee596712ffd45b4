pub mod Code
pub mod Contexts
pub mod Steps
pub mod Decisions
pub mod Deciding
pub mod CodingPasses
pub mod Placed
pub mod Examples
