pub mod Answers
pub mod Deferred
pub mod Examples
pub mod Registers
pub mod Standing
pub mod Wide
