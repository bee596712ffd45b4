pub mod ScheduleVectors
pub mod Storing
pub mod OneRound
pub mod Absorbing
pub mod Rotations
pub mod Choices
pub mod Ending
pub mod RoundVectors
