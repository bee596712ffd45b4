pub mod Schedules
pub mod Lanes
pub mod Rounds
