pub mod TagTree
pub mod Asking
pub mod Telling
pub mod Examples
