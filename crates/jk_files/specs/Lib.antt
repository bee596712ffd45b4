pub mod Names
pub mod Refusals
pub mod Listings
pub mod Examples
pub mod Incoming
