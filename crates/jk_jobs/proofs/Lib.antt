pub mod Shares
pub mod JobLaws
pub mod Laws
