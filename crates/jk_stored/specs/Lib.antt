pub mod Hands
pub mod Walks
pub mod Outlines
pub mod Contents
pub mod Making
