pub mod Dealing
