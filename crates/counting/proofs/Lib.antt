pub mod Turns
pub mod Starts
