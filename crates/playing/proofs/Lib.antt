pub mod Records
pub mod Turns
pub mod Ways
