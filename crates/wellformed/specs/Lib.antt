pub mod Links
pub mod Waiting
