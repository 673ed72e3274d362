pub mod Lengths
pub mod Respelled
