pub mod Texts
pub mod Writing
