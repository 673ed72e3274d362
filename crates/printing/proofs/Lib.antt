pub mod Bounds
pub mod Texts
