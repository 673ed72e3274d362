pub mod Performed
pub mod Stepped
pub mod Kept
