pub mod Stepping
pub mod Fronts
