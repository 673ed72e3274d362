pub mod Begins
pub mod Fronts
pub mod Reading
