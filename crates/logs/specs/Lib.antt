pub mod Comparison
pub mod OneRun
