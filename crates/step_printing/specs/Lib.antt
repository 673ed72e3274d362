pub mod Modes
