pub mod Lawful
pub mod Lines
pub mod Named
