pub mod Computing
pub mod Lines
pub mod Words
