pub mod Signs
pub mod Words
pub mod Writing
