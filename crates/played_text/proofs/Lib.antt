pub mod Known
pub mod Ending
pub mod Refusing
pub mod Stores
pub mod Whole
