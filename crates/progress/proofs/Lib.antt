pub mod Still
pub mod Awake
pub mod Asked
