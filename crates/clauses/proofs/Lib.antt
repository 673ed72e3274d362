pub mod Codes
pub mod Held
pub mod Alone
