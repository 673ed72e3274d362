pub mod Gathered
pub mod Steps
pub mod Places
pub mod Totals
