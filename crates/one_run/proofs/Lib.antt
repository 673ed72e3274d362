pub mod Known
pub mod Counts
pub mod SameLogs
