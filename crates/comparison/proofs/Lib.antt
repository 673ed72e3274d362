pub mod Entries
pub mod Found
pub mod Firsts
pub mod Messages
