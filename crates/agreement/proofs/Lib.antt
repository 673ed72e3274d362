pub mod Counts
pub mod Ranks
pub mod Pairings
