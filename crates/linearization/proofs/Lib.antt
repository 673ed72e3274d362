pub mod Represents
pub mod Demand
pub mod Forced
pub mod Places
pub mod Corollaries
pub mod Replayed
pub mod Applied
pub mod Computed
