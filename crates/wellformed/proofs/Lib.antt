pub mod Entering
pub mod Chains
pub mod Waits
pub mod Links
pub mod Passed
pub mod Verdict
