pub mod Partners
pub mod Settled
