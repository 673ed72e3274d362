pub mod Members
pub mod Partners
pub mod Reading
pub mod Returned
pub mod Spelling
pub mod Table
