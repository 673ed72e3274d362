pub mod Rows
pub mod Counting
pub mod Senders
