pub mod Promised
pub mod Sets
pub mod Words
