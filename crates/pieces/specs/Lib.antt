pub mod Playing
pub mod Pieces
