pub mod Playing
pub mod AsRead
pub mod Fronts
pub mod Ends
pub mod Cuts
pub mod WholeText
pub mod Pieces
