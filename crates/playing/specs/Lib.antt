pub mod Playback
pub mod Record
