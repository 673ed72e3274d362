pub mod Beginning
pub mod Cancelling
pub mod Loading
pub mod Refused
