pub mod Fits
pub mod OneRecord
pub mod WholeSchedule
