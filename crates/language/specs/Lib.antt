pub mod Words
pub mod Runs
pub mod Grammar
pub mod Commands
pub mod RecordText
pub mod ScheduleText
