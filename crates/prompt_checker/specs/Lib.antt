pub mod Schedule
pub mod Plan
pub mod Verdict
pub mod Read
pub mod ScheduleText
pub mod Text
pub mod Laws
pub mod Inside
