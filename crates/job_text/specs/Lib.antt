pub mod Answers
pub mod Faults
pub mod Generator
pub mod Jobs
pub mod Lines
pub mod Numbers
pub mod Reading
pub mod Totals
