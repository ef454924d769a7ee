pub mod Counters
pub mod Stat
pub mod Tally
pub mod Views
