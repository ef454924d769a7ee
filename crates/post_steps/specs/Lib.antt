pub mod Idle
pub mod Writeback
pub mod Compact
pub mod Turns
