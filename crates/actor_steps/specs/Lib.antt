pub mod Places
pub mod Counts
pub mod Work
pub mod Calls
pub mod Replies
pub mod Workers
pub mod Preparing
