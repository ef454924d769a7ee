pub mod Lists
pub mod Events
pub mod Moves
pub mod Kept
pub mod Steps
pub mod Parts
pub mod Openings
pub mod Shuts
