pub mod Cuts
pub mod Deeds
pub mod Sorted
pub mod Steps
pub mod Strips
pub mod Walks
pub mod Whole
