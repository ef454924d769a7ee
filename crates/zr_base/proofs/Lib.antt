pub mod Sectors
pub mod Words
pub mod Supplies
pub mod Requests
pub mod Ranges
