pub mod Gifts
pub mod Fours
pub mod Naming
