pub mod Classes
pub mod Finds
pub mod Forms
pub mod Options
pub mod Words
