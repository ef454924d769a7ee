pub mod Line
pub mod Coded
pub mod Packed
pub mod Written
