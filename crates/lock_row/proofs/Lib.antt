pub mod Lists
pub mod Values
pub mod Places
pub mod Totals
