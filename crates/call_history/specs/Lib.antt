pub mod Parts
pub mod Shows
pub mod Histories
pub mod Alone
pub mod Tallies
pub mod Laws
