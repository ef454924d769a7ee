pub mod Faults
pub mod Memory
pub mod Pieces
pub mod Plain
pub mod Sectors
