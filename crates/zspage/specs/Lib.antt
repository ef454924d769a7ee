pub mod Cells
pub mod Moves
pub mod Spots
pub mod Movable
