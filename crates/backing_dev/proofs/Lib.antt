pub mod Blocks
pub mod Due
