pub mod Winner
pub mod Tree
