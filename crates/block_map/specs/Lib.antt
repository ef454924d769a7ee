pub mod BlockMap
pub mod Inside
pub mod Tree
