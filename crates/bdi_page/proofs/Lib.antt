pub mod Bytes
pub mod Here
pub mod Lines
pub mod Packed
pub mod Reading
pub mod Told
