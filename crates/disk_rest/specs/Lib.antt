pub mod Rows
pub mod Resting
pub mod Printed
pub mod Laws
