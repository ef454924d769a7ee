pub mod Rows
pub mod Machine
pub mod Values
pub mod Totals
pub mod Laws
pub mod Hands
pub mod HandLaws
pub mod Rules
