pub mod CellLaws
pub mod MovableLaws
pub mod MoveLaws
