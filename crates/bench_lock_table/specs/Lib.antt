pub mod Tagging
pub mod Ready
pub mod TagRule
pub mod Made
pub mod Names
