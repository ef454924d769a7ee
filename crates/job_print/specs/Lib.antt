pub mod Texts
pub mod Proper
pub mod Reading
pub mod Outputs
