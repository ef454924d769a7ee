pub mod Calls
pub mod Contents
pub mod Dev
pub mod Memory
pub mod MemoryInside
pub mod Plan
pub mod PlanInside
