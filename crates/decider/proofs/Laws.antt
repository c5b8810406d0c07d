pub mod Search
pub mod Outcomes
