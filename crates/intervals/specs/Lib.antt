pub mod Conditions
pub mod Intervals
