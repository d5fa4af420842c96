pub mod Ranks
pub mod Counts
