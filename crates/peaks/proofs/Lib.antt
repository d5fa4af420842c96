mod Highest
pub mod Ranking
