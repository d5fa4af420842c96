pub mod Adding
pub mod Daily
