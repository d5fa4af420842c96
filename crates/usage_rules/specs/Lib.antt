pub mod Spikes
pub mod Usage
