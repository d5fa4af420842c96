pub mod Clocks
pub mod Stages
pub mod Arguments
