pub mod Limits
pub mod Lengths
pub mod Dials
pub mod Sizes
pub mod Opening
