pub mod Weights
pub mod Weighing
pub mod Shares
pub mod Sharing
pub mod Laws
