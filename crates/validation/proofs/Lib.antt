pub mod Filled
pub mod Alike
