pub mod Rising
pub mod Rows
pub mod Regions
pub mod Laws
pub mod Entering
