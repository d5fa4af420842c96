pub mod HeldData
pub mod DataOf
pub mod RegionData
