pub mod Counting
pub mod Covering
pub mod Pushing
pub mod Rolling
