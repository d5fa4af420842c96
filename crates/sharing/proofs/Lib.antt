pub mod Running
pub mod Places
