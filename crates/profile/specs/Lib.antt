pub mod Codes
pub mod Meanings
pub mod PastDays
pub mod Averages
pub mod Laws
pub mod PastDaysOf
pub mod Line
