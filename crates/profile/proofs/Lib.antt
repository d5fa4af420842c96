mod Averaged
mod Newest
