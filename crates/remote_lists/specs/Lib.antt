pub mod Reach
pub mod Listings
pub mod Sources
pub mod Paths
