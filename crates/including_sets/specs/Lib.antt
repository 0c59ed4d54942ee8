pub mod Uses
pub mod Firsts
pub mod Listings
pub mod Keys
pub mod Types
pub mod Named
pub mod Made
pub mod Sets
