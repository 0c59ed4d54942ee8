pub mod Codes
pub mod Rule
pub mod Desk
