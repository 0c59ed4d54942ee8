pub mod Drafts
pub mod Forms
pub mod Limits
pub mod Roles
