pub mod Names
pub mod Scene
pub mod Sites
pub mod Folds
pub mod Given
pub mod Terms
