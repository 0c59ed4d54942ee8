pub mod Rooms
pub mod Denotes
pub mod Cells
pub mod Parts
pub mod Printing
