pub mod Firsts
pub mod Forces
pub mod Numbers
