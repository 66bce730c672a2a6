pub mod Lines
pub mod Sorting
pub mod Steps
