pub mod Front
pub mod Head
pub mod Ahead
pub mod Reader
pub mod TagReader
pub mod Tags
pub mod Written
