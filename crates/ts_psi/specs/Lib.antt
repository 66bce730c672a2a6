pub mod Cell
pub mod Crc
pub mod Tables
