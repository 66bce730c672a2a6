pub mod Plain
pub mod Marks
pub mod Quotes
pub mod Lists
