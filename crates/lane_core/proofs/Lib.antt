pub mod Full
pub mod Histories
pub mod Sizes
pub mod Does
