pub mod Machine
pub mod Laws
pub mod Size
pub mod Shown
