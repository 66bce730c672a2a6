pub mod Deal
pub mod Meaning
pub mod Probe
pub mod State
pub mod Steps
pub mod View
