pub mod Ends
pub mod Files
pub mod History
pub mod Pair
pub mod Samples
pub mod Stamps
pub mod TimedLemmas
