pub mod Interleave
pub mod Queues
pub mod Sorting
pub mod View
