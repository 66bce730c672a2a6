pub mod AvcLemmas
pub mod BitsLemmas
pub mod SetsLemmas
pub mod TimeLemmas
