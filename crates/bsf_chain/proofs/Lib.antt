pub mod ApplyLemmas
pub mod ParseLemmas
pub mod ResultLemmas
