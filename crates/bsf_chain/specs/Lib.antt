pub mod Apply
pub mod Chain
pub mod Parse
