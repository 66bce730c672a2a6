pub mod Filled
pub mod Pieces
pub mod Placed
pub mod UnitList
pub mod Units
