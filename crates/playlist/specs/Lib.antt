pub mod Template
pub mod List
