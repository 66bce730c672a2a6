pub mod Adts
pub mod AdtsMux
pub mod Laws
pub mod Sample
