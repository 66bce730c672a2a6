pub mod Flv
pub mod FlvMux
pub mod Laws
pub mod Packets
pub mod Sample
pub mod Timed
