pub mod ListLemmas
pub mod NativeLemmas
pub mod PiecesLemmas
pub mod ShortLemmas
pub mod SizeLemmas
pub mod UnitsLemmas
