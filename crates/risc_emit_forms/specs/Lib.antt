pub mod Pieces
pub mod Peephole
pub mod Words
pub mod Instructions
pub mod Entries
pub mod Forms
pub mod Follows
pub mod Laws
