pub mod LineEnds
pub mod Places
pub mod Pieces
