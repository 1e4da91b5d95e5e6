pub mod Counting
pub mod Runs
pub mod Temporaries
pub mod Instructions
pub mod Splices
pub mod Pieces
pub mod Blocks
