pub mod Openings
pub mod Tasks
