pub mod Turns
pub mod InTurns
pub mod Runs
pub mod Splices
pub mod Laws
pub mod Routines
