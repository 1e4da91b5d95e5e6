mod Samples
mod Operators
mod Simple
mod Routines
pub mod Growth
pub mod Limits
pub mod Laws
pub mod Avoids
pub mod Unstopped
