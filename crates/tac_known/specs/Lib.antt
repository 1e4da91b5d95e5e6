pub mod Kinds
pub mod Lean
pub mod Walk
pub mod Laws
pub mod Orders
pub mod Again
