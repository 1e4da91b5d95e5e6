pub mod Outcome
pub mod Plan
pub mod Emits
pub mod Drawn
pub mod Laws
