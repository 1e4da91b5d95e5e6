pub mod Passes
pub mod Roomy
