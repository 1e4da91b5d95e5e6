pub mod Sizes
pub mod Forms
pub mod Fields
pub mod Weights
pub mod Laws
