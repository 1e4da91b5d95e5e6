pub mod Depths
pub mod Gaps
mod Examples
pub mod Masks
mod Orders
