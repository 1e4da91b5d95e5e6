pub mod Whole
pub mod Going
pub mod Stuck
