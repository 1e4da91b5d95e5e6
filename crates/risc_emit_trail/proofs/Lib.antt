pub mod Filled
pub mod Frames
pub mod Limit
