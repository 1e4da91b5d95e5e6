pub mod Shapes
pub mod Words
pub mod Paths
pub mod Frames
pub mod Laws
