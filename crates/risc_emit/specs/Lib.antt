pub mod Layout
pub mod Meant
pub mod Frames
pub mod Passes
pub mod Marked
pub mod Placed
pub mod Emitted
