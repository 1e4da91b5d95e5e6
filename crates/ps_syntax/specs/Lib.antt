pub mod First
pub mod Walks
pub mod Height
