pub mod Sets
pub mod Reading
pub mod Writes
