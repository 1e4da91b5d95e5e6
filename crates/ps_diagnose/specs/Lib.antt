pub mod Begun
pub mod Changes
