pub mod Between
pub mod Digits
pub mod Examples
pub mod Lines
