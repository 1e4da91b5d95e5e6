pub mod Refusal
pub mod Loaded
pub mod Shows
