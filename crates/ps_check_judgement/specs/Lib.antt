pub mod Judged
pub mod Changing
pub mod Refusal
