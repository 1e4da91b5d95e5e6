pub mod Image
pub mod Format
pub mod Refusal
pub mod Table
pub mod View
pub mod Header
pub mod Cut
pub mod Search
