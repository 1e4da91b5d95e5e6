pub mod Added
pub mod Beginning
