pub mod Called
pub mod Fronts
