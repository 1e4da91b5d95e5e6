pub mod Fits
pub mod Lowers
