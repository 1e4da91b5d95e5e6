pub mod Head
pub mod Printable
